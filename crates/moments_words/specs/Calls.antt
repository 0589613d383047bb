-- What the calls on named moments answer and leave where the present session stands in lent words.
use Rattle.std.specs.Prelude.{ℕ, cond, List, leb, length, Result, Ok, Err}
use Rattle.reuse.specs.declared.refusals.Refusal.{Refusal}
use Rattle.reuse.specs.declared.refusals.Refusal.TheVariants.{OutOfRange, NoRoom, Unsound, NameNotSet}
use Rattle.reuse_rows.specs.Rows.{put_at}
use Rattle.session.specs.Sessions.{sound}
use Rattle.session_layout.specs.Layout.{session_length, session_in, session_laid}
use Rattle.moments.specs.Names.{is_name, is_set, session_under, Named, not_named, name_call}

-- the session in the first words is put under name k; after 2 too few words are no sound session
unfoldable pub name_in : List ℕ → List ℕ → ℕ → Named
name_in w names k =
    cond (is_name k)
    (cond (leb session_length (length w))
    (name_call (session_in w) names k)
    (not_named Unsound names))
    (not_named OutOfRange names)

-- a return's answer, and the words after it
pub record Came : Type 0 where
  pub answer : Result Unit Refusal
  pub words : List ℕ

-- a return that is refused leaves every word
abbrev pub not_came : Refusal → List ℕ → Came
not_came n w = record { answer = Err n; words = w }

-- the session under name k comes to the front of the words: 2 for a number that is no name, 11 for a name that is not set,
-- 7 for a session under it that is not sound, 6 for too few words; whatever the words hold
unfoldable pub return_in : List ℕ → List ℕ → ℕ → Came
return_in w names k =
    cond (is_name k)
    (cond (is_set names k)
    (cond (sound (session_under names k))
    (cond (leb session_length (length w))
    (record { answer = Ok tt; words = put_at w 0 (session_laid (session_under names k)) })
    (not_came NoRoom w))
    (not_came Unsound w))
    (not_came NameNotSet w))
    (not_came OutOfRange w)
