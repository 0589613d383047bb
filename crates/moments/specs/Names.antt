-- Named moments (02, ask 5): a place for each name in words that the caller lends, and the calls on them.
use Rattle.std.specs.Prelude.{ℕ, ◌+◌, ◌-◌, ◌*◌, Bool, cond, not, ◌&&◌, List, ◌∷◌, eqb, leb, length, drop, get_or, replicate, Result, Ok, Err}
use Rattle.reuse.specs.declared.refusals.Refusal.{Refusal}
use Rattle.reuse.specs.declared.refusals.Refusal.TheVariants.{OutOfRange, NoRoom, Unsound, NameNotSet}
use Rattle.reuse.specs.Limits.{max_names}
use Rattle.reuse_rows.specs.Rows.{put_at}
use Rattle.summary_calls.specs.Calls.{Wrote, wrote}
use Rattle.session.specs.declared.Session.{Session}
use Rattle.session.specs.Sessions.{sound}
use Rattle.session_layout.specs.Layout.{session_length, part, session_in, session_laid}
use Rattle.moments.specs.declared.Returned.{Returned}

-- the words of one place: whether its name is set, then a session's words
abbrev pub place_length : ℕ
place_length = 1 + session_length

-- the words of all places
abbrev pub names_length : ℕ
names_length = max_names * place_length

-- k is a name: a number from 1 to 8
unfoldable pub is_name : ℕ → Bool
is_name k = leb 1 k && leb k max_names

-- where the place of name k starts
unfoldable pub place_start : ℕ → ℕ
place_start k = (k - 1) * place_length

-- the place of name k lies within so many words
unfoldable pub lies : ℕ → ℕ → Bool
lies lent k = leb (place_start k + place_length) lent

-- the words of that place
unfoldable pub place_words : List ℕ → ℕ → List ℕ
place_words names k = part (place_start k) place_length names

-- k is a name that is set in these words: its place lies within them, and the first word of the place is not 0
unfoldable pub is_set : List ℕ → ℕ → Bool
is_set names k = is_name k && (lies (length names) k && not (eqb (get_or (place_words names k) 0 0) 0))

-- the session under name k
unfoldable pub session_under : List ℕ → ℕ → Session
session_under names k = session_in (drop 1 (place_words names k))

-- the words with the session under name k: its place has 1 and the session's words, every other word is as it was
unfoldable pub named_in : List ℕ → ℕ → Session → List ℕ
named_in names k s = put_at names (place_start k) (1 ∷ session_laid s)

-- words for all places, all 0
unfoldable pub unnamed : List ℕ
unnamed = replicate names_length 0

-- words in which no name is set, or 6
unfoldable pub new_names : List ℕ → Wrote
new_names names = wrote unnamed names

-- a naming's answer, and the words after it
pub record Named : Type 0 where
  pub answer : Result Unit Refusal
  pub names : List ℕ

-- a naming that is refused leaves every word
abbrev pub not_named : Refusal → List ℕ → Named
not_named n names = record { answer = Err n; names = names }

-- the session is put under name k: 2 for a number that is no name, 7 for a session that is not sound, 6 for a place that
-- does not lie within the words
unfoldable pub name_call : Session → List ℕ → ℕ → Named
name_call s names k =
    cond (is_name k)
    (cond (sound s)
    (cond (lies (length names) k)
    (record { answer = Ok tt; names = named_in names k s })
    (not_named NoRoom names))
    (not_named Unsound names))
    (not_named OutOfRange names)

-- a return that is refused leaves the present session
abbrev pub not_returned : Refusal → Session → Returned
not_returned n s = record { session = s; answer = Err n }

-- the session under name k becomes the present one: 2 for a number that is no name, 11 for a name that is not set in these
-- words, 7 for a session under it that is not sound; whatever the present one is
unfoldable pub return_call : Session → List ℕ → ℕ → Returned
return_call s names k =
    cond (is_name k)
    (cond (is_set names k)
    (cond (sound (session_under names k))
    (record { session = session_under names k; answer = Ok tt })
    (not_returned Unsound s))
    (not_returned NameNotSet s))
    (not_returned OutOfRange s)
