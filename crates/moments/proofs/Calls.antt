-- The calls on named moments, case by case.
use Rattle.std.specs.Prelude.{Ok}
use Rattle.reuse.specs.declared.refusals.Refusal.TheVariants.{OutOfRange, NoRoom, Unsound, NameNotSet}
use mathlib.Core.Path.{◌≡◌, refl, sym, ap, ◌∙◌}
use Prim.Native.Nat.{ℕ, ◌+◌, ◌<◌, ◌≤◌}
use native.Mathlib.Omega.{arith}
use mathlib.Core.List.{List, ◌++◌}
use mathlib.Core.Bool.{true, false}
use lib.ListN.{length, take, drop, get_or, replicate, length-replicate}
use lib.Seq.{length-take-le}
use borrow.Author.Tests.{le-leb}
use Rattle.reuse.proofs.Sums.{get_or-blank-row}
use Rattle.reuse_rows.specs.Rows.{put_at}
use Rattle.summary_calls.specs.Calls.{refused}
use Rattle.summary_calls.proofs.Calls.{wrote-short, wrote-all}
use Rattle.session.specs.declared.Session.{Session}
use Rattle.session.specs.Sessions.{sound}
use Rattle.moments.specs.Names.{place_length, names_length, is_name, place_start, lies, is_set, session_under, named_in, unnamed, new_names, Named, not_named, name_call, not_returned, return_call}

module _ (s : Session) (names : List ℕ) (k : ℕ) where
  -- a number that is no name
  module _ (not-one : is_name k ≡ false) where
    pub name-not : name_call s names k ≡ not_named OutOfRange names
    unfolding name_call
    name-not = simp not-one

    pub return-not : return_call s names k ≡ not_returned OutOfRange s
    unfolding return_call
    return-not = simp not-one

  module _ (is : is_name k ≡ true) where
    module _ (ok : sound s ≡ true) where
      -- a place past the words
      pub name-short : lies (length names) k ≡ false → name_call s names k ≡ not_named NoRoom names
      unfolding name_call
      name-short e = simp (is, ok, e)

      -- a sound session is put under a name whose place lies within the words
      pub name_done : lies (length names) k ≡ true → name_call s names k ≡ record { answer = Ok tt; names = named_in names k s }
      unfolding name_call
      name_done e = simp (is, ok, e)

    -- a name that is not set
    pub return-unset : is_set names k ≡ false → return_call s names k ≡ not_returned NameNotSet s
    unfolding return_call
    return-unset e = simp (is, e)

    module _ (set : is_set names k ≡ true) where
      -- a session under it that is not sound
      pub return-unsound : sound (session_under names k) ≡ false → return_call s names k ≡ not_returned Unsound s
      unfolding return_call
      return-unsound e = simp (is, set, e)

      -- a sound one is returned to, whatever session is present
      pub return-done : sound (session_under names k) ≡ true → return_call s names k ≡ record { session = session_under names k; answer = Ok tt }
      unfolding return_call
      return-done e = simp (is, set, e)

-- the answer of a naming and the words after it, apart
pub apart : (v w : Named) → v ≡ w → (w.answer ≡ v.answer) × (w.names ≡ v.names)
apart v w e = (sym (ap (λ (n : Named). n.answer) e), sym (ap (λ (n : Named). n.names) e))

-- a row of n words that are all 0
module _ (n : ℕ) (row : List ℕ) (e : row ≡ replicate n 0) where
  blank-length : length row ≡ n
  blank-length = ap length e ∙ length-replicate {A = ℕ} n 0

  blank-at : (i : ℕ) → get_or row i 0 ≡ 0
  blank-at i = ap (λ (l : List ℕ). get_or l i 0) e ∙ get_or-blank-row n i

  -- as many as the front of another
  blank-front : (names : List ℕ) → n ≤ length names → row ≡ replicate (length (take n names)) 0
  blank-front names h = e ∙ ap (λ (m : ℕ). replicate m 0) (sym (length-take-le n names h))

-- the words of new names are such a row
unnamed-blank : unnamed ≡ replicate names_length 0
unfolding unnamed
unnamed-blank = refl

pub unnamed-length : length unnamed ≡ names_length
unnamed-length = blank-length names_length unnamed unnamed-blank

pub unnamed-at : (i : ℕ) → get_or unnamed i 0 ≡ 0
unnamed-at = blank-at names_length unnamed unnamed-blank

-- words in which no name is set: too few, or enough
module _ (names : List ℕ) where
  pub new-short : length names < names_length → new_names names ≡ refused NoRoom names
  unfolding new_names
  new-short h = wrote-short unnamed names (omega (arith, h, unnamed-length))

  -- words put to the front
  put_front : put_at names 0 unnamed ≡ unnamed ++ drop names_length names
  unfolding put_at
  put_front = let z : 0 + length unnamed ≡ length unnamed = omega arith in ap (λ (n : ℕ). unnamed ++ drop n names) (z ∙ unnamed-length)

  -- new words at the front, the rest as it was
  pub new-laid : names_length ≤ length names → new_names names ≡ record { answer = Ok names_length; buffer = unnamed ++ drop names_length names }
  unfolding new_names
  new-laid h =
      wrote-all unnamed names names_length unnamed-length h
      ∙ ap (λ (b : List ℕ). record { answer = Ok names_length; buffer = b }) put_front

  -- the front is cleared, the rest is as it was
  pub new-all : names_length ≤ length names → (y : List ℕ) → y ≡ replicate (length (take names_length names)) 0
      → new_names names ≡ record { answer = Ok names_length; buffer = y ++ drop names_length names }
  new-all h y e =
      new-laid h
      ∙ ap (λ (l : List ℕ). record { answer = Ok names_length; buffer = l ++ drop names_length names })
      (blank-front names_length unnamed unnamed-blank names h ∙ sym e)

module _ (lent k : ℕ) where
  -- a place lies within the words where it ends there
  pub lies_within : place_start k + place_length ≤ lent → lies lent k ≡ true
  unfolding lies
  lies_within h = le-leb (place_start k + place_length) lent h
