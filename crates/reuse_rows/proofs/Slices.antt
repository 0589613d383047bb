-- Turns of small loops over a slice.
use mathlib.Core.Path.{◌≡◌, sym, ap, ◌∙◌}
use Prim.Native.Nat.{ℕ, ◌+◌, ◌-◌, ◌≤◌, ◌<◌}
use native.Mathlib.Omega.{arith}
use native.Mathlib.Numerals.{add-one}
use mathlib.Core.List.{List, ◌∷◌}
use mathlib.Core.Bool.{Bool, true, false, ◌||◌, ◌&&◌, or-true, or-false, and-true, and-false}
use lib.ListN.{length, take, drop, get_or, drop_of_length-le, length-drop}
use lib.Seq.{drop-cons, take_all}
use borrow.Author.Tests.{eq-eqb, ne_eqb}
use Rattle.reuse.specs.Lists.{mem}
use Rattle.reuse_rows.specs.Rows.{blank}

-- what is left, from the next word on
pub next_word : (s : List ℕ) (i : ℕ) → i < length s → drop i s ≡ get_or s i 0 ∷ drop (i + 1) s
next_word s i l = rw (add-one i) (drop-cons s i 0 l)

-- a part that goes to the end of a row
pub part-rest : (s : List ℕ) (k : ℕ) → take (length s - k) (drop k s) ≡ drop k s
part-rest s k = take_all (length s - k) (drop k s) (simp length-drop (omega arith))

-- x was found among the first i words, or it is in the slice where it is in what is left
pub record Looked (s : List ℕ) (x : ℕ) (found : Bool) (i : ℕ) : Type 0 where
  pub same : (found || mem x (drop i s)) ≡ mem x s

module _ (s : List ℕ) (x : ℕ) where
  module _ (found : Bool) (i : ℕ) (h : Looked s x found i) where
    -- the word is x
    pub look_hit : i < length s → get_or s i 0 ≡ x → Looked s x true (i + 1)
    unfolding mem
    look_hit l e = record {
      same = sym (sym h.same ∙ rw (next_word s i l) (simp (eq-eqb x (get_or s i 0) (sym e), or-true)));
    }

    -- it is not
    pub look-miss : i < length s → (get_or s i 0 ≡ x → ⊥) → Looked s x found (i + 1)
    unfolding mem
    look-miss l e = record {
      same = sym (sym h.same ∙ rw (next_word s i l) (simp (ne_eqb x (get_or s i 0) (λ q. e (sym q)))));
    }

    -- no word is left
    pub look-end : length s ≤ i → found ≡ mem x s
    unfolding mem
    look-end l = sym (sym h.same ∙ rw (drop_of_length-le s {i = i} l) (or-false found))

-- a flag that is down at the first fault: it, and the test of what is left, are the test of all
abbrev pub Passing : Bool → Bool → Bool → Type 0
Passing flag rest all = flag && rest ≡ all

-- one more that passes
pub passed : (flag : Bool) {rest more all : Bool} → Passing flag rest all → rest ≡ more → Passing flag more all
passed flag h e = ap (λ (b : Bool). flag && b) (sym e) ∙ h

-- one that fails
pub failed : (flag : Bool) {rest all : Bool} → Passing flag rest all → rest ≡ false → false ≡ all
failed flag h e = sym (ap (λ (b : Bool). flag && b) e ∙ and-false flag) ∙ h

-- nothing is left
pub ended : (flag : Bool) {rest all : Bool} → Passing flag rest all → rest ≡ true → flag ≡ all
ended flag h e = sym (ap (λ (b : Bool). flag && b) e ∙ and-true flag) ∙ h

module _ (s : List ℕ) (i : ℕ) (l : i < length s) where
  -- one more word that is 0
  pub zero-hit : get_or s i 0 ≡ 0 → blank (drop i s) ≡ blank (drop (i + 1) s)
  unfolding blank
  zero-hit e = ap blank (next_word s i l) ∙ simp (eq-eqb (get_or s i 0) 0 e)

  -- a word that is not
  pub zero-miss : (get_or s i 0 ≡ 0 → ⊥) → blank (drop i s) ≡ false
  unfolding blank
  zero-miss e = ap blank (next_word s i l) ∙ simp (ne_eqb (get_or s i 0) 0 e)
