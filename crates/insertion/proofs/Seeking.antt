-- The search for an extent in a row: the words before it.
use mathlib.Core.Path.{◌≡◌, refl, sym, ap}
use mathlib.Core.Bool.{false}
use mathlib.Core.Logic.{◌≢◌}
use Prim.Native.Nat.{ℕ, zero, suc, ◌≤◌, ◌<◌}
use native.Mathlib.Omega.{arith}
use mathlib.Core.List.{List, [], ◌∷◌}
use lib.ListN.{length, get_or}
use borrow.Author.Tests.{ne_eqb}
use Rattle.std.specs.Prelude.{EachIndex, MatchOption, is_some}
use Rattle.std.proofs.Common.{Option, None, Some}
use Rattle.std.specs.Option.{unwrap_or}
use Rattle.reuse.specs.Lists.{mem, before}
use Rattle.reuse.proofs.Lists.{eqb_same, mem-at}

-- x is none of the first i words, and it is the next one, or there is no more: i words stand before x
pub before_upto : (row : List ℕ) (x i : ℕ) → i ≤ length row → ((k : ℕ) → k < i → get_or row k 0 ≢ x) → (i < length row → get_or row i 0 ≡ x) → i ≡ length (before x row)
unfolding before
before_upto [] x i h n e = omega arith
before_upto (y ∷ row) x zero h n e = let q : y ≡ x = e (omega arith) in rw q (simp eqb_same)
before_upto (y ∷ row) x (suc i) h n e =
    let r : i ≡ length (before x row) = before_upto row x i (omega arith) (λ k l. n (suc k) (omega arith)) (λ l. e (omega arith)) in
    simp (ne_eqb x y (λ q. n 0 (omega arith) (sym q))) (ap suc r)

-- what the search for x in a row finds
abbrev pub Sought : List ℕ → ℕ → Option ℕ → Type 0
Sought row x p =
    MatchOption p (EachIndex row (λ k. get_or row k 0 ≢ x)) (λ i. (i < length row) × (get_or row i 0 ≡ x) × ((k : ℕ) → k < i → get_or row k 0 ≢ x))

-- x is none of the words: it does not stand in the row
absent : (row : List ℕ) (x : ℕ) → ((k : ℕ) → k < length row → get_or row k 0 ≢ x) → mem x row ≡ false
unfolding mem
absent [] x n = refl
absent (y ∷ row) x n = simp (ne_eqb x y (λ q. n 0 (omega arith) (sym q)), absent row x (λ k l. n (suc k) (omega arith)))

-- there is a place of x exactly if it stands in the row
pub known_place : (row : List ℕ) (x : ℕ) (p : Option ℕ) → Sought row x p → is_some p ≡ mem x row
known_place row x None h = sym (absent row x h)
known_place row x (Some i) (l, e, n) = sym (mem-at row i x l e)

-- as many stand before x as before its first place, or all
pub before_place : (row : List ℕ) (x : ℕ) (p : Option ℕ) → Sought row x p → unwrap_or p (length row) ≡ length (before x row)
before_place row x None h = before_upto row x (length row) (omega arith) h (λ l. absurd (omega arith))
before_place row x (Some i) (l, e, n) = before_upto row x i (omega arith) n (λ _. e)
