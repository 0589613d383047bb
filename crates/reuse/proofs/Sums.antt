-- Sums of numbers: zeros, the rest from a place on, and one word changed.
use mathlib.Core.Path.{◌≡◌, refl}
use Prim.Native.Nat.{ℕ, zero, suc, ◌+◌, ◌≤◌, ◌<◌}
use native.Mathlib.Omega.{arith}
use mathlib.Core.List.{List, [], ◌∷◌}
use lib.ListN.{length, drop, get_or, set, replicate}
use Rattle.reuse.specs.Lists.{sum}

-- zeros repeated add up to 0
pub sum-blank-row : (k : ℕ) → sum (replicate k 0) ≡ 0
unfolding sum
sum-blank-row zero = refl
sum-blank-row (suc k) = let h : sum (replicate k 0) ≡ 0 = sum-blank-row k in omega arith

-- each of them is 0
pub get_or-blank-row : (k i : ℕ) → get_or {A = ℕ} (replicate k 0) i 0 ≡ 0
get_or-blank-row zero i = refl
get_or-blank-row (suc k) zero = refl
get_or-blank-row (suc k) (suc i) = get_or-blank-row k i

-- no word but 0 where the rest adds up to 0
pub free-at : (l : List ℕ) (n k : ℕ) → sum (drop n l) ≡ 0 → n ≤ k → get_or l k 0 ≡ 0
unfolding sum
free-at [] n k h g = refl
free-at (a ∷ l) zero zero h g = omega arith
free-at (a ∷ l) zero (suc k) h g = free-at l 0 k (omega arith) (omega arith)
free-at (a ∷ l) (suc n) zero h g = absurd (omega arith)
free-at (a ∷ l) (suc n) (suc k) h g = free-at l n k h (omega arith)

-- one more place is filled, and the rest stays 0
pub free_more : (l : List ℕ) (n x : ℕ) → sum (drop n l) ≡ 0 → sum (drop (suc n) (set l n x)) ≡ 0
unfolding sum
free_more [] n x h = refl
free_more (a ∷ l) zero x h = omega arith
free_more (a ∷ l) (suc n) x h = free_more l n x h

-- the rest from one place on
pub free_step : (l : List ℕ) (n : ℕ) → sum (drop n l) ≡ 0 → sum (drop (suc n) l) ≡ 0
unfolding sum
free_step [] n h = refl
free_step (a ∷ l) zero h = omega arith
free_step (a ∷ l) (suc n) h = free_step l n h

-- the rest of a list, by its next word
pub sum_drop : (i : ℕ) (l : List ℕ) → sum (drop i l) ≡ get_or l i 0 + sum (drop (suc i) l)
unfolding sum
sum_drop zero [] = refl
sum_drop (suc i) [] = refl
sum_drop zero (a ∷ l) = refl
sum_drop (suc i) (a ∷ l) = sum_drop i l

-- the rest adds up to no more than all
pub sum-drop-le : (i : ℕ) (l : List ℕ) → sum (drop i l) ≤ sum l
unfolding sum
sum-drop-le zero l = omega arith
sum-drop-le (suc i) [] = omega arith
sum-drop-le (suc i) (a ∷ l) = let h : sum (drop i l) ≤ sum l = sum-drop-le i l in omega arith

-- from a later place on it adds up to no more
pub sum-drop-falls : (c d : ℕ) (l : List ℕ) → c ≤ d → sum (drop d l) ≤ sum (drop c l)
sum-drop-falls zero d l h = sum-drop-le d l
sum-drop-falls (suc c) zero l h = absurd (omega arith)
sum-drop-falls (suc c) (suc d) [] h = omega arith
sum-drop-falls (suc c) (suc d) (a ∷ l) h = sum-drop-falls c d l (omega arith)

-- a word is no more than the sum of all
pub at-le-sum : (l : List ℕ) (j : ℕ) → get_or l j 0 ≤ sum l
at-le-sum l j = omega (arith, sum_drop j l, sum-drop-le j l)

-- one word set adds no more than its value
pub sum-set : (l : List ℕ) (s v : ℕ) → sum (set l s v) ≤ sum l + v
unfolding sum
sum-set [] s v = omega arith
sum-set (a ∷ l) zero v = omega arith
sum-set (a ∷ l) (suc s) v = let h : sum (set l s v) ≤ sum l + v = sum-set l s v in omega arith

-- one more counted at a place inside
pub sum_more : (l : List ℕ) (i : ℕ) → i < length l → sum (set l i (suc (get_or l i 0))) ≡ suc (sum l)
unfolding sum
sum_more [] i h = absurd (omega arith)
sum_more (x ∷ l) zero h = omega arith
sum_more (x ∷ l) (suc i) h = let g : sum (set l i (suc (get_or l i 0))) ≡ suc (sum l) = sum_more l i (omega arith) in omega arith
