-- The tree of sums over a row of leaves: the leaves first, then each level above, the root last.
use Rattle.std.specs.Prelude.{ℕ, zero, suc, ◌+◌, ◌-◌, ◌/◌, ◌%◌, ◌≤◌, min, ◌≡◌, List, [], ◌∷◌, ◌++◌, Bool, true, false, cond, ◌&&◌, eqb, length, take, replicate}
use Rattle.reuse.specs.Lists.{sum}
use Rattle.reuse.specs.Limits.{slot_count}

-- the level above: neighbours added two by two
unfoldable pub pairs : List ℕ → List ℕ
pairs [] = []
pairs (x ∷ []) = x ∷ []
pairs (x ∷ y ∷ l) = (x + y) ∷ pairs l

-- the leaves and d levels over them
unfoldable pub sums_of : ℕ → List ℕ → List ℕ
sums_of zero l = l
sums_of (suc d) l = l ++ sums_of d (pairs l)

-- the zeros among the lowest d binary digits of s
unfoldable pub zeros : ℕ → ℕ → ℕ
zeros zero s = 0
zeros (suc d) s = (1 - s % 2) + zeros d (s / 2)

-- the right-hand neighbours on the way up from place p over d levels, wherever it leaves a left child; n leaves stand first
unfoldable pub neighbours : ℕ → ℕ → ℕ → List ℕ
neighbours n zero p = []
neighbours n (suc d) p = cond (eqb (p % 2) 0) ((p + 1) ∷ neighbours n d (n + p / 2)) (neighbours n d (n + p / 2))

-- the two lists are equal
unfoldable pub same : List ℕ → List ℕ → Bool
same [] [] = true
same [] (y ∷ ys) = false
same (x ∷ xs) [] = false
same (x ∷ xs) (y ∷ ys) = eqb x y && same xs ys

-- the leaves of the sums: 1 where the slot is marked
abbrev pub marks_in : List ℕ → List ℕ
marks_in sums = take slot_count sums

-- l, and 0 after it up to n words
unfoldable pub filled : ℕ → List ℕ → List ℕ
filled n l = l ++ replicate (n - length l) 0

-- marks in the first v slots, all slots where v is more
unfoldable pub first_marks : ℕ → List ℕ
first_marks v = filled slot_count (replicate (min v slot_count) 1)

-- the sums are true over their first n, the leaves, and count no more than n
pub record Trued (d n : ℕ) (sums : List ℕ) : Type 0 where
  pub full : length (take n sums) ≡ n
  pub true-sums : sums ≡ sums_of d (take n sums)
  pub few : sum (take n sums) ≤ n
