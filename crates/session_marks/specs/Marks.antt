-- Slots beside their marks: the marked ones, the slot of an extent, and the marked ones gathered.
use Rattle.std.specs.Prelude.{ℕ, zero, suc, ◌≤◌, ◌≡◌, List, [], ◌∷◌, Bool, true, Option, Some, None, cond, not, ◌&&◌, ◌||◌, eqb, leb, length, drop, get_or}
use Rattle.reuse.specs.Limits.{slot_count, right_count, levels}
use Rattle.reuse.specs.Lists.{distinct, sum}
use Rattle.session_sums.specs.Sums.{filled}
use Rattle.session_rights.specs.Rights.{marks_from}
use Rattle.session_marks.specs.declared.Found.{Found}

-- the extents of the marked slots, in the slots' order
unfoldable pub marked : List ℕ → List ℕ → List ℕ
marked [] xs = []
marked (m ∷ ms) [] = []
marked (m ∷ ms) (x ∷ xs) = cond (eqb m 1) (x ∷ marked ms xs) (marked ms xs)

-- each mark is 0 or 1, and an unmarked slot holds 0
unfoldable pub tidy : List ℕ → List ℕ → Bool
tidy [] xs = true
tidy (m ∷ ms) [] = true
tidy (m ∷ ms) (x ∷ xs) = leb m 1 && (eqb m 1 || eqb x 0) && tidy ms xs

-- the marked slot that holds x; the number of slots where none does
unfoldable pub slot_from : List ℕ → List ℕ → ℕ → ℕ
slot_from [] xs x = 0
slot_from (m ∷ ms) [] x = 0
slot_from (m ∷ ms) (y ∷ ys) x = cond (eqb m 1 && eqb x y) 0 (suc (slot_from ms ys x))

-- as many slots and marks as a session has
unfoldable pub paired : List ℕ → List ℕ → Bool
paired slots marks = eqb (length slots) slot_count && eqb (length marks) slot_count

-- slot i has the mark of x: it is marked and holds x
abbrev pub is_mark_of : List ℕ → List ℕ → ℕ → ℕ → Bool
is_mark_of slots marks x i = eqb (get_or slots i 0) x && eqb (get_or marks i 0) 1

-- the last slot below n that passes a test; the number of slots where none does
unfoldable pub last_of : (ℕ → Bool) → ℕ → ℕ
last_of test zero = slot_count
last_of test (suc i) = cond (test i) i (last_of test i)

-- the slots on the way there, one by one: from the one below n down to the one that passes, or else to slot 0
unfoldable pub looked_of : (ℕ → Bool) → ℕ → List ℕ
looked_of test zero = []
looked_of test (suc i) = i ∷ cond (test i) [] (looked_of test i)

-- the slots that a search for the mark of x looks at below n
abbrev pub looked_below : List ℕ → List ℕ → ℕ → ℕ → List ℕ
looked_below slots marks x n = looked_of (is_mark_of slots marks x) n

-- the same by the slots' words: slot i holds x, and is marked where x is 0, which unmarked slots hold too
abbrev pub holds : List ℕ → List ℕ → ℕ → ℕ → Bool
holds slots marks x i = eqb (get_or slots i 0) x && (not (eqb x 0) || eqb (get_or marks i 0) 1)

-- a slot; none for the number of slots
abbrev pub slot_at : ℕ → Option ℕ
slot_at k = cond (eqb k slot_count) None (Some k)

-- the search for x below next in a session's rows: the slot, where there is one, and how many were looked at; in other rows, or below a slot
-- that there is not, none is looked at
unfoldable pub found_in : List ℕ → ℕ → List ℕ → ℕ → ℕ → Found
found_in slots count rights next x =
    cond (eqb (length slots) slot_count && eqb (length rights) right_count && leb next slot_count)
    (record { slot = slot_at (last_of (holds slots (marks_from levels count rights) x) next); looked = length (looked_of (holds slots (marks_from levels count rights) x) next) })
    (record { slot = None; looked = 0 })

-- the marked slots of a session's rows moved, in order, to the first slots, 0 in the others; no marked slots in other rows
unfoldable pub gathered_row : List ℕ → List ℕ → List ℕ
gathered_row slots marks = filled slot_count (cond (paired slots marks) (marked marks slots) [])

-- slots whose marks stand below next, no extent twice
pub record Searched (slots marks : List ℕ) (next : ℕ) : Type 0 where
  pub slots-wide : length slots ≡ slot_count
  pub marks-wide : length marks ≡ slot_count
  pub low : next ≤ slot_count
  pub free : sum (drop next marks) ≡ 0
  pub neat : tidy marks slots ≡ true
  pub apart : distinct (marked marks slots) ≡ true
