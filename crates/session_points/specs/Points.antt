-- What the walks over a session's right-hand sums read, change and work out, on every row.
use Rattle.std.specs.Prelude.{◌≡◌, ℕ, ◌+◌, ◌%◌, ◌^◌, ◌≤◌, Bool, false, cond, ◌&&◌, List, map, length, ◌==◌, nat_lt, slice_index}
use Rattle.reuse.specs.Lists.{sum}
use Rattle.reuse.specs.Limits.{slot_count, right_count, levels}
use Rattle.session_rights.specs.Rights.{marks_from, in_totals}
use Rattle.session_rights.specs.Ways.{from_left, from_right, changed, total_at}
use Rattle.session_points.specs.declared.Walked.{Walked}

-- as many words as a session has right-hand sums, and a slot
unfoldable pub of_slot : List ℕ → ℕ → Bool
of_slot rights s = length rights == right_count && nat_lt s slot_count

-- the total of the right-hand sums that the way up from slot s passes on their left, and how many they are; none where
-- there is no such slot
unfoldable pub walked_up : List ℕ → ℕ → Walked
walked_up rights s =
    cond (of_slot rights s)
    (record { total = sum (map (λ p. slice_index rights p) (from_left levels 0 s)); count = length (from_left levels 0 s) })
    (record { total = 0; count = 0 })

-- each right-hand sum that the way up from slot s reaches from the right, changed by c modulo 2^32; none where there is no such slot
unfoldable pub changed_by : ℕ → List ℕ → ℕ → List ℕ
changed_by c rights s = cond (nat_lt s slot_count) (changed (λ n. (n + c) % 2 ^ 32) (from_right levels 0 s) rights) rights

-- the mark of slot s worked out along its way; 0 where there is no such slot
unfoldable pub mark_at : ℕ → List ℕ → ℕ → ℕ
mark_at count rights s = cond (of_slot rights s) (total_at levels 0 count rights s) 0

-- what is worked out: whether no right-hand sum is above its point's total, and the row with the marks
pub record Worked : Type 0 where
  pub within : Bool
  pub marks : List ℕ

-- the marks worked out from the root down, over a row; rows of other lengths are left
unfoldable pub worked_out : ℕ → List ℕ → List ℕ → Worked
worked_out count rights row =
    cond (length rights == right_count && length row == slot_count)
    (record { within = in_totals levels count rights; marks = marks_from levels count rights })
    (record { within = false; marks = row })

-- a level of m totals at the front of the slots, and as many right-hand sums
pub record Level (marks : List ℕ) (m : ℕ) (rights : List ℕ) : Type 0 where
  pub room : length marks ≡ slot_count
  pub half : m + m ≤ slot_count
  pub each : length rights ≡ m
