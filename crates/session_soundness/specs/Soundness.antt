-- When the fields of a session are sound.
use Rattle.std.specs.Prelude.{ℕ, ◌+◌, ◌≡◌, List, reverse, Bool, ◌&&◌, eqb, leb, length, take, drop}
use Rattle.reuse.specs.Lists.{distinct, all_in, sum}
use Rattle.reuse.specs.Limits.{max_reads, max_extents, slot_count, right_count, levels}
use Rattle.reuse_rows.specs.Rows.{blank}
use Rattle.session_rights.specs.Rights.{marks_from, rightly}
use Rattle.session_marks.specs.Marks.{marked, tidy}

-- v: how many slots are marked
abbrev pub extents_in : List ℕ → ℕ
extents_in marks = sum marks

-- the LRU stack that the slots hold, newest first
abbrev pub stack_in : List ℕ → List ℕ → List ℕ
stack_in slots marks = reverse (marked marks slots)

-- F: the first v words of its row
abbrev pub first_in : List ℕ → List ℕ → List ℕ
first_in first marks = take (extents_in marks) first

-- what 01 asks of a sound session, clause by clause, but for its sums
unfoldable pub sound_rows : ℕ → List ℕ → List ℕ → List ℕ → List ℕ → ℕ → Bool
sound_rows reads first hist slots marks next =
    -- no more marks than the limit of extents, all below next
    leb (extents_in marks) max_extents
    && blank (drop next marks)
    -- next at most the number of slots
    && leb next slot_count
    -- different extents in the marked slots, and 0 in the others
    && distinct (stack_in slots marks)
    && tidy marks slots
    -- F with those extents once each, and 0 after them
    && distinct (first_in first marks)
    && all_in (first_in first marks) (stack_in slots marks)
    && all_in (stack_in slots marks) (first_in first marks)
    && blank (drop (extents_in marks) first)
    -- H 0 above v
    && blank (drop (extents_in marks) hist)
    -- L equal to v plus the sum of H, and at most the limit of reads
    && eqb reads (extents_in marks + sum hist)
    && leb reads max_reads

-- rows as wide as a session's, a count and right-hand sums that some marks give, and all else sound over these marks
unfoldable pub intact_rows : ℕ → List ℕ → List ℕ → List ℕ → ℕ → List ℕ → ℕ → Bool
intact_rows reads first hist slots count rights next =
    eqb (length first) max_extents
    && eqb (length hist) max_extents
    && eqb (length slots) slot_count
    && eqb (length rights) right_count
    && rightly levels count rights
    && sound_rows reads first hist slots (marks_from levels count rights) next

-- the widths of a session's rows, its marks among them
pub record Wide (first hist slots marks : List ℕ) : Type 0 where
  pub first-wide : length first ≡ max_extents
  pub hist-wide : length hist ≡ max_extents
  pub slots-wide : length slots ≡ slot_count
  pub marks-wide : length marks ≡ slot_count

-- the tests of the marks: below next, and tidy beside their slots
unfoldable pub marks_hold : List ℕ → List ℕ → ℕ → Bool
marks_hold slots marks next =
    leb next slot_count
    && tidy marks slots
    && blank (drop next marks)
