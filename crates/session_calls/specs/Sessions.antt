-- A session with all sums of the tree over its slots (01, 'Session, slots and sums'): its marks, the LRU stack in its slots,
-- and when it is sound.
use Rattle.std.specs.Prelude.{ℕ, ◌≡◌, List, reverse, Bool, ◌&&◌, length, take, replicate}
use Rattle.reuse.specs.Lists.{sum}
use Rattle.reuse.specs.Limits.{max_extents, slot_count, sum_count, levels}
use Rattle.session_sums.specs.Sums.{sums_of, marks_in, same}
use Rattle.session_marks.specs.Marks.{marked}
use Rattle.session_soundness.specs.Soundness.{sound_rows}

-- L, F and H, the slots with the sums over their marks, and the next slot
pub record FullSession : Type 0 where
  pub reads : ℕ
  pub first : List ℕ
  pub hist : List ℕ
  pub slots : List ℕ
  pub sums : List ℕ
  pub next : ℕ

-- the widths of its rows
pub record FullWide (s : FullSession) : Type 0 where
  pub first-wide : length s.first ≡ max_extents
  pub hist-wide : length s.hist ≡ max_extents
  pub slots-wide : length s.slots ≡ slot_count
  pub sums-wide : length s.sums ≡ sum_count

-- a new session
abbrev pub fresh : FullSession
fresh = record {
  reads = 0;
  first = replicate max_extents 0;
  hist = replicate max_extents 0;
  slots = replicate slot_count 0;
  sums = replicate sum_count 0;
  next = 0;
}

-- the leaves of the sums: 1 where the slot is marked
unfoldable pub marks : FullSession → List ℕ
marks s = marks_in s.sums

-- v: how many slots are marked
unfoldable pub extents : FullSession → ℕ
extents s = sum (marks s)

-- the LRU stack that the slots hold, newest first
unfoldable pub stack_of : FullSession → List ℕ
stack_of s = reverse (marked (marks s) s.slots)

-- F: the first v words of its row
unfoldable pub first_row : FullSession → List ℕ
first_row s = take (extents s) s.first

-- what 01 asks of a sound session: its rows, and true sums
unfoldable pub sound : FullSession → Bool
sound s = sound_rows s.reads s.first s.hist s.slots (marks s) s.next && same s.sums (sums_of levels (marks s))
