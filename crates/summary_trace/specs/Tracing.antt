-- What the private calls of a trace's summary rely on and leave.
use Rattle.std.specs.Prelude.{ℕ, suc, ◌≤◌, min, ◌≡◌, List, reverse, length, take, get_or}
use Rattle.reuse.specs.Limits.{max_reads, max_extents}
use Rattle.reuse.specs.Lists.{firsts, cleanup}
use Rattle.reuse.specs.Summary.{histogram}

-- rows for the stack, the first reads and the counts of a trace: as many words as the limit of extents, and no count yet
pub record Blank (trace stack first hist : List ℕ) : Type 0 where
  pub short : length trace ≤ max_reads
  pub stack-wide : length stack ≡ max_extents
  pub first-wide : length first ≡ max_extents
  pub hist-wide : length hist ≡ max_extents
  pub none : (i : ℕ) → get_or hist i 0 ≡ 0

-- R, F and H of a trace of v extents at the front of these rows
pub record Fronts (trace stack first hist : List ℕ) (v : ℕ) : Type 0 where
  pub recent : take v stack ≡ reverse (cleanup trace)
  pub listed : take v first ≡ firsts trace
  pub counted : take v hist ≡ histogram trace

-- the extents of a trace counted to one more than the limit, and within it the rows of its summary
pub record Taken (trace stack first hist : List ℕ) (r : ℕ) : Type 0 where
  pub extents : r ≡ min (length (firsts trace)) (suc max_extents)
  pub fronts : r ≤ max_extents → Fronts trace stack first hist r
