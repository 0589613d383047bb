-- Traces within the limits.
use Rattle.std.specs.Prelude.{ℕ, ◌≤◌, List, length}
use Rattle.reuse.specs.Limits.{max_reads, max_extents}
use Rattle.reuse.specs.Lists.{firsts}

-- a log within the limits
pub record Within (t : List ℕ) : Type 0 where
  pub reads : length t ≤ max_reads
  pub extents : length (firsts t) ≤ max_extents
