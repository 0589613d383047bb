-- Well-formed words with their sizes, as calls hand them on.
use Rattle.std.specs.Prelude.{ℕ, ◌+◌, ◌*◌, ◌≤◌, ◌≡◌, List, true, length, get_or}
use Rattle.reuse.specs.Limits.{max_reads, max_extents}
use Rattle.reuse.specs.Summary.{well_formed}

-- the sizes of well-formed words, by the words themselves
pub record Shaped (w : List ℕ) : Type 0 where
  pub long : length w ≡ 2 + 3 * get_or w 1 0
  pub few : get_or w 1 0 ≤ max_extents
  pub short : get_or w 0 0 ≤ max_reads

-- well-formed words, with their sizes
pub record Given (w : List ℕ) : Type 0 where
  pub formed : well_formed w ≡ true
  pub shape : Shaped w
