-- What the private part of the call relies on.
use Rattle.std.specs.Prelude.{◌+◌, ◌≤◌, List, ℕ, length}
use Rattle.reuse.specs.Limits.{max_extents}

-- no more extents than the limit, and room for F, R and H after two words
pub record Writable (first recent counts out : List ℕ) : Type 0 where
  pub few : length first ≤ max_extents
  pub room : 2 + length first + length recent + length counts ≤ length out
