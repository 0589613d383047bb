-- Words whose histograms can be joined, and the row that has H of the join.
use Rattle.std.specs.Prelude.{◌≡◌, ℕ, ◌≤◌, List, map, length, take}
use Rattle.reuse.specs.Limits.{max_extents}
use Rattle.reuse.specs.Lists.{from}
use Rattle.reuse.specs.Summary.{joined_first, joined_count}
use Rattle.summary_calls.specs.Shapes.{Given}

-- words whose join has no more extents than the limit
pub record Near (a b : List ℕ) : Type 0 where
  pub left : Given a
  pub right : Given b
  pub few : length (joined_first a b) ≤ max_extents

-- H of the join at the front of as many words as the limit of extents
pub record JoinedRow (a b row : List ℕ) : Type 0 where
  pub size : length row ≡ max_extents
  pub front : (v : ℕ) → v ≤ max_extents → take v row ≡ map (joined_count a b) (from 1 v)
