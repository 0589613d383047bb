-- What the steps of entering one customer stand on, and what they leave.
use Rattle.std.specs.Prelude.{ℕ, suc, ◌+◌, ◌-◌, ◌*◌, ◌%◌, ◌^◌, ◌<◌, ◌≤◌, min, List, map, length, drop, slice_index}
use Rattle.reuse.specs.Limits.{max_extents, max_store}
use Rattle.reuse.specs.Lists.{from}
use Rattle.reuse_rows.specs.Rows.{put_at}
use Rattle.split_calls.specs.Tables.{lowest}
use Rattle.split_rows.specs.Rows.{rooms}

-- words with F, R and H, as many as v says
pub record Whole (w : List ℕ) : Type 0 where
  pub few : slice_index w 1 ≤ max_extents
  pub long : 2 + 3 * slice_index w 1 ≤ length w

-- the sum of place i of one row and the place as far before `left` of another, in a word of 32 bits
abbrev pub pair_sum : List ℕ → List ℕ → ℕ → ℕ → ℕ
pair_sum own others left i = (slice_index own i + slice_index others (left - i)) % 2 ^ 32

-- two rows in which the least of these can be looked for
pub record Tries (own others : List ℕ) (left tries : ℕ) : Type 0 where
  pub there : tries < length own
  pub within : tries ≤ left
  pub inside : left < length others

-- a table whose first row can be made from its second
pub record Fillable (own : List ℕ) (span least low store : ℕ) (table : List ℕ) : Type 0 where
  pub there : span < length own
  pub least-low : least ≤ low
  pub fits : low ≤ store
  pub small : store ≤ max_store
  pub long : rooms + rooms ≤ length table

-- the entry of a room
abbrev pub entry_by : List ℕ → ℕ → ℕ → ℕ → List ℕ → ℕ → ℕ
entry_by own span least low others room = lowest (pair_sum own others (room - least)) 0 (min (room - low) span)

-- the first row made in the rooms from `low` to the store
abbrev pub filled_row : List ℕ → ℕ → ℕ → ℕ → ℕ → List ℕ → List ℕ
filled_row own span least low store table = put_at table low (map (entry_by own span least low (drop rooms table)) (from low (suc store - low)))
