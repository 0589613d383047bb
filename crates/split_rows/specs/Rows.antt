-- The rows of a split's table: a customer's misses at each size, and the least misses in each room with one customer more.
use Rattle.std.specs.Prelude.{ℕ, suc, ◌+◌, ◌-◌, ◌*◌, ◌%◌, ◌^◌, min, Bool, cond, ◌&&◌, List, map, length, drop, nat_le, slice_index}
use Rattle.reuse.specs.Limits.{max_extents, max_store}
use Rattle.reuse.specs.Lists.{from}
use Rattle.reuse.specs.Summary.{extents_of, misses_of}
use Rattle.reuse_rows.specs.Rows.{put_at}
use Rattle.split_calls.specs.Tables.{lowest}

-- the sizes from 0 to the most extents
abbrev pub sizes : ℕ
sizes = max_extents + 1

-- the rooms from 0 to the largest store
abbrev pub rooms : ℕ
rooms = max_store + 1

-- the misses of a summary's words at each size, in words of 32 bits
unfoldable pub misses_row : List ℕ → List ℕ
misses_row w = map (λ s. misses_of w s % 2 ^ 32) (from 0 sizes)

-- a customer's misses with a share and the others' with what it leaves of a room, in a word of 32 bits
abbrev pub together : List ℕ → List ℕ → ℕ → ℕ → ℕ
together w others room share = (misses_of w share + slice_index others (room - share)) % 2 ^ 32

-- the least of these, over the shares from the least one to v, as far as the room leaves the others theirs
unfoldable pub entry_of : List ℕ → ℕ → ℕ → List ℕ → ℕ → ℕ
entry_of w least low others room = lowest (together w others room) least (min (room - low) (extents_of w - least))

-- the customers' rows of misses, and the rows of the table
pub record Rows : Type 0 where
  pub costs : List ℕ
  pub table : List ℕ

-- there are the words that v asks for, within the limit; least share, rooms and store go up; both rows are long enough
unfoldable pub enterable : List ℕ → ℕ → ℕ → ℕ → ℕ → ℕ → Bool
enterable w least low store costs table =
    nat_le (extents_of w) max_extents
    && nat_le (2 + 3 * extents_of w) (length w)
    && nat_le least low
    && nat_le low store
    && nat_le store max_store
    && nat_le sizes costs
    && nat_le (rooms + rooms) table

-- one customer more before the others: its misses are put before theirs, and before their row of the table one of it and
-- them, in the rooms from `low` to the store; nothing where it does not fit
unfoldable pub entered_rows : List ℕ → ℕ → ℕ → ℕ → List ℕ → List ℕ → Rows
entered_rows w least low store costs table =
    cond (enterable w least low store (length costs) (length table))
    (record {
      costs = put_at costs 0 (misses_row w);
      table = put_at table low (map (entry_of w least low (drop rooms table)) (from low (suc store - low)));
    })
    (record { costs = costs; table = table })
