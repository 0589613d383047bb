-- Distances counted in a row of words.
use Rattle.std.specs.Prelude.{ℕ, suc, ◌+◌, ◌<◌, ◌≡◌, List, length, get_or}
use Rattle.reuse.specs.Lru.{Reuse, count_at}

-- `row` is s with the distances among these answers counted, d at place d - 1
pub record Counted (s : List ℕ) (answers : List Reuse) (row : List ℕ) : Type 0 where
  pub size : length row ≡ length s
  pub each : (i : ℕ) → i < length s → get_or row i 0 ≡ get_or s i 0 + count_at answers (suc i)
