-- What the search over H relies on, and what it answers.
use Rattle.allowance_calls.specs.declared.SmallestCache.{SmallestCache}
use Rattle.std.specs.Prelude.{ℕ, ◌≤◌, List, length}
use Rattle.reuse.specs.Limits.{max_extents}
use Rattle.reuse.specs.Lists.{sum}

-- counts no more than a summary has, of no more reads than these
pub record Searchable (counts : List ℕ) (reads : ℕ) : Type 0 where
  pub few : length counts ≤ max_extents
  pub within : sum counts ≤ reads

-- the answer after a search that read these words: a size that is as many, and how many they are
abbrev pub found_by : List ℕ → SmallestCache
found_by ws = record { size = length ws; words_read = length ws }
