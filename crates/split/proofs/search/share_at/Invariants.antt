-- `split::search::share_at` meets its contract. The invariant: no share before this one reaches the misses.
use Rattle.std.proofs.Common.{ℕ, ◌<◌, ◌≤◌, ◌≢◌}
use Rattle.split.specs.Search.{with_share}
use Rattle.split.proofs.search.share_at.Given as goal

abbrev pub invariant-loop-share : goal.invariant-loop-share
invariant-loop-share l = (u : ℕ) → l.least ≤ u → u < l.share → with_share l.costs l.others l.left u ≢ l.misses
