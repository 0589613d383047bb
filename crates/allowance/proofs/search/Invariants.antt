-- `allowance::search` meets its contract. The invariant is `Searching`.
use mathlib.Core.Path.{◌≡◌}
use Rattle.allowance.proofs.Searching.{Searching}
use Rattle.allowance.proofs.search.Given as goal

abbrev pub invariant-loop-count : goal.invariant-loop-count
invariant-loop-count l = (l.size ≡ l.count-index) × Searching l.counts l.reads l.misses l.left l.size l.words_read
