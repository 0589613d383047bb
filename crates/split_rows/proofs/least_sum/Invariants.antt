-- `split_rows::least_sum` meets its contract: `least` is the least of the places before i.
use Rattle.std.proofs.Common.{◌≡◌, ◌+◌, ◌-◌, ◌≤◌}
use Rattle.split_calls.specs.Tables.{lowest}
use Rattle.split_rows.specs.Steps.{pair_sum}
use Rattle.split_rows.proofs.least_sum.Given as goal

abbrev pub invariant-loop-i : goal.invariant-loop-i
invariant-loop-i l = (l.i ≤ l.tries + 1) × (l.least ≡ lowest (pair_sum l.own l.others l.left) 0 (l.i - 1))
