-- `reuse_rows::total` meets its contract. The invariant is `Summed`.
use Rattle.reuse_rows.proofs.Totals.{Summed}
use Rattle.reuse_rows.proofs.total.Given as goal

abbrev pub invariant-loop-x : goal.invariant-loop-x
invariant-loop-x l = Summed l.x-items l.t l.x-index
