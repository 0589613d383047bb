-- `summary_cross::cross` meets its contract. The invariant is `Crossing`.
use Rattle.summary_cross.proofs.Turns.{Crossing}
use Rattle.summary_cross.proofs.cross.Given as goal

abbrev pub invariant-loop-x : goal.invariant-loop-x
invariant-loop-x l = Crossing l.initial.stack l.n l.reads l.initial.hist l.stack l.held l.hist l.x-index
