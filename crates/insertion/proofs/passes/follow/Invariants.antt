-- `insertion::passes::follow` meets its contract. The invariant is `Following`.
use Rattle.insertion.proofs.Following.{Following}
use Rattle.insertion.proofs.passes.follow.Given as goal

abbrev pub invariant-loop-taken : goal.invariant-loop-taken
invariant-loop-taken l = Following l.initial.stack l.n l.reads l.extent l.size l.stack l.held l.marks l.taken
