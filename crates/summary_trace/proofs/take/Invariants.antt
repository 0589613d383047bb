-- `summary_trace::take` meets its contract. The invariant is `Taking`.
use Rattle.summary_trace.proofs.Taking.{Taking}
use Rattle.summary_trace.proofs.take.Given as goal

abbrev pub invariant-loop-x : goal.invariant-loop-x
invariant-loop-x l = Taking l.trace l.initial.stack l.initial.first l.initial.hist l.stack l.first l.hist l.held l.x-index
