-- `after::passes::trace` meets its contract. The invariant is `Tracing`.
use Rattle.after.proofs.Tracing.{Tracing}
use Rattle.after.proofs.passes.trace.Given as goal

abbrev pub invariant-loop-i : goal.invariant-loop-i
invariant-loop-i l = Tracing l.initial.stack l.n l.reads l.initial.out l.stack l.out l.held l.i
