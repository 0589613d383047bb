-- `insertion::passes::hold` meets its contract. The invariant is `Running`.
use Rattle.reuse_engine.proofs.Runs.{Running}
use Rattle.insertion.specs.Passes.{Ready}
use Rattle.insertion.proofs.passes.hold.Given as goal

abbrev pub invariant-loop-x : goal.invariant-loop-x
invariant-loop-x l = Ready l.initial.stack l.n l.reads × Running l.initial.stack l.n l.reads l.stack l.held l.x-index
