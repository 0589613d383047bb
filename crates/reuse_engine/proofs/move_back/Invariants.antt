-- `reuse_engine::move_back` meets its contract. The invariant is `Risen`.
use Rattle.reuse_engine.proofs.Passes.{Risen}
use Rattle.reuse_engine.proofs.move_back.Given as goal

abbrev pub invariant-loop-i : goal.invariant-loop-i
invariant-loop-i l = Risen l.initial.stack l.last l.stack l.carry l.i
