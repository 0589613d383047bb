-- `reuse_engine::touch` meets its contract.
use Rattle.reuse_engine.specs.Engine.{Sunk}
use Rattle.reuse_engine.proofs.touch.Given as goal

abbrev pub invariant-loop-i : goal.invariant-loop-i
invariant-loop-i l = Sunk l.fn.stack l.x l.n l.stack l.carry l.i
