-- `reuse_engine::pass` meets its contract.
use mathlib.Core.Path.{◌≡◌}
use Prim.Native.Nat.{◌*◌}
use Rattle.reuse_engine.specs.Engine.{Sunk}
use Rattle.reuse_engine.proofs.pass.Given as goal

abbrev pub invariant-loop : goal.invariant-loop
invariant-loop l = Sunk l.initial.stack l.x l.n l.stack l.carry l.count × (l.count ≡ l.counter * 8)
