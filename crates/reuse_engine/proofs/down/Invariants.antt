-- `reuse_engine::down` meets its contract.
use Rattle.reuse_engine.specs.Engine.{Shifted}
use Rattle.reuse_engine.proofs.down.Given as goal

abbrev pub invariant-loop-word : goal.invariant-loop-word
invariant-loop-word l = Shifted l.initial.row l.first l.row l.carry l.word-index
