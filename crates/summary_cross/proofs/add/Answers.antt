use Rattle.std.proofs.Common.{arith}
use Rattle.summary_cross.proofs.Turns.{add_turn, add-end}
use Rattle.summary_cross.proofs.add.Goals as goal

pub loop-i-preserved : goal.loop-i-preserved
loop-i-preserved c = add_turn _ _ _ _ c.loop-i.invariant (omega arith) (omega arith)

pub returns : goal.returns
returns c = add-end _ _ _ _ c.loop-i.invariant (omega arith) (omega arith)
