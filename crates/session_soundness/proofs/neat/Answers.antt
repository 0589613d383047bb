use Rattle.std.proofs.Common.{arith}
use Rattle.session_soundness.proofs.Passes.{tidy-turn, tidy-all}
use Rattle.session_soundness.proofs.neat.Goals as goal

pub loop-i-preserved : goal.loop-i-preserved
loop-i-preserved c = tidy-turn _ _ _ _ c.loop-i.invariant (omega arith) (omega arith)

pub returns : goal.returns
returns c = tidy-all _ _ _ c.loop-i.i c.loop-i.invariant (omega arith)
