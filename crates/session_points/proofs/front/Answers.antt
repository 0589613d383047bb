use Rattle.std.proofs.Common.{◌∙◌, arith}
use Rattle.session_points.proofs.Fronts.{front-start, front-turn, front-end}
use Rattle.session_points.proofs.front.Goals as goal

pub loop-i-init : goal.loop-i-init
loop-i-init c = front-start

pub loop-i-preserved : goal.loop-i-preserved
loop-i-preserved c = let l = c.loop-i in c.change.ensures ∙ front-turn _ (omega arith) _ l.invariant

pub returns : goal.returns
returns c = let l = c.loop-i in front-end l.i _ _ l.invariant (omega arith)
