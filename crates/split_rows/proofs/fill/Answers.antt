use Rattle.split_rows.proofs.Filling.{filling-start, filling-tries, filling-turn, filling-end}
use Rattle.std.proofs.Common.{arith}
use Rattle.split_rows.proofs.fill.Goals as goal

pub loop-t-init : goal.loop-t-init
loop-t-init c = filling-start _ _ _ _ _ _ c.requires

pub least_sum-requires : goal.least_sum-requires
least_sum-requires c =
    filling-tries _ _ _ _ _ _ c.requires _ _ c.loop-t.invariant (omega arith) _ (omega arith)

pub loop-t-preserved : goal.loop-t-preserved
loop-t-preserved c =
    filling-turn _ _ _ _ _ _ c.requires _ _ c.loop-t.invariant (omega arith) _ _ (omega arith) c.least_sum.ensures

pub returns-2 : goal.returns-2
returns-2 c =
    filling-end _ _ _ _ _ _ c.requires _ _
    (filling-turn _ _ _ _ _ _ c.requires _ _ c.loop-t.invariant (omega arith) _ _ (omega arith) c.least_sum.ensures)
    (omega arith)
