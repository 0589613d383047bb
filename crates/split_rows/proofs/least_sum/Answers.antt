use Rattle.std.proofs.Common.{◌≡◌, ◌-◌, arith}
use Rattle.split_calls.specs.Tables.{lowest}
use Rattle.split_rows.proofs.Lowest.{lowest-turn, lowest_upto}
use Rattle.split_rows.proofs.least_sum.Goals as goal

pub loop-i-init : goal.loop-i-init
unfolding lowest
loop-i-init c =
    let a = c.args in (omega arith, (let e : a.left - 0 ≡ a.left = omega arith in rw e))

pub loop-i-preserved : goal.loop-i-preserved
loop-i-preserved c =
    (omega arith, lowest-turn _ _ _ _ _ c.loop-i.auto.i c.loop-i.invariant.1 (omega arith) (omega arith))

pub returns : goal.returns
returns c = lowest_upto _ _ _ _ c.loop-i.invariant.1 (omega arith)

pub returns-2 : goal.returns-2
returns-2 c = lowest-turn _ _ _ _ _ c.loop-i.auto.i c.loop-i.invariant.1 (omega arith) (omega arith)
