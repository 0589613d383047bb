use mathlib.Core.Path.{ap}
use native.Mathlib.Omega.{arith}
use lib.ListN.{drop_of_length-le}
use Rattle.reuse_rows.specs.Rows.{blank}
use Rattle.reuse_rows.proofs.Slices.{passed, failed, ended, zero-hit, zero-miss}
use Rattle.reuse_rows.proofs.all_zero.Goals as goal
use Rattle.reuse_rows.proofs.all_zero.Goals.{then-other, else-other}

pub loop-x-preserved : goal.loop-x-preserved
loop-x-preserved c =
    let l = c.loop-x in
    elim c.if-other.branch [
      | then-other w ↦ rw w.clear-is (failed l.clear l.invariant (zero-miss _ l.x-index (omega arith) w.if-other.true))
      | else-other w ↦ rw w.clear-is (passed l.clear l.invariant (zero-hit _ l.x-index (omega arith) w.if-other.false))
    ]

pub returns : goal.returns
unfolding blank
returns c =
    ended c.loop-x.clear c.loop-x.invariant (ap blank (drop_of_length-le _ {i = c.loop-x.x-index} (omega arith)))
