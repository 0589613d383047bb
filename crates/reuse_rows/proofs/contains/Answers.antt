use native.Mathlib.Omega.{arith}
use Rattle.reuse_rows.proofs.Slices.{look_hit, look-miss, look-end}
use Rattle.reuse_rows.proofs.contains.Goals as goal
use Rattle.reuse_rows.proofs.contains.Goals.{then-y-x, else-y-x}

pub loop-y-preserved : goal.loop-y-preserved
loop-y-preserved c =
    let b = c.loop-y.invariant in
    elim c.if-y-x.branch [
      | then-y-x w ↦ rw w.found-is (look_hit _ _ _ _ b (omega arith) w.if-y-x.true)
      | else-y-x w ↦ rw w.found-is (look-miss _ _ _ _ b (omega arith) w.if-y-x.false)
    ]

pub returns : goal.returns
returns c = look-end _ _ _ _ c.loop-y.invariant (omega arith)
