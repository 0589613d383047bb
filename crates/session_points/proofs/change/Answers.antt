use Rattle.std.proofs.Common.{sym, arith}
use Rattle.session_points.proofs.Changing.{change-past, changing-start, changing-turn, changing-end}
use Rattle.session_points.proofs.change.Goals as goal
use Rattle.session_points.proofs.change.Goals.{else-right, then-right}

pub returns-then-s-ge-SLOTS : goal.returns-then-s-ge-SLOTS
returns-then-s-ge-SLOTS c = sym (change-past _ _ _ c.if-s-ge-SLOTS.true)

pub loop-level-init : goal.loop-level-init
loop-level-init c = changing-start _ _ _ c.if-s-ge-SLOTS.false

pub loop-level-preserved : goal.loop-level-preserved
loop-level-preserved c =
    let t = changing-turn _ _ _ _ _ _ (omega arith) c.loop-level.invariant in
    elim c.if-right.branch [
      | then-right w ↦ rw w.rights-is (t.0 w.if-right.true)
      | else-right w ↦ rw w.rights-is (t.1 w.if-right.false)
    ]

pub returns : goal.returns
returns c = changing-end _ _ _ _ _ _ (omega arith) c.loop-level.invariant
