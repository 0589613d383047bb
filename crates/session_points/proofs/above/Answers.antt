use Rattle.std.proofs.Common.{◌/◌, sym, refl, arith}
use Rattle.reuse.specs.Limits.{slot_count, levels}
use Rattle.session_points.proofs.Ups.{slot_none, slot-some, walked_none, walked-some, left-few, up_start, up_turn, up_point, up-end}
use Rattle.session_points.proofs.above.Goals as goal
use Rattle.session_points.proofs.above.Goals.{else-left, then-left}

pub returns-then-rights-ne-RIGHTS : goal.returns-then-rights-ne-RIGHTS
returns-then-rights-ne-RIGHTS c = sym (walked_none _ _ (slot_none _ _ c.then-rights-ne-RIGHTS.either))

pub loop-level-init : goal.loop-level-init
loop-level-init c = up_start levels slot_count _ _ refl (omega arith)

pub bounds-rights-node : goal.bounds-rights-node
bounds-rights-node c = omega (arith, up_point _ _ _ _ _ _ _ _ (omega arith) c.loop-level.invariant)

pub overflow_add-count : goal.overflow_add-count
overflow_add-count c = omega (arith, c.loop-level.invariant.noughts, left-few levels 0 c.args.s)

pub loop-level-preserved : goal.loop-level-preserved
loop-level-preserved c =
    let l = c.loop-level in
    let t = up_turn _ _ _ _ _ _ _ _ (omega arith) l.invariant in
    elim c.if-left.branch [
      | then-left w ↦ rw (w.total-is, w.count-is) (t.0 w.if-left.true (c.type_inv.rights (l.node / 2)).fits)
      | else-left w ↦ rw (w.total-is, w.count-is) (t.1 w.if-left.false)
    ]

pub returns : goal.returns
returns c =
    let e = up-end _ _ _ _ _ _ _ _ (omega arith) c.loop-level.invariant in
    rw (e.0, e.1) (sym (walked-some _ _ (slot-some _ _ c.if-rights-ne-RIGHTS.false c.if-s-ge-SLOTS.false)))
