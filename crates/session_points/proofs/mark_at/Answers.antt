use Rattle.std.proofs.Common.{◌/◌, sym, ◌∙◌, arith}
use Rattle.session_points.proofs.Ups.{slot_none}
use Rattle.session_points.proofs.Marking.{mark-none, marking-start, marking-turn, marking-point, marking-end}
use Rattle.session_points.proofs.mark_at.Goals as goal

pub returns-then-rights-ne-RIGHTS : goal.returns-then-rights-ne-RIGHTS
returns-then-rights-ne-RIGHTS c = sym (mark-none _ _ _ (slot_none _ _ c.then-rights-ne-RIGHTS.either))

pub loop-level-init : goal.loop-level-init
loop-level-init c = marking-start _ _ _ c.if-rights-ne-RIGHTS.false c.if-s-ge-SLOTS.false

pub bounds-rights-node : goal.bounds-rights-node
bounds-rights-node c = omega (arith, marking-point _ _ _ _ _ _ _ (omega arith) c.loop-level.invariant)

pub returns-then-node-eq1 : goal.returns-then-node-eq1
returns-then-node-eq1 c = c.remaining.ensures ∙ (marking-turn _ _ _ _ _ _ _ (omega arith) c.loop-level.invariant).0 c.if-node-eq1.true

pub loop-level-preserved : goal.loop-level-preserved
loop-level-preserved c =
    let l = c.loop-level in
    (marking-turn _ _ _ _ _ _ _ (omega arith) l.invariant).1 c.if-node-eq1.false (c.type_inv.rights (l.node / 2)).fits

pub returns : goal.returns
returns c = c.remaining-2.ensures ∙ marking-end _ _ _ _ _ _ _ (omega arith) c.loop-level.invariant
