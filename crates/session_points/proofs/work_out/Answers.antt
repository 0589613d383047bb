use Rattle.std.proofs.Common.{arith, add-one}
use Rattle.session_points.proofs.Downs.{worked-other, down-start, down-size, down-room, down-part, down-level, down_turn, down-end}
use Rattle.session_points.proofs.work_out.Goals as goal

pub returns-then-rights-ne-RIGHTS : goal.returns-then-rights-ne-RIGHTS
returns-then-rights-ne-RIGHTS c = worked-other _ _ _ c.then-rights-ne-RIGHTS.either

pub loop-level-init : goal.loop-level-init
loop-level-init c = down-start _ _ c.args.marks.now c.if-rights-ne-RIGHTS.false c.if-marks-ne-SLOTS.false

pub overflow_sub-m : goal.overflow_sub-m
overflow_sub-m c = let l = c.loop-level in omega (arith, down-size l.level (omega arith), down-room _ _ _ _ _ l.invariant (omega arith))

pub overflow_sub-m-in-loop-level : goal.overflow_sub-m-in-loop-level
overflow_sub-m-in-loop-level c = let l = c.loop-level in omega (arith, down-size l.level (omega arith), down-room _ _ _ _ _ l.invariant (omega arith))

pub spread-within-requires : goal.spread-within-requires
spread-within-requires c =
    let l = c.loop-level in
    rw (down-size l.level (omega arith)) (down-level _ _ _ _ _ l.invariant (omega arith) _ (down-part _ _ _ _ _ l.invariant (omega arith)))

pub loop-level-preserved : goal.loop-level-preserved
loop-level-preserved c =
    let l = c.loop-level in
    let e = rw (down-size l.level (omega arith)) at c.spread-within.ensures in
    rw add-one (down_turn _ _ _ _ _ l.invariant (omega arith) _ _ _ (down-part _ _ _ _ _ l.invariant (omega arith)) e.0 e.1)

pub returns : goal.returns
returns c = down-end _ _ _ _ _ (omega arith) c.loop-level.invariant c.args.marks.now c.if-marks-ne-SLOTS.false
