-- `insertion::passes::follow` meets its contract.
use mathlib.Core.Path.{◌≡◌, sym, ◌∙◌}
use lib.ListN.{length}
use native.Mathlib.Omega.{arith}
use Rattle.reuse_engine.proofs.Runs.{run-bad}
use Rattle.insertion.proofs.Holding.{held_small}
use Rattle.insertion.proofs.Following.{follow-start, ahead_small, marks-small, follow-cold, follow-known, follow-full, follow-end}
use Rattle.insertion.proofs.passes.follow.Goals as goal
use Rattle.insertion.proofs.passes.follow.Goals.{in-Cold, in-Depth}

pub at_place-marks-requires : goal.at_place-marks-requires
at_place-marks-requires c = ahead_small _ _ _ _ _ c.requires

pub loop-taken-init : goal.loop-taken-init
loop-taken-init c = rw c.at_place-marks.ensures (follow-start _ _ _ _ _ _ c.requires)

pub touch-place-requires : goal.touch-place-requires
touch-place-requires c = tt

pub overflow_add-held : goal.overflow_add-held
overflow_add-held c = omega (arith, held_small _ _ _ _ _ _ c.loop-taken.invariant.given c.loop-taken.invariant.run)

pub with_newcomer-marks-requires : goal.with_newcomer-marks-requires
with_newcomer-marks-requires c = marks-small _ _ _ _ _ _ _ _ _ c.loop-taken.invariant (omega arith)

pub with_known-marks-requires : goal.with_known-marks-requires
with_known-marks-requires c = marks-small _ _ _ _ _ _ _ _ _ c.loop-taken.invariant (omega arith)

pub loop-taken-preserved : goal.loop-taken-preserved
loop-taken-preserved c =
    let h = c.loop-taken.invariant in
    let t = c.touch-place.ensures in
    let o = c.if-x-extent.false in
    elim c.match-place.branch [
      | in-Cold w ↦ follow-cold _ _ _ _ _ _ _ _ _ h (omega arith) _ _ t.0 t.1 o w.in-Cold.is _ _ w.held-is (w.marks-is ∙ w.with_newcomer-marks.ensures)
      | in-Depth w ↦ follow-known _ _ _ _ _ _ _ _ _ h (omega arith) _ _ t.0 t.1 o _ w.in-Depth.is _ _ w.held-is (w.marks-is ∙ w.with_known-marks.ensures)
    ]

pub returns : goal.returns
returns c =
    let e : length c.args.reads.now ≡ c.loop-taken.taken = omega arith in
    rw e (follow-end _ _ _ _ _ _ _ _ _ c.loop-taken.invariant (λ l. absurd (omega arith)))

pub returns-then-x-extent : goal.returns-then-x-extent
returns-then-x-extent c = follow-end _ _ _ _ _ _ _ _ _ c.loop-taken.invariant (λ l. c.if-x-extent.true)

pub shape_of-stack-in-Full : goal.shape_of-stack-in-Full
shape_of-stack-in-Full c = c.touch-place.auto.stack ∙ c.loop-taken.invariant.run.long

pub returns-in-Full : goal.returns-in-Full
returns-in-Full c =
    let t = c.touch-place.ensures in
    follow-full _ _ _ _ _ _ _ _ _ c.loop-taken.invariant (omega arith) _ _ t.0 t.1 c.in-Full.is

pub shape_of-stack-in-BadCount : goal.shape_of-stack-in-BadCount
shape_of-stack-in-BadCount c = c.touch-place.auto.stack ∙ c.loop-taken.invariant.run.long

pub returns-in-BadCount : goal.returns-in-BadCount
returns-in-BadCount c =
    absurd (run-bad _ _ _ _ _ _ c.loop-taken.invariant.run (omega arith) (sym c.touch-place.ensures.0 ∙ c.in-BadCount.is))
