-- `insertion::passes::hold` meets its contract.
use mathlib.Core.Path.{sym, ◌∙◌}
use native.Mathlib.Omega.{arith}
use Rattle.reuse_engine.proofs.Runs.{run-start, run-bad, turn-cold, turn-known}
use Rattle.insertion.proofs.Holding.{held_small, hold-full, hold-end}
use Rattle.insertion.proofs.passes.hold.Goals as goal
use Rattle.insertion.proofs.passes.hold.Goals.{in-Cold, in-Depth}

pub loop-x-init : goal.loop-x-init
loop-x-init c =
    let g = c.requires in
    (g, run-start _ _ _ g.held g.once)

pub touch-place-requires : goal.touch-place-requires
touch-place-requires c = tt

pub overflow_add-held : goal.overflow_add-held
overflow_add-held c = omega (arith, held_small _ _ _ _ _ _ c.loop-x.invariant.0 c.loop-x.invariant.1)

pub shape_of-stack-in-Full : goal.shape_of-stack-in-Full
shape_of-stack-in-Full c = c.touch-place.auto.stack ∙ c.loop-x.invariant.1.long

pub returns-in-Full : goal.returns-in-Full
returns-in-Full c =
    let h = c.loop-x.invariant in
    let t = c.touch-place.ensures in
    hold-full _ _ _ _ _ _ h.0 h.1 (omega arith) _ _ t.0 t.1 c.in-Full.is

pub shape_of-stack-in-BadCount : goal.shape_of-stack-in-BadCount
shape_of-stack-in-BadCount c = c.touch-place.auto.stack ∙ c.loop-x.invariant.1.long

pub returns-in-BadCount : goal.returns-in-BadCount
returns-in-BadCount c = absurd (run-bad _ _ _ _ _ _ c.loop-x.invariant.1 (omega arith) (sym c.touch-place.ensures.0 ∙ c.in-BadCount.is))

pub loop-x-preserved : goal.loop-x-preserved
loop-x-preserved c =
    let h = c.loop-x.invariant in
    let t = c.touch-place.ensures in (
      h.0,
      elim c.match-place.branch [
        | in-Cold w ↦ rw w.held-is (turn-cold _ _ _ _ _ _ h.1 (omega arith) _ _ t.0 t.1 w.in-Cold.is)
        | in-Depth w ↦ rw w.held-is (turn-known _ _ _ _ _ _ h.1 (omega arith) _ _ t.0 t.1 _ w.in-Depth.is)
      ],
    )

pub shape_of-stack : goal.shape_of-stack
shape_of-stack c = c.loop-x.invariant.1.long

pub returns : goal.returns
returns c = hold-end _ _ _ _ _ _ c.loop-x.invariant.0 c.loop-x.invariant.1 (omega arith)
