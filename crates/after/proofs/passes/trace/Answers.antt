-- `after::passes::trace` meets its contract.
use mathlib.Core.Path.{sym, ◌∙◌}
use native.Mathlib.Omega.{arith}
use Rattle.after.proofs.Tracing.{trace-start, trace-cold, trace-known, trace-end, not_full, not-bad, depth_small}
use Rattle.after.proofs.passes.trace.Goals as goal
use Rattle.after.proofs.passes.trace.Goals.{In-Cold, in-Cold, in-Depth}

pub loop-i-init : goal.loop-i-init
loop-i-init c = trace-start _ _ _ _ c.requires

pub overflow_cast-out-in-Depth : goal.overflow_cast-out-in-Depth
overflow_cast-out-in-Depth c = let h = c.loop-i.invariant in omega (arith, depth_small _ _ _ _ _ _ _ _ h (omega arith) c.in-Depth.d (sym c.touch-place.ensures.0 ∙ c.in-Depth.is))

pub returns-in-Full : goal.returns-in-Full
returns-in-Full c = absurd (not_full _ _ _ _ _ _ _ _ c.loop-i.invariant (omega arith) (sym c.touch-place.ensures.0 ∙ c.in-Full.is))

pub returns-in-BadCount : goal.returns-in-BadCount
returns-in-BadCount c = absurd (not-bad _ _ _ _ _ _ _ _ c.loop-i.invariant (omega arith) (sym c.touch-place.ensures.0 ∙ c.in-BadCount.is))

pub loop-i-preserved : goal.loop-i-preserved
loop-i-preserved c =
    let h = c.loop-i.invariant in
    let t = c.touch-place.ensures in
    elim c.match-place.branch [
      | in-Cold w ↦ trace-cold _ _ _ _ _ _ _ _ h (omega arith) _ _ _ _ t.0 t.1 w.in-Cold.is w.out-is w.held-is
      | in-Depth w ↦ trace-known _ _ _ _ _ _ _ _ h (omega arith) _ _ _ _ t.0 t.1 _ w.in-Depth.is w.out-is w.held-is
    ]

pub returns : goal.returns
returns c = trace-end _ _ _ _ _ _ _ _ c.loop-i.invariant (omega arith)
