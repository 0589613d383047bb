use mathlib.Core.Path.{sym, ◌∙◌}
use native.Mathlib.Omega.{arith}
use Rattle.reuse_engine.proofs.Crossing.{not-bad, count-from, count-place, count_fits}
use Rattle.summary_trace.proofs.Taking.{trace-start, trace-cold, trace-known, trace-full, trace-end, list-room}
use Rattle.summary_trace.proofs.take.Goals as goal
use Rattle.summary_trace.proofs.take.Goals.{in-Cold, in-Depth}

pub loop-x-init : goal.loop-x-init
loop-x-init c = trace-start _ _ _ _ c.requires

pub bounds-first-held : goal.bounds-first-held
bounds-first-held c = list-room _ _ _ _ _ _ _ _ _ c.loop-x.invariant (omega arith) (sym c.touch.ensures.0 ∙ c.in-Cold.is)

pub overflow_sub-hist : goal.overflow_sub-hist
overflow_sub-hist c = count-from _ _ _ _ _ _ _ _ c.loop-x.invariant.cross (omega arith) c.in-Depth.d (sym c.touch.ensures.0 ∙ c.in-Depth.is)

pub offset_bounds-hist-d : goal.offset_bounds-hist-d
offset_bounds-hist-d c =
    omega (arith, count-place _ _ _ _ _ _ _ _ c.loop-x.invariant.cross (omega arith) c.in-Depth.d (sym c.touch.ensures.0 ∙ c.in-Depth.is))

pub bounds-hist-d : goal.bounds-hist-d
bounds-hist-d c = count-place _ _ _ _ _ _ _ _ c.loop-x.invariant.cross (omega arith) c.in-Depth.d (sym c.touch.ensures.0 ∙ c.in-Depth.is)

pub overflow_add-hist : goal.overflow_add-hist
overflow_add-hist c =
    record { fits = count_fits _ _ _ _ _ _ _ _ c.loop-x.invariant.cross (omega arith) c.in-Depth.d (sym c.touch.ensures.0 ∙ c.in-Depth.is) }

pub bounds-hist-d-in-Depth : goal.bounds-hist-d-in-Depth
bounds-hist-d-in-Depth c = count-place _ _ _ _ _ _ _ _ c.loop-x.invariant.cross (omega arith) c.in-Depth.d (sym c.touch.ensures.0 ∙ c.in-Depth.is)

pub returns-in-Full : goal.returns-in-Full
returns-in-Full c = trace-full _ _ _ _ _ _ _ _ _ c.loop-x.invariant (omega arith) _ _ c.touch.ensures.0 c.in-Full.is

pub returns-in-BadCount : goal.returns-in-BadCount
returns-in-BadCount c =
    absurd (not-bad _ _ _ _ _ _ _ _ c.loop-x.invariant.cross (omega arith) (sym c.touch.ensures.0 ∙ c.in-BadCount.is))

pub loop-x-preserved : goal.loop-x-preserved
loop-x-preserved c =
    let h = c.loop-x.invariant in
    let t = c.touch.ensures in
    elim c.match-touch.branch [
      | in-Cold w ↦ trace-cold _ _ _ _ _ _ _ _ _ h (omega arith) _ _ _ _ _ t.0 t.1 w.in-Cold.is w.first-is w.hist-is w.held-is
      | in-Depth w ↦ trace-known _ _ _ _ _ _ _ _ _ h (omega arith) _ _ _ _ _ t.0 t.1 _ w.in-Depth.is w.first-is w.hist-is w.held-is
    ]

pub returns : goal.returns
returns c = trace-end _ _ _ _ _ _ _ _ _ c.loop-x.invariant (omega arith)
