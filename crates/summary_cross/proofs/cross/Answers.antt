use Rattle.std.proofs.Common.{inl, inr, sym, ◌∙◌, add-one, arith}
use Rattle.reuse_engine.proofs.Engine.{depth-from, cold-room}
use Rattle.summary_cross.proofs.Turns.{cross-turn, cross-end}
use Rattle.summary_cross.proofs.cross.Goals as goal
use Rattle.summary_cross.proofs.cross.Goals.{in-Cold, in-Depth, in-Full}

pub overflow_add-held : goal.overflow_add-held
overflow_add-held c = omega (arith, cold-room _ _ _ (sym c.touch.ensures.0 ∙ c.in-Cold.is))

pub overflow_sub-d : goal.overflow_sub-d
overflow_sub-d c = depth-from _ _ _ _ (sym c.touch.ensures.0 ∙ c.in-Depth.is)

pub loop-x-preserved : goal.loop-x-preserved
loop-x-preserved c =
    let t = c.touch in
    let turn = cross-turn _ _ _ _ _ _ _ _ c.loop-x.invariant (omega arith) _ _ _ _ t.ensures.0 t.ensures.1 in
    elim c.match-touch.branch [
      | in-Cold w ↦ turn (rw w.in-Cold.is (w.held-is ∙ add-one _)) (rw w.in-Cold.is w.hist-is)
      | in-Depth w ↦ turn (rw w.in-Depth.is w.held-is) (rw w.in-Depth.is (w.hist-is ∙ w.count.ensures))
      | in-Full w ↦ elim w.in-Full.is [ inl e ↦ turn (rw e w.held-is) (rw e w.hist-is) | inr e ↦ turn (rw e w.held-is) (rw e w.hist-is) ]
    ]

pub returns : goal.returns
returns c = cross-end _ _ _ _ _ _ _ _ c.loop-x.invariant (omega arith)
