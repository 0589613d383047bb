-- `reuse_engine::move_back` meets its contract. The invariant is `Risen`.
use native.Mathlib.Omega.{arith}
use Rattle.reuse_engine.proofs.Passes.{rise-start, rise-turn, rise-end, risen-length}
use Rattle.reuse_engine.proofs.move_back.Goals as goal

pub loop-i-init : goal.loop-i-init
loop-i-init c = rise-start _ _

pub bounds-stack-i : goal.bounds-stack-i
bounds-stack-i c = omega (arith, risen-length _ _ _ _ _ c.loop-i.invariant)

pub loop-i-preserved : goal.loop-i-preserved
loop-i-preserved c = rw (c.replace-carry.ensures.value, c.replace-carry.ensures.after) (rise-turn _ _ _ _ _ _ c.loop-i.invariant (omega arith))

pub shape_of-stack : goal.shape_of-stack
shape_of-stack c = risen-length _ _ _ _ _ c.loop-i.invariant

pub returns : goal.returns
returns c = rise-end _ _ _ _ _ c.loop-i.invariant (omega arith)
