use native.Mathlib.Omega.{arith}
use Rattle.reuse_engine.proofs.Passes.{shift-turn, shift-length}
use Rattle.reuse_engine.proofs.down.Goals as goal

pub loop-word-preserved : goal.loop-word-preserved
loop-word-preserved c =
    let h = c.loop-word.invariant in
    rw (c.replace-carry.ensures.value, c.replace-carry.ensures.after) (shift-turn _ _ _ _ _ h (omega (arith, shift-length _ _ _ _ _ h)))
