use mathlib.Core.Path.{sym, ◌∙◌}
use Prim.Native.Nat.{◌+◌}
use native.Mathlib.Omega.{arith}
use Rattle.reuse_engine.proofs.Passes.{sink-start, sink-block}
use Rattle.reuse_engine.proofs.pass.Goals as goal

pub loop-init : goal.loop-init
loop-init c = (sink-start _ _ _ (omega arith), omega arith)

pub loop-preserved : goal.loop-preserved
loop-preserved c =
    let h = c.loop in
    let none = sym c.contains.ensures ∙ c.if-contains.false in
    (sink-block _ _ _ _ _ _ h.invariant.0 (h.count + 8) (omega arith) (omega (arith, h.invariant.1)) none _ _ c.down-carry.ensures, omega (arith, h.invariant.1))
