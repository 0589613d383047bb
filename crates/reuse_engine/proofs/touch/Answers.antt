use mathlib.Core.Path.{refl, sym, ◌∙◌}
use Prim.Native.Nat.{◌≤◌, ◌<◌}
use native.Mathlib.Omega.{arith}
use lib.ListN.{length}
use borrow.Author.Tests.{lt-leb}
use Rattle.reuse_engine.specs.Engine.{place_of}
use Rattle.reuse_engine.proofs.Passes.{sink-turn, sink-found, sink-lifted, sink-last, sink-cold, sink-full, sink-back, sunk-length}
use Rattle.reuse_engine.proofs.touch.Goals as goal

pub returns-then-stack-n : goal.returns-then-stack-n
unfolding place_of
returns-then-stack-n c = (sym (simp (lt-leb _ _ c.if-stack-n.true)), refl)

pub loop-i-init : goal.loop-i-init
loop-i-init c = c.pass-passed.ensures

pub returns-then-y-x : goal.returns-then-y-x
returns-then-y-x c =
    let h = c.loop-i.invariant in
    let r = c.replace-y.ensures in
    (sink-found _ _ _ _ _ _ h (omega arith) (sym r.value ∙ c.if-y-x.true), rw r.after (sink-lifted _ _ _ _ _ _ h (omega arith)))

pub loop-i-preserved : goal.loop-i-preserved
loop-i-preserved c =
    let r = c.replace-y.ensures in
    rw (r.value, r.after) (sink-turn _ _ _ _ _ _ c.loop-i.invariant (omega arith) (λ e. c.if-y-x.false (r.value ∙ e)))

pub returns-then-n-stack : goal.returns-then-n-stack
returns-then-n-stack c =
    let h = c.loop-i.invariant in
    let w : c.args.n < length c.args.stack.now = omega (arith, sunk-length _ _ _ _ _ _ h) in
    (sink-cold _ _ _ _ _ _ h (omega arith) w, sink-last _ _ _ _ _ _ h (omega arith) w)

pub returns : goal.returns
returns c =
    let h = c.loop-i.invariant in
    let w : length c.args.stack.now ≤ c.args.n = omega (arith, sunk-length _ _ _ _ _ _ h) in
    (sink-full _ _ _ _ _ _ h (omega arith) w, c.move_back.ensures ∙ sink-back _ _ _ _ _ _ h (omega arith) w)
