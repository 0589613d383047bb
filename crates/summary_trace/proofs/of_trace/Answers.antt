use mathlib.Core.Path.{refl}
use Prim.Native.Nat.{ℕ}
use lib.ListN.{length-replicate}
use Rattle.reuse.specs.Limits.{max_extents}
use Rattle.reuse.proofs.Sums.{get_or-blank-row}
use Rattle.reuse.proofs.Traces.{extents-over}
use Rattle.summary_calls.proofs.Calls.{trace-refused-reads, trace-refused-extents}
use Rattle.summary_trace.proofs.Taking.{taken-call}
use Rattle.summary_trace.proofs.of_trace.Goals as goal

pub returns-then-trace : goal.returns-then-trace
returns-then-trace c = rw (trace-refused-reads _ _ c.if-trace.true) (refl, refl)

pub take-held-requires : goal.take-held-requires
take-held-requires c = record {
  short = c.if-trace.false;
  stack-wide = length-replicate {A = ℕ} max_extents 0;
  first-wide = length-replicate {A = ℕ} max_extents 0;
  hist-wide = length-replicate {A = ℕ} max_extents 0;
  none = get_or-blank-row max_extents;
}

pub returns-then-held-gt-MAX_EXTENTS : goal.returns-then-held-gt-MAX_EXTENTS
returns-then-held-gt-MAX_EXTENTS c =
    let g = c.args in
    rw (trace-refused-extents g.trace.now g.out.now c.if-trace.false (extents-over _ _ c.take-held.ensures.extents c.if-held-gt-MAX_EXTENTS.true)) (refl, refl)

pub returns : goal.returns
returns c =
    let g = c.args in
    let k = c.take-held.ensures in
    rw (taken-call g.trace.now _ _ _ g.out.now _ k c.if-held-gt-MAX_EXTENTS.false c.if-trace.false)
    at c.write.ensures
