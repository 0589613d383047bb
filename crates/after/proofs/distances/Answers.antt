-- `after::distances` meets its contract.
use Rattle.std.proofs.Common.{refl, arith}
use Rattle.reuse.proofs.Traces.{extents-within, extents-over}
use Rattle.summary_formed.specs.Parting.{PartsOf}
use Rattle.summary_formed.proofs.Parting.{reads-few}
use Rattle.after.proofs.Calls.{front, traceable, refused-words, refused-reads, refused-extents, refused-room, traced}
use Rattle.after.proofs.distances.Goals as goal
use Rattle.after.proofs.distances.Goals.{In-Some}

-- the parts are the prefix's
parted : (c : In-Some) → PartsOf c.args.prefix.now c.in-Some.prefix
parted c = c.of.ensures.1 _ c.in-Some.is

pub returns-in_default : goal.returns-in_default
returns-in_default c = rw (refused-words _ _ _ (c.of.ensures.0 c.in_default.is)) (refl, refl)

pub overflow_sub-left : goal.overflow_sub-left
overflow_sub-left c = reads-few _ _ (parted c)

pub returns-then-left-reads : goal.returns-then-left-reads
returns-then-left-reads c =
    let h = parted (goal.at.returns-then-left-reads c).In-Some in
    rw (refused-reads _ _ _ _ h c.if-left-reads.true) (refl, refl)

pub returns-then-extents-gt-MAX_EXTENTS : goal.returns-then-extents-gt-MAX_EXTENTS
returns-then-extents-gt-MAX_EXTENTS c =
    let h = parted (goal.at.returns-then-extents-gt-MAX_EXTENTS c).In-Some in
    rw (refused-extents _ _ _ _ h c.if-left-reads.false (extents-over _ _ c.extents_with-extents.ensures c.if-extents-gt-MAX_EXTENTS.true)) (refl, refl)

pub returns-then-out-reads : goal.returns-then-out-reads
returns-then-out-reads c =
    let at = goal.at.returns-then-out-reads c in
    rw (refused-room _ _ _ _ (parted at.In-Some) c.if-left-reads.false (extents-within _ _ c.extents_with-extents.ensures (omega arith)) c.if-out-reads.true) (refl, refl)

pub trace-requires : goal.trace-requires
trace-requires c =
    let at = goal.at.trace-requires c in
    traceable _ _ (parted at.In-Some) _ c.padded-stack.ensures _ _ (extents-within _ _ c.extents_with-extents.ensures (omega arith)) c.if-out-reads.false

pub returns : goal.returns
returns c =
    let at = goal.at.returns c in
    let h = parted at.In-Some in
    rw (traced _ _ c.args.out.now _ h c.if-left-reads.false (extents-within _ _ c.extents_with-extents.ensures (omega arith)) c.if-out-reads.false)
    (refl, rw (front _ _ h _ c.padded-stack.ensures) at c.trace.ensures)
