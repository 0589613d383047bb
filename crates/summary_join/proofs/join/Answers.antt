-- `summary_join::join` meets its contract.
use mathlib.Core.Path.{refl}
use native.Mathlib.Omega.{arith}
use Rattle.summary_calls.proofs.Calls.{refused-left, refused-right, refused-reads, refused-extents, join-wrote}
use Rattle.summary_formed.specs.Parting.{PartsOf}
use Rattle.summary_formed.proofs.Parting.{reads-few}
use Rattle.summary_join.proofs.Parts.{reads-both, extents-over, extents-all, written}
use Rattle.summary_join.proofs.join.Goals as goal
use Rattle.summary_join.proofs.join.Goals.{In-Some, In-Some-of}

-- the parts are A's
left : (c : In-Some) → PartsOf c.args.a.now c.in-Some.a
left c = c.of.ensures.1 _ c.in-Some.is

-- the parts are B's
right : (c : In-Some-of) → PartsOf c.args.b.now c.in-Some-of.b
right c = c.of-2.ensures.1 _ c.in-Some-of.is

pub returns-in_default : goal.returns-in_default
returns-in_default c = rw (refused-left _ _ _ (c.of.ensures.0 c.in_default.is)) (refl, refl)

pub returns-in_default-of : goal.returns-in_default-of
returns-in_default-of c = rw (refused-right _ _ _ (left (goal.at.returns-in_default-of c).In-Some).formed (c.of-2.ensures.0 c.in_default-of.is)) (refl, refl)

pub overflow_add-reads : goal.overflow_add-reads
overflow_add-reads c = omega (arith, reads-few _ _ (left (goal.at.overflow_add-reads c).In-Some), reads-few _ _ (right (goal.at.overflow_add-reads c).In-Some-of))

pub returns-then-reads-gt-MAX_READS : goal.returns-then-reads-gt-MAX_READS
returns-then-reads-gt-MAX_READS c =
    let at = goal.at.returns-then-reads-gt-MAX_READS c in
    let l = left at.In-Some in
    let r = right at.In-Some-of in
    rw (refused-reads _ _ _ l.formed r.formed (omega (arith, reads-both _ _ _ _ l r, c.if-reads-gt-MAX_READS.true))) (refl, refl)

pub returns-then-extents-gt-MAX_EXTENTS : goal.returns-then-extents-gt-MAX_EXTENTS
returns-then-extents-gt-MAX_EXTENTS c =
    let at = goal.at.returns-then-extents-gt-MAX_EXTENTS c in
    let l = left at.In-Some in
    let r = right at.In-Some-of in
    rw (refused-extents _ _ _ l.formed r.formed (omega (arith, reads-both _ _ _ _ l r, c.if-reads-gt-MAX_READS.false)) (extents-over _ _ _ _ l r _ c.extents_with-extents.ensures c.if-extents-gt-MAX_EXTENTS.true)) (refl, refl)

pub returns : goal.returns
returns c =
    let at = goal.at.returns c in
    let l = left at.In-Some in
    let r = right at.In-Some-of in
    let few = c.if-extents-gt-MAX_EXTENTS.false in
    let all = extents-all _ _ _ _ l r _ c.extents_with-extents.ensures few in
    rw (
      join-wrote _ _ c.args.out.now l.formed r.formed (omega (arith, reads-both _ _ _ _ l r, c.if-reads-gt-MAX_READS.false)) (omega (arith, all, few)),
      ← written _ _ _ _ l r _ c.extents_with-extents.ensures few _ _ _ c.args.out.now c.beside-first.ensures c.beside-recent.ensures c.counts-counts.ensures,
    )
    c.write.ensures
