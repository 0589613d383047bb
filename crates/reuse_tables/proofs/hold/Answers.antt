-- `reuse_tables::hold` meets its contract.
use mathlib.Core.Path.{sym, ◌∙◌}
use native.Mathlib.Omega.{arith}
use Rattle.reuse_tables.proofs.Counting.{count-start, count-known, count-new, count-full, count-end, told}
use Rattle.reuse_tables.proofs.hold.Goals as goal
use Rattle.reuse_tables.proofs.hold.Goals.{then-not-known+else-count-eq-MAX_EXTENTS, else-not-known}

pub loop-x-init : goal.loop-x-init
loop-x-init c = count-start _ _ _ _ c.requires

pub returns-then-count-eq-MAX_EXTENTS : goal.returns-then-count-eq-MAX_EXTENTS
returns-then-count-eq-MAX_EXTENTS c =
    let h = c.loop-x.invariant in
    let m = sym (told _ _ _ _ _ _ h (omega arith)) ∙ sym c.known.ensures ∙ c.if-not-known.true in
    count-full _ _ _ _ _ _ h (omega arith) m c.if-count-eq-MAX_EXTENTS.true

pub loop-x-preserved : goal.loop-x-preserved
loop-x-preserved c =
    let h = c.loop-x.invariant in
    let t = sym (told _ _ _ _ _ _ h (omega arith)) ∙ sym c.known.ensures in
    elim c.if-not-known.branch [
      | then-not-known+else-count-eq-MAX_EXTENTS w ↦ rw (w.held-is, w.table-is, w.count-is, w.bucket.ensures.0) (count-new _ _ _ _ _ _ h (omega arith) (t ∙ w.if-not-known.true) (omega (arith, h.fits, w.if-count-eq-MAX_EXTENTS.false)))
      | else-not-known w ↦ rw (w.held-is, w.table-is, w.count-is) (count-known _ _ _ _ _ _ h (omega arith) (t ∙ w.if-not-known.false))
    ]

pub returns : goal.returns
returns c = count-end _ _ _ _ _ _ c.loop-x.invariant (omega arith)
