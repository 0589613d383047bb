-- `reuse_tables::beside` meets its contract.
use mathlib.Core.Path.{sym, ◌∙◌}
use native.Mathlib.Omega.{arith}
use Rattle.reuse_copies.proofs.Padding.{padded-wide}
use Rattle.reuse_tables.proofs.Lookups.{looked-up}
use Rattle.reuse_tables.proofs.Besides.{beside-start, beside-more, beside-known, beside-full, beside_end}
use Rattle.reuse_tables.proofs.beside.Goals as goal
use Rattle.reuse_tables.proofs.beside.Goals.{then-not-known+else-n-ge-MAX_EXTENTS, else-not-known}

pub loop-x-init : goal.loop-x-init
loop-x-init c = beside-start _ _ _ c.padded-row.ensures (rw c.padded-row.ensures (padded-wide _))

pub returns-then-n-ge-MAX_EXTENTS : goal.returns-then-n-ge-MAX_EXTENTS
returns-then-n-ge-MAX_EXTENTS c = beside-full _ _ _ _ _ c.loop-x.invariant (omega arith)

pub loop-x-preserved : goal.loop-x-preserved
loop-x-preserved c =
    let h = c.loop-x.invariant in
    let e = c.known.ensures ∙ looked-up _ _ _ c.note.ensures in
    elim c.if-not-known.branch [
      | then-not-known+else-n-ge-MAX_EXTENTS w ↦ rw (w.row-is, w.n-is) (beside-more _ _ _ _ _ h (omega arith) (sym e ∙ w.if-not-known.true) (omega (arith, w.if-n-ge-MAX_EXTENTS.false)))
      | else-not-known w ↦ rw (w.row-is, w.n-is) (beside-known _ _ _ _ _ h (omega arith) (sym e ∙ w.if-not-known.false))
    ]

pub returns : goal.returns
returns c = beside_end _ _ _ _ _ c.loop-x.invariant (omega arith)
