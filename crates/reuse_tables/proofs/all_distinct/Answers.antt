-- `reuse_tables::all_distinct` meets its contract.
use mathlib.Core.Path.{refl, sym, ◌∙◌}
use native.Mathlib.Omega.{arith}
use Rattle.reuse_tables.proofs.Lookups.{apart-start, apart-free, apart-turn, apart-not}
use Rattle.reuse_tables.proofs.all_distinct.Goals as goal
use Rattle.reuse_tables.proofs.all_distinct.Goals.{then-seen-h-ne0+else-twice, else-seen-h-ne0}

pub loop-i-init : goal.loop-i-init
loop-i-init c = apart-start _ _ refl

pub returns-then-twice : goal.returns-then-twice
returns-then-twice c =
    apart-not _ _ _ c.loop-i.invariant (omega arith)
    (sym c.contains-twice.ensures ∙ c.if-twice.true)

pub loop-i-preserved : goal.loop-i-preserved
loop-i-preserved c =
    let h = c.loop-i.invariant in
    let e = c.bucket-h.ensures.0 in
    rw e
    (apart-turn _ _ _ h (omega arith)
    (elim c.if-seen-h-ne0.branch [
      | then-seen-h-ne0+else-twice w ↦ sym w.contains-twice.ensures ∙ w.if-twice.false
      | else-seen-h-ne0 w ↦ apart-free _ _ _ h (rw e at w.if-seen-h-ne0.false)
    ]))
