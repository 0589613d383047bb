use mathlib.Core.Path.{◌≡◌, ap, ◌∙◌}
use native.Mathlib.Omega.{arith}
use Prim.Native.Nat.{ℕ}
use lib.ListN.{take, length-take}
use lib.Seq.{get_or-take}
use Rattle.std.proofs.lemmas.List.{take_min}
use Rattle.reuse.specs.Limits.{max_extents}
use Rattle.reuse.specs.Lists.{sum}
use Rattle.reuse_rows.proofs.Totals.{sum-turn, sum-end}
use Rattle.reuse_rows.proofs.total.Goals as goal

pub loop-x-preserved : goal.loop-x-preserved
loop-x-preserved c =
    let row = c.args.row.now in
    let most = c.min-most.result in
    let at = c.loop-x.x-index in
    sum-turn _ _ _ c.loop-x.invariant (omega arith)
    (omega (arith, get_or-take most row at 0 (omega (arith, length-take most row)), c.type_inv.row at))

pub returns : goal.returns
returns c =
    let row = c.args.row.now in
    let most = c.min-most.result in
    let h = c.loop-x.invariant in
    let cut : take most row ≡ take max_extents row = ap (λ (n : ℕ). take n row) (omega arith) ∙ take_min max_extents row in
    (sum-end _ _ _ h (omega arith) ∙ ap sum cut, omega (arith, h.small, h.within, length-take most row))
