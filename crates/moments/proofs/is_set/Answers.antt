-- `moments::is_set` meets its contract.
use mathlib.Core.Path.{sym, ap, ◌∙◌}
use Prim.Native.Nat.{ℕ}
use native.Mathlib.Omega.{arith}
use mathlib.Core.Bool.{not}
use lib.Dec.{eqb}
use lib.ListN.{get_or}
use Rattle.moments.proofs.Places.{set_word}
use Rattle.moments.proofs.is_set.Goals as goal

pub returns : goal.returns
returns c =
    let e = c.place_start-start.ensures in
    let w = c.args.names.now in
    ap (λ (at : ℕ). not (eqb (get_or w at 0) 0)) e
    ∙ sym (set_word w _ (sym c.is_name.ensures ∙ c.if-not-is_name.false) (omega (arith, e, c.if-names-start.false)))
