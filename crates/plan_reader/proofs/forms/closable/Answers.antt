-- `plan_reader::forms::closable` meets its contract.
use mathlib.Core.Path.{◌≡◌, refl}
use Prim.Native.Nat.{ℕ, zero, suc, ◌+◌}
use native.Mathlib.Omega.{arith}
use native.Mathlib.Numerals.{add-one}
use Rattle.texts.specs.PlanOwed.{closable_after}
use Rattle.plan_reader.proofs.forms.closable.Goals as goal

-- after a part, one more may close
later : (most count : ℕ) → (count ≡ 0 → ⊥) → most + 1 ≡ closable_after most count
later most zero h = absurd (h refl)
later most (suc count) h = add-one most

pub returns-else-count-eq0 : goal.returns-else-count-eq0
returns-else-count-eq0 c = (later _ _ c.if-count-eq0.false, omega arith)
