-- Cases that the other files use.
use mathlib.Core.Path.{◌≡◌, refl}
use Prim.Native.Nat.{ℕ, zero, suc}
use native.Mathlib.Omega.{arith}

-- what cannot be: `cc` shows 0 equal to 1 from two cases that differ
pub never : {G : Type 0} → ◌≡◌ {A = ℕ} 0 1 → G
never z = absurd (omega arith)

-- a proof by zero and the numbers above it
pub by_zero : {G : Type 0} (m : ℕ) → (m ≡ 0 → G) → ((n : ℕ) → m ≡ suc n → G) → G
by_zero zero z s = z refl
by_zero (suc n) z s = s n refl
