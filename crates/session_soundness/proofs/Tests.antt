-- The test of words that are all 0.
use Prim.Native.Nat.{ℕ, zero, suc}
use mathlib.Core.Path.{◌≡◌, refl}
use mathlib.Core.List.{List, [], ◌∷◌}
use mathlib.Core.Bool.{true}
use native.Mathlib.Omega.{arith}
use lib.Dec.{eqb}
use borrow.Author.Tests.{eqb-true}
use Rattle.reuse.specs.Lists.{sum}
use Rattle.reuse_rows.specs.Rows.{blank}
use Rattle.reuse.proofs.Lists.{both}

-- a row of zeros adds up to 0
pub blank-sum : (l : List ℕ) → blank l ≡ true → sum l ≡ 0
unfolding blank sum
blank-sum [] h = refl
blank-sum (x ∷ l) h =
    let p = both (eqb x 0) (blank l) h in
    omega (arith, eqb-true x 0 p.0, blank-sum l p.1)

-- only zeros add up to 0
pub sum-blank : (l : List ℕ) → sum l ≡ 0 → blank l ≡ true
unfolding blank sum
sum-blank [] h = refl
sum-blank (zero ∷ l) h = sum-blank l (omega arith)
sum-blank (suc x ∷ l) h = absurd (omega arith)
