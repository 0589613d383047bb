-- Answers read back from their bits.
use Rattle.std.specs.Prelude.{Result, Ok, Err}
use Rattle.reuse.specs.declared.refusals.Refusal.{Refusal}
use mathlib.Core.Path.{◌≡◌, refl, ap, ◌∙◌}
use Prim.Native.Nat.{ℕ, ◌<◌, ◌^◌, min}
use native.Mathlib.Omega.{arith}
use lib.IntN.{ℤ, pos}
use lib.Signed.{mag}
use mir.Syntax.{w64}
use mir.Val.{to_z, of_z}
use mir.ValLaws.{to_z-of_z}
use Rattle.capi_answers.specs.Answers.{counted, most_signed, counted_most, Small}

-- a signed number that a call answered is read back from its bits
pub read_back : (x z : ℤ) → mag x < 2 ^ 63 → x ≡ z → to_z w64 (of_z w64 x) ≡ z
read_back x z h e = to_z-of_z w64 x (record { sfits = h }) ∙ e

-- a count that a signed number holds is the count itself
small-counted : (w : Result ℕ Refusal) → Small w → counted_most w ≡ counted w
small-counted (Ok n) h = ap pos (let z : min n most_signed ≡ n = omega arith in z)
small-counted (Err n) h = refl

-- so it is read back from its bits
pub read_count : (x : ℤ) (w w' : Result ℕ Refusal) → mag x < 2 ^ 63 → x ≡ counted_most w → w ≡ w' → Small w' → to_z w64 (of_z w64 x) ≡ counted w'
read_count x w w' h e same small = read_back x (counted w') h (e ∙ ap counted_most same ∙ small-counted w' small)
