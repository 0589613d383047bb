-- Numbers below 2 ^ 63 as signed ones of 64 bits.
use mathlib.Core.Path.{◌≡◌}
use Prim.Native.Nat.{ℕ, ◌<◌, ◌^◌}
use lib.IntN.{pos}
use mir.Syntax.{w64}
use mir.Val.{SFits, to_z}
use mir.ValLaws.{to_z-of_z}

-- the number itself
pub pos-fits : (n : ℕ) → n < 2 ^ 63 → SFits w64 (pos n)
pos-fits n h = record { sfits = h }

-- the bits of a number are read back as the number
pub read_pos : (n : ℕ) → n < 2 ^ 63 → to_z w64 n ≡ pos n
read_pos n h = to_z-of_z w64 (pos n) (pos-fits n h)
