-- A node on a way up: its number, and the level that it stands on.
use Rattle.std.proofs.Common.{◌≡◌, ℕ, suc, ◌+◌, ◌/◌, ◌%◌, ◌^◌, ◌<◌, arith}

-- node p is child s of a level with d levels above it, whose points stand from b on; N slots stand first
pub record Place (N p d b s : ℕ) : Type 0 where
  pub is : p ≡ b + b + s
  pub level : b + 2 ^ d ≡ N
  pub inside : s < 2 ^ d

-- a slot
pub slot-place : (N s d : ℕ) → 2 ^ d ≡ N → s < N → Place N s d 0 s
slot-place N s d e h = record { is = omega arith; level = omega arith; inside = omega arith }

module _ (N p d b s : ℕ) (at : Place N p (suc d) b s) where
  -- the point over it, as a node of the level above
  pub place_up : Place N (N + p / 2) d (b + 2 ^ d) (s / 2)
  place_up = record { is = omega (arith, at.is, at.level); level = omega (arith, at.level); inside = omega (arith, at.inside) }

  -- the point's number
  pub place-point : p / 2 ≡ b + s / 2
  place-point = omega (arith, at.is)

  -- whether it is a left child
  pub place-side : p % 2 ≡ s % 2
  place-side = omega (arith, at.is)

  -- one of the branching points
  pub place-inner : p / 2 + 1 < N
  place-inner = omega (arith, at.is, at.level, at.inside)
