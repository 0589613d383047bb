-- Traces within the limits: so are their parts, and the count of their extents is exact.
use Prim.Native.Nat.{ℕ, suc, ◌≤◌, ◌<◌, min}
use mathlib.Core.Path.{◌≡◌}
use mathlib.Core.List.{List, [], ◌∷◌, ◌++◌}
use native.Mathlib.Omega.{arith}
use lib.ListN.{length, length-append}
use Rattle.reuse.specs.Limits.{max_extents}
use Rattle.reuse.specs.Lists.{firsts}
use Rattle.reuse.specs.Traces.{Within}
use Rattle.reuse.proofs.Lists.{firsts-longer}
use Rattle.reuse.proofs.Formed.{firsts-grow}

-- the front of a trace within the limits is within them
pub within-front : (a b : List ℕ) → Within (a ++ b) → Within a
within-front a b w = record {
  reads = omega (arith, length-append a b);
  extents = omega (arith, firsts-longer b a);
}

-- so is one read less in front
pub within-tail : (x : ℕ) (t : List ℕ) → Within (x ∷ t) → Within t
within-tail x t w = record { reads = omega arith; extents = omega (arith, firsts-grow x t) }

-- and the back
pub within-back : (a b : List ℕ) → Within (a ++ b) → Within b
within-back [] b w = w
within-back (x ∷ a) b w = within-back a b (within-tail x (a ++ b) w)

-- and any part
pub within-part : (a b c : List ℕ) → Within (a ++ (b ++ c)) → Within b
within-part a b c w = within-front b c (within-back a (b ++ c) w)

-- the count of a trace's extents, to one more than the limit
module _ (t : List ℕ) (r : ℕ) (e : r ≡ min (length (firsts t)) (suc max_extents)) where
  -- it is their number where that is within the limit
  pub extents-exact : length (firsts t) ≤ max_extents → r ≡ length (firsts t)
  extents-exact l = omega arith

  -- a number within the limit is counted as one
  pub extents-fit : length (firsts t) ≤ max_extents → r ≤ max_extents
  extents-fit l = omega arith

  -- a count within the limit is of a number within it
  pub extents-within : r ≤ max_extents → length (firsts t) ≤ max_extents
  extents-within l = omega arith

  -- a count over the limit is of a number over it
  pub extents-over : max_extents < r → max_extents < length (firsts t)
  extents-over l = omega arith
