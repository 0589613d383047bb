-- A turn of the loop that adds the words of a row.
use mathlib.Core.Path.{◌≡◌, ap}
use Prim.Native.Nat.{ℕ, ◌+◌, ◌*◌, ◌≤◌, ◌<◌, ◌^◌}
use native.Mathlib.Omega.{arith}
use mathlib.Core.List.{List}
use lib.ListN.{length, take, drop, get_or, drop_of_length-le}
use lib.Seq.{take_all}
use Rattle.reuse.specs.Limits.{max_extents}
use Rattle.reuse.specs.Lists.{sum}
use Rattle.reuse_rows.proofs.Slices.{next_word}

-- t is the sum of the words passed
pub record Summed (s : List ℕ) (t i : ℕ) : Type 0 where
  pub within : i ≤ length s
  pub small : t ≤ i * 2 ^ 32
  pub same : t + sum (drop i s) ≡ sum s

module _ (s : List ℕ) where
  module _ (t i : ℕ) (h : Summed s t i) where
    -- the sum by the next word and those after it
    pub sum-next : i < length s → t + (get_or s i 0 + sum (drop (i + 1) s)) ≡ sum s
    unfolding sum
    sum-next l = rw (next_word s i l) at h.same

    -- the next word is added
    pub sum-turn : i < length s → get_or s i 0 < 2 ^ 32 → Summed s (t + get_or s i 0) (i + 1)
    sum-turn l k = record { within = omega arith; small = omega (arith, h.small); same = omega (arith, sum-next l) }

    -- no word is left
    pub sum-end : length s ≤ i → t ≡ sum s
    unfolding sum
    sum-end l = let e : t + 0 ≡ sum s = rw (drop_of_length-le s {i = i} l) at h.same in omega arith

-- no more words than the limit are all added
pub few-total : (s : List ℕ) → length s ≤ max_extents → sum (take max_extents s) ≡ sum s
few-total s l = ap sum (take_all max_extents s l)
