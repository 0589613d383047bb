-- Reads taken through the engine: how many extents are held.
use mathlib.Core.Path.{◌≡◌, sym, ap, ◌∙◌}
use Prim.Native.Nat.{ℕ, ◌≤◌, ◌<◌}
use native.Mathlib.Omega.{arith}
use mathlib.Core.List.{List}
use lib.ListN.{length, get_or}
use lib.Seq.{take_all}
use Rattle.reuse_engine.specs.declared.Place.{Place}
use Rattle.reuse_engine.specs.declared.Place.TheVariants.{Full}
use Rattle.reuse.specs.Limits.{max_extents}
use Rattle.reuse_engine.specs.Engine.{place_of, left_by}
use Rattle.reuse_engine.proofs.Runs.{Running, run-full, held_fits}
use Rattle.insertion.specs.Passes.{Ready, Held}
use Rattle.std.proofs.Common.{None, Some}
use Rattle.std.proofs.lemmas.Option.{none-some, same_Some}

-- reads that are ready, the first i of them taken
module _ (stack : List ℕ) (n : ℕ) (reads row : List ℕ) (held i : ℕ) (g : Ready stack n reads) (h : Running stack n reads row held i) where
  -- the row is as long as the limit of extents
  pub row-wide : length row ≡ max_extents
  row-wide = h.long ∙ g.wide

  -- what is held is within it
  pub held_small : held ≤ max_extents
  held_small = omega (arith, held_fits stack n reads row held i h, row-wide)

  -- all are taken
  pub hold-end : length reads ≤ i → Held stack n reads row (Some held)
  hold-end l = record {
    wide = row-wide;
    over = λ e. absurd (none-some _ (sym e));
    few = λ k e. rw (← same_Some _ _ e) held_small;
    front = λ k e. rw (← same_Some _ _ e) (rw (take_all i reads l) at h.front);
  }

  -- there is no room: what the engine leaves, and that the extents are over the limit
  module _ (l : i < length reads) (r : Place) (left : List ℕ) (p : r ≡ place_of row held (get_or reads i 0)) (q : left ≡ left_by r held (get_or reads i 0) row) (e : r ≡ Full) where
    pub left-wide : length left ≡ max_extents
    left-wide = rw (q ∙ ap (λ (z : Place). left_by z held (get_or reads i 0) row) e) row-wide

    pub hold-full : Held stack n reads left None
    hold-full = record {
      wide = left-wide;
      over = λ z. omega (arith, run-full stack n reads row held i h l (sym p ∙ e), g.wide);
      few = λ k z. absurd (none-some _ z);
      front = λ k z. absurd (none-some _ z);
    }
