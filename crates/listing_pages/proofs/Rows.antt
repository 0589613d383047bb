-- The rows of a listing laid one after the other.
use mathlib.Core.Path.{◌≡◌, refl, sym, ap, ◌∙◌}
use Prim.Native.Nat.{ℕ, suc, ◌+◌, ◌-◌, ◌≤◌, ◌<◌}
use native.Mathlib.Omega.{arith}
use mathlib.Core.List.{List}
use lib.ListN.{length, get_or}
use Rattle.reuse.proofs.Sums.{sum_drop}
use Rattle.listing_texts.specs.Tallies.{misses_by}
use Rattle.listing_texts.specs.Pages.{AddsUp}
use Rattle.listing_rows.specs.Laying.{Laid, laid_at, lay_all, row_pieces}
use Rattle.listing_pages.specs.Texts.{rows_pieces}

-- the rows of the first sizes are laid; those left are still to be laid
pub record Rows (was : List ℕ) (at : ℕ) (counts page : List ℕ) (next misses size : ℕ) : Type 0 where
  pub within : size ≤ length counts
  pub long : length page ≡ length was
  pub left : misses ≡ misses_by counts size
  pub same : lay_all (laid_at page next) (rows_pieces (misses_by counts) (suc size) (length counts - size)) ≡ lay_all (laid_at was at) (rows_pieces (misses_by counts) 1 (length counts))

module _ (was : List ℕ) (at : ℕ) (counts : List ℕ) where
  -- none is laid
  pub rows_start : (reads : ℕ) → AddsUp reads counts → Rows was at counts was at reads 0
  rows_start reads g = let z : length counts - 0 ≡ length counts = omega arith in record {
    within = omega arith;
    long = refl;
    left = sym g.whole;
    same = rw z;
  }

  module _ (page : List ℕ) (next misses size : ℕ) (h : Rows was at counts page next misses size) where
    -- the misses of the next size
    pub rows_left : misses ≡ get_or counts size 0 + misses_by counts (size + 1)
    rows_left = let e : size + 1 ≡ suc size = omega arith in rw e (omega (arith, h.left, sum_drop size counts))

    -- its row is laid
    pub rows-turn : size < length counts → {after : List ℕ} {past : ℕ} → length after ≡ length page
        → laid_at after past ≡ lay_all (laid_at page next) (row_pieces (size + 1) (misses - get_or counts size 0) (length counts - (size + 1)))
        → Rows was at counts after past (misses - get_or counts size 0) (size + 1)
    unfolding rows_pieces
    rows-turn l {after} {past} g p =
        let m : misses - get_or counts size 0 ≡ misses_by counts (size + 1) = omega (arith, rows_left) in
        let e : size + 1 ≡ suc size = omega arith in
        let k : length counts - size ≡ suc (length counts - suc size) = omega arith in
        let f : laid_at after past ≡ lay_all (laid_at page next) (row_pieces (suc size) (misses_by counts (suc size)) (length counts - suc size)) = rw (m, e) at p in
        record {
          within = omega arith;
          long = g ∙ h.long;
          left = m;
          same = rw e (ap (λ (d : Laid). lay_all d (rows_pieces (misses_by counts) (suc (suc size)) (length counts - suc size))) f ∙ rw k at h.same);
        }

    -- all are laid
    pub rows_end : length counts ≤ size → laid_at page next ≡ lay_all (laid_at was at) (rows_pieces (misses_by counts) 1 (length counts))
    unfolding rows_pieces
    rows_end l = let k : length counts - size ≡ 0 = omega arith in rw k at h.same
