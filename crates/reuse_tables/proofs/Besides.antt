-- A row, and the words of another that do not stand in it: a turn of the loop that puts them.
use mathlib.Core.Path.{◌≡◌, sym, ap, ◌∙◌}
use Prim.Native.Nat.{ℕ, ◌+◌, ◌≤◌, ◌<◌}
use native.Mathlib.Omega.{arith}
use mathlib.Core.List.{List, [], ◌∷◌, ◌++◌}
use mathlib.Core.Bool.{true, false}
use lib.ListN.{length, take, drop, get_or, set, drop_of_length-le, length-set}
use lib.Seq.{take_all, take_at}
use Rattle.reuse.specs.Limits.{max_extents}
use Rattle.reuse.specs.Lists.{mem, outside, beside}
use Rattle.reuse_rows.specs.Rows.{put_at, padded}
use Rattle.reuse_rows.proofs.Slices.{next_word}
use Rattle.reuse_copies.proofs.Puts.{put-none, put-cons}
use Rattle.reuse_copies.proofs.Padding.{padded-more}

-- the words passed that do not stand in s are put; what is left is still to be put, as far as there is room
pub record Besides (s t row : List ℕ) (n i : ℕ) : Type 0 where
  pub within : i ≤ length t
  pub long : length row ≡ max_extents
  pub same : take max_extents (put_at row n (outside s (drop i t))) ≡ padded (beside s t)

module _ (s t : List ℕ) where
  -- before the first word
  pub beside-start : (row : List ℕ) → row ≡ padded s → length row ≡ max_extents → Besides s t row (length s) 0
  beside-start row e l = record { within = omega arith; long = l; same = rw e (padded-more s (outside s t)) }

  module _ (row : List ℕ) (n i : ℕ) (h : Besides s t row n i) (l : i < length t) where
    -- a word that does not stand in s is put
    pub beside-more : mem (get_or t i 0) s ≡ false → n < max_extents → Besides s t (set row n (get_or t i 0)) (n + 1) (i + 1)
    unfolding outside
    beside-more m k =
        let e : take max_extents (put_at row n (get_or t i 0 ∷ outside s (drop (i + 1) t))) ≡ padded (beside s t) = simp (next_word t i l, m) at h.same in
        record {
          within = omega arith;
          long = simp length-set h.long;
          same = ap (take max_extents) (sym (put-cons row n (get_or t i 0) (outside s (drop (i + 1) t)) (omega (arith, h.long)))) ∙ e;
        }

    -- one that does is passed
    pub beside-known : mem (get_or t i 0) s ≡ true → Besides s t row n (i + 1)
    unfolding outside
    beside-known m = record { within = omega arith; long = h.long; same = simp (next_word t i l, m) at h.same }

  module _ (row : List ℕ) (n i : ℕ) (h : Besides s t row n i) where
    -- the row is full
    pub beside-full : max_extents ≤ n → row ≡ padded (beside s t)
    unfolding put_at
    beside-full k =
        let e : take n row ≡ row = take_all n row (omega (arith, h.long)) in
        sym (take_at row (outside s (drop i t) ++ drop (n + length (outside s (drop i t))) row) max_extents h.long) ∙ (rw e at h.same)

    -- no word is left
    pub beside_end : length t ≤ i → row ≡ padded (beside s t)
    unfolding outside
    beside_end k =
        let e : take max_extents (put_at row n []) ≡ padded (beside s t) = rw (drop_of_length-le t {i = i} k) at h.same in
        sym (take_all max_extents row (omega (arith, h.long))) ∙ ap (take max_extents) (sym (put-none row n)) ∙ e
