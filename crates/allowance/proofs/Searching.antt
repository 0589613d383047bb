-- The loop of the search: what holds at a size, from its start to its end.
use mathlib.Core.Path.{◌≡◌, refl, ap, ◌∙◌}
use Prim.Native.Nat.{ℕ, suc, ◌+◌, ◌-◌, ◌≤◌, ◌<◌}
use native.Mathlib.Numerals.{add-one}
use native.Mathlib.Nat.{zero-add}
use native.Mathlib.Omega.{arith}
use mathlib.Core.List.{List, ◌∷◌}
use lib.ListN.{length, drop, get_or, drop_of_length-le}
use lib.Seq.{drop-cons}
use borrow.Author.Tests.{le-leb, lt-leb}
use Rattle.reuse.specs.Lists.{sum}
use Rattle.reuse.proofs.Sums.{sum_drop}
use Rattle.reuse.proofs.Formed.{formed}
use Rattle.summary_calls.proofs.Fields.{shaped, counts-few}
use Rattle.summary_formed.specs.declared.Parts.{Parts}
use Rattle.summary_formed.specs.Parting.{PartsOf}
use Rattle.allowance_calls.specs.Search.{searched}
use Rattle.allowance_calls.proofs.Search.{searched-enough, searched-on}
use Rattle.allowance.specs.Searching.{Searchable, found_by}

-- at a size: as many words were read; the words still to come count reads that are left; and the words read so far with those
-- that the search reads from here on are as many as those of the whole search
pub record Searching (counts : List ℕ) (reads m left size words-read : ℕ) : Type 0 where
  pub short : size ≤ length counts
  pub counted : words-read ≡ size
  pub rest : sum (drop size counts) ≤ left
  pub so_far : size + length (searched m left (drop size counts)) ≡ length (searched m reads counts)

module _ (counts : List ℕ) (reads m : ℕ) where
  -- at size 0
  pub search-start : Searchable counts reads → Searching counts reads m reads 0 0
  search-start s = record { short = omega arith; counted = refl; rest = s.within; so_far = zero-add _ }

  module _ (left size words-read : ℕ) (s : Searching counts reads m left size words-read) where
    -- the next word is of reads that are left
    pub search-takes : get_or counts size 0 ≤ left
    search-takes = omega (arith, s.rest, sum_drop size counts)

    -- one size more, where this one does not suffice
    pub search-turn : size < length counts → m < left → Searching counts reads m (left - get_or counts size 0) (size + 1) (words-read + 1)
    search-turn l e =
        let d : drop size counts ≡ get_or counts size 0 ∷ drop (suc size) counts = drop-cons counts size 0 l in
        let g : length (searched m left (drop size counts)) ≡ suc (length (searched m (left - get_or counts size 0) (drop (suc size) counts))) =
        ap (λ (hs : List ℕ). length (searched m left hs)) d ∙ ap length (searched-on m left (get_or counts size 0) (drop (suc size) counts) (lt-leb left m e)) in
        rw (add-one size) (record {
          short = omega arith;
          counted = omega (arith, s.counted);
          rest = omega (arith, s.rest, sum_drop size counts);
          so_far = omega (arith, g, s.so_far);
        })

    -- the size found, and the words read, where this one suffices
    found : length (searched m left (drop size counts)) ≡ 0 → record { size = size; words_read = words-read } ≡ found_by (searched m reads counts)
    found e =
        let n : size ≡ length (searched m reads counts) = omega (arith, e, s.so_far) in
        let r : words-read ≡ length (searched m reads counts) = s.counted ∙ n in
        cc

    -- as it does where no more than m are left
    pub search-enough : left ≤ m → record { size = size; words_read = words-read } ≡ found_by (searched m reads counts)
    search-enough e = found (ap length (searched-enough m left (drop size counts) (le-leb left m e)))

    -- or where no word is
    pub search-end : length counts ≤ size → record { size = size; words_read = words-read } ≡ found_by (searched m reads counts)
    unfolding searched
    search-end l = found (ap (λ (hs : List ℕ). length (searched m left hs)) (drop_of_length-le counts l))

-- H of a summary can be searched, with all reads at the start
pub searchable : (w : List ℕ) (p : Parts) → PartsOf w p → Searchable p.counts.now p.reads
searchable w p h = record {
  few = omega (arith, ap length h.counts, counts-few w (shaped w h.formed));
  within = omega (arith, ap sum h.counts, h.reads, (formed w h.formed).total);
}
