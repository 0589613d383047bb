-- The search reads as many words of H as the smallest size has extents: the first ones, from distance 1 upwards.
use mathlib.Core.Path.{◌≡◌, refl, sym, ap}
use Prim.Native.Nat.{ℕ, zero, suc, ◌+◌, ◌-◌, ◌≤◌}
use native.Mathlib.Omega.{arith}
use mathlib.Core.List.{List, [], ◌∷◌, map}
use mathlib.Core.Bool.{true, false}
use lib.Dec.{leb}
use lib.ListN.{length, take, drop, get_or}
use lib.Seq.{drop-cons}
use borrow.Author.Tests.{le-leb}
use Rattle.reuse.specs.Lists.{from}
use Rattle.reuse.specs.Summary.{reads_of, extents_of, counts_of, misses_of}
use Rattle.reuse.proofs.Lists.{by-test}
use Rattle.reuse.proofs.Words.{counts-length}
use Rattle.reuse.proofs.Formed.{Formed}
use Rattle.reuse.proofs.Misses.{misses-step, misses-none, misses-all}
use Rattle.allowance_calls.specs.Smallest.{misses_list, first_within, smallest}
use Rattle.allowance_calls.specs.Search.{searched, words_searched}

-- a size that suffices: no word is read
pub searched-enough : (m left : ℕ) (hs : List ℕ) → leb left m ≡ true → searched m left hs ≡ []
unfolding searched
searched-enough m left [] e = refl
searched-enough m left (h ∷ hs) e = rw e

-- one that does not: the next word is read
pub searched-on : (m left h : ℕ) (hs : List ℕ) → leb left m ≡ false → searched m left (h ∷ hs) ≡ h ∷ searched m (left - h) hs
unfolding searched
searched-on m left h hs e = rw e

-- the words read are the first ones, in order
searched-front : (m left : ℕ) (hs : List ℕ) → searched m left hs ≡ take (length (searched m left hs)) hs
unfolding searched
searched-front m left [] = refl
searched-front m left (h ∷ hs) =
    by-test (leb left m) (λ t. rw t) (λ t. rw t (ap {B = List ℕ} (λ l. h ∷ l) (searched-front m (left - h) hs)))

module _ (w : List ℕ) (m : ℕ) (f : Formed w) (enough : extents_of w ≤ m) where
  -- from size s on, n below v: as many words as stand in the rest of the full list before the first that is at most m
  search-from : (n s : ℕ) → s + n ≡ extents_of w →
      first_within m (map (misses_of w) (from s (suc n))) ≡ length (searched m (misses_of w s) (drop s (counts_of w)))
  unfolding first_within from
  search-from zero s e =
      let v : s ≡ extents_of w = omega arith in
      let t : leb (misses_of w s) m ≡ true = le-leb (misses_of w s) m (rw v (omega (arith, misses-all w))) in
      rw (t, searched-enough m (misses_of w s) (drop s (counts_of w)) t)
  search-from (suc n) s e =
      by-test (leb (misses_of w s) m)
      (λ t. rw (t, searched-enough m (misses_of w s) (drop s (counts_of w)) t))
      (λ t.
      let d : drop s (counts_of w) ≡ get_or (counts_of w) s 0 ∷ drop (suc s) (counts_of w) = drop-cons (counts_of w) s 0 (omega (arith, counts-length w f.long)) in
      let g : misses_of w s - get_or (counts_of w) s 0 ≡ misses_of w (suc s) = omega (arith, misses-step w s) in
      rw (t, d, searched-on m (misses_of w s) (get_or (counts_of w) s 0) (drop (suc s) (counts_of w)) t, g)
      (ap suc (search-from n (suc s) (omega arith))))

  -- the words read are as many as the smallest size
  pub words-read : length (words_searched w m) ≡ smallest w m
  unfolding smallest misses_list words_searched
  words-read = sym (rw (← misses-none w f) (search-from (extents_of w) 0 (omega arith)))

  -- those of the distances from 1 to that size
  pub words-front : words_searched w m ≡ take (smallest w m) (counts_of w)
  unfolding words_searched
  words-front = rw (← words-read) (searched-front m (reads_of w) (counts_of w))
