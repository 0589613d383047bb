-- Misses: of the cache, by the distances, and from a summary's words.
use mathlib.Core.Path.{◌≡◌, refl, sym, ap, ◌∙◌, fun_ext}
use Prim.Native.Nat.{ℕ, suc, ◌+◌, ◌-◌, ◌≤◌}
use native.Mathlib.Omega.{arith}
use mathlib.Core.List.{List, [], ◌∷◌, map}
use mathlib.Core.Bool.{true, false, not}
use lib.Dec.{leb, ltb}
use lib.ListN.{length, drop, get_or, length-take, drop_of_length-le}
use borrow.Author.Tests.{leb-true, leb-false, lt-ltb, le-ltb}
use Rattle.reuse.specs.Lists.{firsts, from, sum, count}
use Rattle.reuse.specs.Lru.{Reuse, cold, at, reuses, is_cold, is_above, within, count_at, misses_at}
use Rattle.reuse.specs.Cache.{cache_misses, hit_count}
use Rattle.reuse.specs.Summary.{histogram, summary_of, reads_of, extents_of, counts_of, hits_of, misses_of}
use Rattle.reuse.proofs.Lists.{by-test}
use Rattle.reuse.proofs.Stack.{length-reuses}
use Rattle.reuse.proofs.Cache.{cache-law}
use Rattle.reuse.proofs.Counts.{finite, count-finite, above-finite, sum-counts, sum-split, drop-from}
use Rattle.reuse.proofs.Sums.{sum_drop, sum-drop-falls}
use Rattle.reuse.proofs.Words.{reads-summary, extents-summary, counts-summary}
use Rattle.reuse.proofs.Join.{reuse-range}
use Rattle.reuse.proofs.Formed.{Formed}
use Rattle.reuse.proofs.Newcomers.{cold-count}

-- answers that are no hits at size c are cold, or distances above c
misses-count : (c : ℕ) (rs : List Reuse) → count not (map (within c) rs) ≡ misses_at c rs
unfolding count misses_at
misses-count c [] = refl
misses-count c (cold n ∷ rs) = let i : count not (map (within c) rs) ≡ count is_cold rs + count (is_above c) rs = misses-count c rs in omega arith
misses-count c (at d ∷ rs) =
    let i : count not (map (within c) rs) ≡ count is_cold rs + count (is_above c) rs = misses-count c rs in
    by-test (leb d c)
    (λ e. let g : ltb c d ≡ false = le-ltb c d (leb-true d c e) in simp (e, g) i)
    (λ e. let g : ltb c d ≡ true = lt-ltb c d (leb-false d c e) in simp (e, g) (omega arith))

-- an answer is a distance of at most c, or a miss at c
pub within-misses : (c : ℕ) (rs : List Reuse) → count (within c) rs + misses_at c rs ≡ length rs
unfolding count misses_at
within-misses c [] = refl
within-misses c (cold n ∷ rs) = let i : count (within c) rs + (count is_cold rs + count (is_above c) rs) ≡ length rs = within-misses c rs in omega arith
within-misses c (at d ∷ rs) =
    let i : count (within c) rs + (count is_cold rs + count (is_above c) rs) ≡ length rs = within-misses c rs in
    by-test (leb d c)
    (λ e. let g : ltb c d ≡ false = le-ltb c d (leb-true d c e) in simp (e, g) (omega arith))
    (λ e. let g : ltb c d ≡ true = lt-ltb c d (leb-false d c e) in simp (e, g) (omega arith))

-- the misses of the cache of size c are the cold reads plus the reads of distance above c
pub cache-misses : (c : ℕ) (t : List ℕ) → cache_misses c t ≡ misses_at c (reuses [] t)
unfolding cache_misses
cache-misses c t = rw (cache-law c t) (misses-count c (reuses [] t))

-- tests that hold, counted
held-count : (c : ℕ) (rs : List Reuse) → count (λ b. b) (map (within c) rs) ≡ count (within c) rs
unfolding count
held-count c [] = refl
held-count c (r ∷ rs) = by-test (within c r) (λ e. simp (e, held-count c rs)) (λ e. simp (e, held-count c rs))

-- the hits of the cache of size c are the reads of distance at most c
pub cache-hits : (c : ℕ) (t : List ℕ) → hit_count c t ≡ count (within c) (reuses [] t)
unfolding hit_count
cache-hits c t = rw (cache-law c t) (held-count c (reuses [] t))

-- the words of H for distances above c add up to the reads of such distances
pub above-count : (c : ℕ) (t : List ℕ) → sum (drop c (histogram t)) ≡ count (is_above c) (reuses [] t)
unfolding histogram
above-count c t =
    let rs : List Reuse = reuses [] t in
    let v : ℕ = length (firsts t) in
    let e : 1 + c ≡ suc c = omega arith in
    ap sum (drop-from (count_at rs) c 1 v)
    ∙ rw e
    (ap (λ (f : ℕ → ℕ). sum (map f (from (suc c) (v - c)))) (fun_ext (count-finite rs))
    ∙ sum-counts (finite rs) c (v - c) (λ d m. omega (arith, reuse-range t d m))
    ∙ sym (above-finite rs c))

-- the misses from a trace's summary are its cold reads plus its reads of distance above c
pub summary-misses : (c : ℕ) (t : List ℕ) → misses_of (summary_of t) c ≡ misses_at c (reuses [] t)
unfolding misses_of misses_at
summary-misses c t = rw (extents-summary t, counts-summary t, above-count c t, cold-count t)

-- so they are the misses of the cache
pub summary-cache : (c : ℕ) (t : List ℕ) → misses_of (summary_of t) c ≡ cache_misses c t
summary-cache c t = summary-misses c t ∙ sym (cache-misses c t)

-- the hits and the misses of well-formed words make up the reads
pub hits-misses : (c : ℕ) (w : List ℕ) → Formed w → hits_of w c + misses_of w c ≡ reads_of w
unfolding hits_of misses_of
hits-misses c w f = omega (arith, sum-split c (counts_of w), f.total)

-- a larger size has no more misses
pub misses-fall : (w : List ℕ) (c d : ℕ) → c ≤ d → misses_of w d ≤ misses_of w c
unfolding misses_of
misses-fall w c d h = omega (arith, sum-drop-falls c d (counts_of w) h)

-- one size more: the reads of that distance are no longer missed
pub misses-step : (w : List ℕ) (c : ℕ) → misses_of w c ≡ get_or (counts_of w) c 0 + misses_of w (suc c)
unfolding misses_of
misses-step w c = omega (arith, sum_drop c (counts_of w))

-- at size 0 all reads of well-formed words are missed
pub misses-none : (w : List ℕ) → Formed w → misses_of w 0 ≡ reads_of w
unfolding misses_of
misses-none w f = f.total

-- at no size fewer than the cold reads, of which there are v
pub misses-cold : (w : List ℕ) (c : ℕ) → extents_of w ≤ misses_of w c
unfolding misses_of
misses-cold w c = omega arith

-- at size v these alone
pub misses-all : (w : List ℕ) → misses_of w (extents_of w) ≡ extents_of w
unfolding misses_of counts_of sum
misses-all w =
    let l : length (counts_of w) ≤ extents_of w = simp length-take (omega arith) in
    rw (drop_of_length-le (counts_of w) l) (omega arith)

-- the hits from the summary of a trace within the limits are its reads of distance at most c
pub summary-hits : (c : ℕ) (t : List ℕ) → Formed (summary_of t) → hits_of (summary_of t) c ≡ count (within c) (reuses [] t)
summary-hits c t f =
    omega (arith, hits-misses c (summary_of t) f, reads-summary t, summary-misses c t, within-misses c (reuses [] t), length-reuses [] t)
