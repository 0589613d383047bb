-- The reads that some size could have served: of a trace, and of a summary's words.
use mathlib.Core.Path.{◌≡◌, refl, sym, ap, ◌∙◌}
use Prim.Native.Nat.{ℕ, suc, ◌≤◌}
use native.Mathlib.Omega.{arith}
use mathlib.Core.List.{List, [], ◌∷◌}
use mathlib.Core.Bool.{true}
use lib.ListN.{length, drop_of_length-le}
use lib.Seq.{take_all}
use Rattle.reuse.specs.Lists.{mem, firsts, cleanup, distinct, sum, count}
use Rattle.reuse.specs.Lru.{reuses, is_above, stack, misses_at}
use Rattle.reuse.specs.Cache.{cache_after, hit_count, servable}
use Rattle.reuse.specs.Summary.{histogram, summary_of, extents_of, counts_of, hits_of, misses_of, servable_of}
use Rattle.reuse.proofs.Lists.{by-test, clash}
use Rattle.reuse.proofs.Distinct.{distinct_cons, firsts-distinct, length-cleanup}
use Rattle.reuse.proofs.Stack.{mem-stack, length-stack, length-reuses}
use Rattle.reuse.proofs.Cache.{mem-take, cache-top}
use Rattle.reuse.proofs.Words.{reads-summary, extents-summary, counts-length, length-histogram}
use Rattle.reuse.proofs.Formed.{Formed}
use Rattle.reuse.proofs.Newcomers.{cold-count}
use Rattle.reuse.proofs.Misses.{within-misses, cache-hits, above-count, hits-misses}

-- a read that the cache of any size serves is of an extent read before
pub served-known : (c : ℕ) (t : List ℕ) (x : ℕ) → mem x (cache_after c t) ≡ true → mem x t ≡ true
served-known c t x h =
    by-test (mem x t) (λ m. m) (λ m. clash h (cache-top c t x ∙ mem-take c (stack t) x (mem-stack x t ∙ m)))

-- a read of an extent read before is served by every cache with room for the extents read
pub known-served : (c : ℕ) (t : List ℕ) (x : ℕ) → length (firsts t) ≤ c → mem x t ≡ true → mem x (cache_after c t) ≡ true
known-served c t x l h =
    cache-top c t x ∙ ap (mem x) (take_all c (stack t) (omega (arith, length-stack t))) ∙ mem-stack x t ∙ h

-- no cache has more hits than there are such reads
pub cache-servable : (c : ℕ) (t : List ℕ) → hit_count c t ≤ servable t
unfolding servable misses_at
cache-servable c t =
    omega (arith, cache-hits c t, within-misses c (reuses [] t), length-reuses [] t, cold-count t)

-- a cache with room for all extents has that many
pub cache-all : (c : ℕ) (t : List ℕ) → length (firsts t) ≤ c → hit_count c t ≡ servable t
unfolding servable misses_at sum
cache-all c t l =
    let none : count (is_above c) (reuses [] t) ≡ 0 = sym (above-count c t) ∙ ap sum (drop_of_length-le (histogram t) {i = c} (omega (arith, length-histogram t))) in
    omega (arith, cache-hits c t, within-misses c (reuses [] t), length-reuses [] t, cold-count t)

-- a cleanup is no longer than its list
cleanup-few : (t : List ℕ) → length (cleanup t) ≤ length t
unfolding cleanup
cleanup-few [] = omega arith
cleanup-few (x ∷ t) =
    let i : length (cleanup t) ≤ length t = cleanup-few t in
    by-test (mem x t) (λ m. simp m (omega arith)) (λ m. simp m (omega arith))

-- and as long only where the list has no extent twice
cleanup-whole : (t : List ℕ) → length t ≤ length (cleanup t) → distinct t ≡ true
unfolding cleanup
cleanup-whole [] l = unfold distinct in refl
cleanup-whole (x ∷ t) l =
    by-test (mem x t)
    (λ m. let k : suc (length t) ≤ length (cleanup t) = simp m at l in absurd (omega (arith, cleanup-few t)))
    (λ m. let k : suc (length t) ≤ suc (length (cleanup t)) = simp m at l in distinct_cons x t m (cleanup-whole t (omega arith)))

-- there are none exactly where the trace reads no extent twice
pub none-servable : (t : List ℕ) → (distinct t ≡ true → servable t ≡ 0) × (servable t ≡ 0 → distinct t ≡ true)
unfolding servable
none-servable t = (
  λ d. omega (arith, ap length (firsts-distinct t d)),
  λ e. cleanup-whole t (omega (arith, length-cleanup t)),
)

-- a trace's summary has as many
pub servable-summary : (t : List ℕ) → servable_of (summary_of t) ≡ servable t
unfolding servable_of servable
servable-summary t = rw (reads-summary t, extents-summary t)

module _ (w : List ℕ) (f : Formed w) (c : ℕ) where
  -- no size has more hits in well-formed words
  pub hits-servable : hits_of w c ≤ servable_of w
  unfolding servable_of misses_of
  hits-servable = omega (arith, hits-misses c w f)

  -- at a size of at least v all of H are hits
  pub hits-whole : extents_of w ≤ c → hits_of w c ≡ sum (counts_of w)
  unfolding hits_of
  hits-whole l = ap sum (take_all c (counts_of w) (omega (arith, counts-length w f.long)))

  -- so all of those reads are
  pub all-servable : extents_of w ≤ c → hits_of w c ≡ servable_of w
  unfolding servable_of
  all-servable l = omega (arith, hits-whole l, f.total)
