-- Tallies and traces: the tally of a trace is made read by read, knows the limits that the trace knows, and gives its misses.
use mathlib.Core.Path.{◌≡◌, refl, sym, ap, ◌∙◌}
use Prim.Native.Nat.{ℕ, zero, suc, ◌<◌}
use native.Mathlib.Omega.{arith}
use mathlib.Core.List.{List, [], ◌∷◌, ◌++◌}
use mathlib.Core.Bool.{true, false, cond}
use lib.Dec.{eqb}
use lib.ListN.{length, get_or, set, length-append, length-set}
use lib.Seq.{ext_get_or, get_or-set_same, get_or-set_other}
use borrow.Author.Tests.{eqb-true, eqb-false}
use Rattle.reuse.specs.Lists.{mem, firsts, before, from}
use Rattle.reuse.specs.Lru.{Reuse, cold, at, depth, stack, reuses, count_at, misses_at}
use Rattle.reuse.specs.Summary.{histogram, count_for}
use Rattle.reuse.proofs.Lists.{by-test, firsts-known, firsts-new}
use Rattle.reuse.proofs.Stack.{reuses-snoc, stack_snoc, mem-stack, length-stack}
use Rattle.reuse.proofs.Depth.{depth-absent, depth-present, length_before}
use Rattle.reuse.proofs.Counts.{count-snoc}
use Rattle.reuse.proofs.Words.{length-histogram}
use Rattle.reuse.proofs.Join.{histogram-at}
use Rattle.reuse.proofs.Misses.{above-count}
use Rattle.reuse.proofs.Newcomers.{cold-count}
use Rattle.listing_texts.specs.Tallies.{no_reads, counted_with, tallied, over_tally, misses_by, tally_of}
use Rattle.texts.specs.Logs.{over_read}

-- no reads have the tally of none
pub tally-none : tally_of [] ≡ no_reads
unfolding tally_of stack histogram firsts from
tally-none = refl

-- the count at a place is that of the distance one above it
histogram-place : (t : List ℕ) (i : ℕ) → get_or (histogram t) i 0 ≡ count_at (reuses [] t) (suc i)
unfolding count_for
histogram-place t i = histogram-at t (suc i)

-- one read more: the count at each place
place-more : (t : List ℕ) (x : ℕ) (r : Reuse) → depth (stack t) x ≡ r → (i : ℕ)
    → get_or (histogram (t ++ (x ∷ []))) i 0 ≡ count_at (reuses [] t ++ (r ∷ [])) (suc i)
place-more t x r e i = histogram-place (t ++ (x ∷ [])) i ∙ rw (reuses-snoc t x, e)

-- a list read past its end as 0 reads the same with a 0 at its end
get_or-pad : (l : List ℕ) (i : ℕ) → get_or (l ++ (0 ∷ [])) i 0 ≡ get_or l i 0
get_or-pad [] zero = refl
get_or-pad [] (suc i) = refl
get_or-pad (x ∷ l) zero = refl
get_or-pad (x ∷ l) (suc i) = get_or-pad l i

-- a cold read: one count more, which is 0
counts-cold : (t : List ℕ) (x : ℕ) → mem x t ≡ false → histogram t ++ (0 ∷ []) ≡ histogram (t ++ (x ∷ []))
counts-cold t x m =
    ext_get_or 0 (histogram t ++ (0 ∷ [])) (histogram (t ++ (x ∷ [])))
    (simp (length-append, length-histogram, firsts-new x t m))
    (λ i l. get_or-pad (histogram t) i
    ∙ histogram-place t i
    ∙ sym (count-snoc (reuses [] t) (cold (suc (length (stack t)))) (suc i))
    ∙ sym (place-more t x (cold (suc (length (stack t)))) (depth-absent x (stack t) (mem-stack x t ∙ m)) i))

-- a read at the place e: the count there grows by one
counts-at : (t : List ℕ) (x e : ℕ) → mem x t ≡ true → depth (stack t) x ≡ at (suc e) → e < length (firsts t)
    → set (histogram t) e (suc (get_or (histogram t) e 0)) ≡ histogram (t ++ (x ∷ []))
counts-at t x e m d b =
    ext_get_or 0 (set (histogram t) e (suc (get_or (histogram t) e 0))) (histogram (t ++ (x ∷ [])))
    (simp (length-set, length-histogram, firsts-known x t m))
    (λ i l. place i ∙ sym (count-snoc (reuses [] t) (at (suc e)) (suc i)) ∙ sym (place-more t x (at (suc e)) d i))
  where
    place : (i : ℕ) → get_or (set (histogram t) e (suc (get_or (histogram t) e 0))) i 0
        ≡ cond (eqb (suc i) (suc e)) (suc (count_at (reuses [] t) (suc i))) (count_at (reuses [] t) (suc i))
    place i =
        by-test (eqb (suc i) (suc e))
        (λ q. let s : i ≡ e = omega (arith, eqb-true (suc i) (suc e) q) in
        rw (q, s) (get_or-set_same (histogram t) e (suc (get_or (histogram t) e 0)) 0 (rw (length-histogram t) b) ∙ ap suc (histogram-place t e)))
        (λ q. rw q (get_or-set_other (histogram t) e i (suc (get_or (histogram t) e 0)) 0 (λ s. eqb-false (suc i) (suc e) q (ap suc s)) ∙ histogram-place t i))

-- the counts with one read more
counts-more : (t : List ℕ) (x : ℕ) → counted_with (depth (stack t) x) (histogram t) ≡ histogram (t ++ (x ∷ []))
counts-more t x =
    by-test (mem x t)
    (λ m. let p : mem x (stack t) ≡ true = mem-stack x t ∙ m in
    let d = depth-present x (stack t) p in
    rw d (counts-at t x (length (before x (stack t))) m d (omega (arith, length_before x (stack t) p, length-stack t))))
    (λ m. rw (depth-absent x (stack t) (mem-stack x t ∙ m)) (counts-cold t x m))

-- a tally with one read more is that of the trace with one read more
pub tally-more : (t : List ℕ) (x : ℕ) → tallied (tally_of t) x ≡ tally_of (t ++ (x ∷ []))
unfolding tallied tally_of
tally-more t x =
    let r : suc (length t) ≡ length (t ++ (x ∷ [])) = simp length-append (omega arith) in
    rw (r, ← stack_snoc t x, counts-more t x)

-- the tally breaks the limits that the trace breaks
pub over-same : (t : List ℕ) (x : ℕ) → over_tally (tally_of t) x ≡ over_read t x
unfolding tally_of
over-same t x = rw (mem-stack x t, length-stack t)

-- the misses by the counts of a trace are those by its distances
pub misses-same : (t : List ℕ) (c : ℕ) → misses_by (histogram t) c ≡ misses_at c (reuses [] t)
unfolding misses_at
misses-same t c = rw (length-histogram t, above-count c t, cold-count t)
