-- The join of two traces' summaries is the summary of the two traces end to end.
use mathlib.Core.Path.{◌≡◌, refl, sym, ap, ap₂, ◌∙◌, fun_ext}
use Prim.Native.Nat.{ℕ, zero, suc, ◌+◌, ◌≤◌}
use native.Mathlib.Omega.{arith}
use mathlib.Core.List.{List, [], ◌∷◌, ◌++◌, map, reverse}
use mathlib.Core.Bool.{true}
use lib.ListN.{length, length-append}
use Rattle.reuse.specs.Lists.{mem, firsts, cleanup, distinct, from, count}
use Rattle.reuse.specs.Lru.{depth, stack, reuses, is_at, count_at}
use Rattle.reuse.specs.Summary.{histogram, summary_of, first_of, recent_of, joined_first, joined_recent, shared, across, count_for, joined_count, joined_counts, join_of}
use Rattle.reuse.proofs.Lists.{by-test, mem-firsts, firsts-append, inside-same}
use Rattle.reuse.proofs.Distinct.{distinct-firsts}
use Rattle.reuse.proofs.Stack.{stack-law, distinct_stack, mem-stack, length-stack, reuses-append, reuses-snoc, recent-append}
use Rattle.reuse.proofs.Counts.{finite, count-finite, count-append, count-absent, get_or-from}
use Rattle.reuse.proofs.Newcomers.{finite-range}
use Rattle.reuse.proofs.Across.{across_of, across-law, split-law}
use Rattle.reuse.proofs.Words.{reads-summary, first-summary, recent-summary, counts-summary}

-- each distance of a trace lies between 1 and the number of its different extents
pub reuse-range : (t : List ℕ) (d : ℕ) → mem d (finite (reuses [] t)) ≡ true → (1 ≤ d) × (d ≤ length (firsts t))
unfolding distinct
reuse-range t d h = rw (← length-stack t) (unfold stack in finite-range [] t d refl h)

-- no other distance is counted
pub count-range : (t : List ℕ) (d : ℕ) → (1 ≤ d → d ≤ length (firsts t) → ⊥) → count_at (reuses [] t) d ≡ 0
count-range t d h =
    count-finite (reuses [] t) d
    ∙ by-test (mem d (finite (reuses [] t)))
    (λ m. let r = reuse-range t d m in absurd (h r.0 r.1))
    (λ m. count-absent d (finite (reuses [] t)) m)

-- one more read adds its answer to the counts
pub count-more : (t : List ℕ) (x d : ℕ) → count_at (reuses [] (t ++ (x ∷ []))) d ≡ count_at (reuses [] t) d + count_at (depth (stack t) x ∷ []) d
count-more t x d = rw (reuses-snoc t x) (unfold count_at in count-append (is_at d) (reuses [] t) (depth (stack t) x ∷ []))

-- the word of H for any distance
pub histogram-at : (t : List ℕ) (d : ℕ) → count_for (histogram t) d ≡ count_at (reuses [] t) d
unfolding count_for histogram
histogram-at t zero = sym (count-range t 0 (omega arith))
histogram-at t (suc d) =
    get_or-from (count_at (reuses [] t)) 1 (length (firsts t)) d (λ e l. count-range t e (omega arith))
    ∙ ap (count_at (reuses [] t)) (omega arith)

-- the distances of two traces end to end: those of both, and those of the second's first reads after the first's stack
pub histogram-append : (a b : List ℕ) (d : ℕ)
    → count_at (reuses [] (a ++ b)) d ≡ count_at (reuses [] a) d + (count_at (reuses [] b) d + count_at (reuses (stack a) (firsts b)) d)
unfolding count_at stack
histogram-append a b d =
    simp (reuses-append, count-append)
    (ap (λ (n : ℕ). count (is_at d) (reuses [] a) + n) (unfold count_at in split-law (stack a) b d))

-- for all words with no repeats in these, the distances that a join adds are those of F of B read after the stack R of A
pub across-words : (a b : List ℕ) → distinct (recent_of a) ≡ true → distinct (first_of b) ≡ true → ((x : ℕ) → mem x (recent_of a) ≡ mem x (first_of a))
    → finite (reuses (recent_of a) (first_of b)) ≡ map (across a b) (shared a b)
unfolding across across_of shared
across-words a b d e h =
    across-law (recent_of a) (first_of b) d e
    ∙ ap (map (across a b)) (inside-same (recent_of a) (first_of a) (first_of b) h)

-- so it is with the words of two traces
across-summary : (a b : List ℕ)
    → finite (reuses (stack a) (firsts b)) ≡ map (across (summary_of a) (summary_of b)) (shared (summary_of a) (summary_of b))
across-summary a b =
    let r : recent_of (summary_of a) ≡ stack a = recent-summary a ∙ sym (stack-law a) in
    let f : first_of (summary_of b) ≡ firsts b = first-summary b in
    ap₂ (λ (s t : List ℕ). finite (reuses s t)) (sym r) (sym f)
    ∙ across-words (summary_of a) (summary_of b) (rw r (distinct_stack a)) (rw f (distinct-firsts b))
    (λ x. rw (r, first-summary a) (mem-stack x a ∙ sym (mem-firsts x a)))

-- each count of the join is the count of the two traces end to end
pub joined-count : (a b : List ℕ) (d : ℕ) → joined_count (summary_of a) (summary_of b) d ≡ count_at (reuses [] (a ++ b)) d
unfolding joined_count
joined-count a b d =
    simp (counts-summary, histogram-at, ← across-summary a b, ← count-finite) (sym (histogram-append a b d))

-- F of the join
pub joined-first : (a b : List ℕ) → joined_first (summary_of a) (summary_of b) ≡ firsts (a ++ b)
unfolding joined_first
joined-first a b = simp (first-summary, firsts-append)

-- R of the join
pub joined-recent : (a b : List ℕ) → joined_recent (summary_of a) (summary_of b) ≡ reverse (cleanup (a ++ b))
unfolding joined_recent
joined-recent a b = simp (recent-summary, recent-append)

-- H of the join
pub joined-counts : (a b : List ℕ) → joined_counts (summary_of a) (summary_of b) ≡ histogram (a ++ b)
unfolding joined_counts histogram
joined-counts a b =
    rw (joined-first a b)
    (ap (λ (f : ℕ → ℕ). map f (from 1 (length (firsts (a ++ b))))) (fun_ext (joined-count a b)))

-- the join of two traces' summaries is the summary of the two end to end, word for word
pub join-law : (a b : List ℕ) → join_of (summary_of a) (summary_of b) ≡ summary_of (a ++ b)
join-law a b = unfold join_of in simp (reads-summary, joined-first, joined-recent, joined-counts, ← length-append) (unfold summary_of in refl)

-- the answers to a part after a prefix: R of the prefix is the stack that the part finds
pub part-law : (a b : List ℕ) → reuses [] (a ++ b) ≡ reuses [] a ++ reuses (recent_of (summary_of a)) b
unfolding stack
part-law a b = rw (recent-summary a, ← stack-law a) (reuses-append [] a b)
