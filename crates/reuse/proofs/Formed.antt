-- Well-formed words, and the join of two.
use mathlib.Core.Path.{◌≡◌, refl, sym, ap, ◌∙◌}
use Prim.Native.Nat.{ℕ, ◌+◌, ◌*◌, ◌≤◌}
use native.Mathlib.Omega.{arith}
use mathlib.Core.List.{List, [], ◌∷◌, ◌++◌, map, foldl}
use mathlib.Core.Bool.{true, ◌||◌, or-true, or_comm}
use lib.Dec.{eqb, ltb}
use lib.ListN.{length, length-append, length-map}
use borrow.Author.Tests.{eqb-true, eq-eqb, leb-true, le-leb, lt-ltb}
use Rattle.reuse.specs.Limits.{max_reads, max_extents}
use Rattle.reuse.specs.Lists.{mem, remove, firsts, cleanup, distinct, outside, from, sum, count}
use Rattle.reuse.specs.Lru.{depth, touch, reuses, count_at}
use Rattle.reuse.specs.Summary.{words, histogram, summary_of, well_formed, reads_of, extents_of, first_of, recent_of, counts_of, joined_first, joined_recent, shared, across, count_for, joined_count, joined_counts, join_of}
use Rattle.reuse.proofs.Lists.{by-test, both, mem-append, mem-firsts, remove_absent, mem-beside}
use Rattle.reuse.proofs.Distinct.{distinct-firsts, length-remove, distinct-beside}
use Rattle.reuse.proofs.Sizes.{fewer, same_size, full-distinct, full-same, all_in_lem, in_all, length-split}
use Rattle.reuse.proofs.Stack.{distinct_from}
use Rattle.reuse.proofs.Counts.{finite, count-all, sum-add, sum-counts, sum-table, length_from}
use Rattle.reuse.proofs.Newcomers.{finite-range}
use Rattle.reuse.proofs.Across.{mem-over}
use Rattle.reuse.proofs.Words.{reads-words, extents-words, first-words, recent-words, counts-words, length-words, reads-summary, first-length, recent-length, counts-length}
use Rattle.reuse.proofs.Join.{joined-first, join-law, across-words}

-- what the test of words says: half of 'R holds the same extents' gives the other half
pub record Formed (w : List ℕ) : Type 0 where
  pub long : length w ≡ 2 + 3 * extents_of w
  pub few : extents_of w ≤ max_extents
  pub short : reads_of w ≤ max_reads
  pub once : distinct (first_of w) ≡ true
  pub held : (x : ℕ) → mem x (first_of w) ≡ true → mem x (recent_of w) ≡ true
  pub total : extents_of w + sum (counts_of w) ≡ reads_of w

-- the test passes only on such words
pub formed : (w : List ℕ) → well_formed w ≡ true → Formed w
unfolding well_formed
formed w h =
    let h₁ = both _ _ h in
    let h₂ = both _ _ h₁.0 in
    let h₃ = both _ _ h₂.0 in
    let h₄ = both _ _ h₃.0 in
    let h₅ = both _ _ h₄.0 in
    let h₆ = both _ _ h₅.0 in
    record {
      long = eqb-true _ _ h₆.0;
      few = leb-true _ _ h₆.1;
      short = leb-true _ _ h₅.1;
      once = h₄.1;
      held = in_all _ _ h₃.1;
      total = eqb-true _ _ h₁.1;
    }

-- R of well-formed words
module _ (w : List ℕ) (f : Formed w) where
  -- R has no extent twice
  pub recent-distinct : distinct (recent_of w) ≡ true
  recent-distinct =
      full-distinct (first_of w) (recent_of w) f.once f.held (recent-length w f.long ∙ sym (first-length w f.long))

  -- R has the extents of F, and no others
  pub recent-first : (x : ℕ) → mem x (recent_of w) ≡ mem x (first_of w)
  recent-first = full-same (first_of w) (recent_of w) f.once f.held (recent-length w f.long ∙ sym (first-length w f.long))

-- reads after R of well-formed words: the stack then has the extents of F and of the reads
pub prefix-stack : (w : List ℕ) → Formed w → (reads : List ℕ) → length (foldl touch (recent_of w) reads) ≡ length (firsts (first_of w ++ reads))
prefix-stack w f reads =
    same_size (foldl touch (recent_of w) reads) (firsts (first_of w ++ reads)) (distinct_from (recent_of w) reads (recent-distinct w f)) (distinct-firsts (first_of w ++ reads))
    (λ x. mem-over x (recent_of w) reads ∙ rw (recent-first w f x)
    (or_comm (mem x reads) (mem x (first_of w)) ∙ sym (mem-firsts x (first_of w ++ reads) ∙ mem-append x (first_of w) reads)))

-- the test passes on all such words
pub well-formed : (w : List ℕ) → Formed w → well_formed w ≡ true
unfolding well_formed
well-formed w f =
    simp (
      eq-eqb (length w) (2 + 3 * extents_of w) f.long,
      le-leb (extents_of w) max_extents f.few,
      le-leb (reads_of w) max_reads f.short,
      f.once,
      all_in_lem (first_of w) (recent_of w) f.held,
      all_in_lem (recent_of w) (first_of w) (λ x m. sym (recent-first w f x) ∙ m),
      eq-eqb (extents_of w + sum (counts_of w)) (reads_of w) f.total,
    )

-- words from their parts
pub words-formed : (l : ℕ) (f r h : List ℕ) → length r ≡ length f → length h ≡ length f → length f ≤ max_extents → l ≤ max_reads
    → distinct f ≡ true → ((x : ℕ) → mem x f ≡ true → mem x r ≡ true) → length f + sum h ≡ l → Formed (words l f r h)
words-formed l f r h er eh few short once held total = record {
  long = rw (extents-words l f r h) (length-words l f r h er eh);
  few = rw (extents-words l f r h) few;
  short = rw (reads-words l f r h) short;
  once = rw (first-words l f r h) once;
  held = rw (first-words l f r h, recent-words l f r h er) held;
  total = rw (extents-words l f r h, counts-words l f r h er eh, reads-words l f r h) total;
}

-- H of the join added up, part by part
joined-parts : (a b : List ℕ) → sum (joined_counts a b)
    ≡ sum (map (count_for (counts_of a)) (from 1 (length (joined_first a b))))
    + (sum (map (count_for (counts_of b)) (from 1 (length (joined_first a b))))
    + sum (map (λ d. count (eqb d) (map (across a b) (shared a b))) (from 1 (length (joined_first a b)))))
unfolding joined_counts joined_count
joined-parts a b =
    let l : List ℕ = from 1 (length (joined_first a b)) in
    let g : ℕ → ℕ = count_for (counts_of b) in
    let k : ℕ → ℕ = λ d. count (eqb d) (map (across a b) (shared a b)) in
    sum-add (count_for (counts_of a)) (λ d. g d + k d) l
    ∙ ap (λ (m : ℕ). sum (map (count_for (counts_of a)) l) + m) (sum-add g k l)

-- v of the join, by the sides
pub joined-size : (a b : List ℕ) → length (joined_first a b) ≡ length (first_of a) + length (outside (first_of a) (first_of b))
unfolding joined_first
joined-size a b = length-append (first_of a) (outside (first_of a) (first_of b))

-- the join of well-formed words
module _ (a b : List ℕ) (fa : Formed a) (fb : Formed b) where
  -- its extents are those of either side
  pub mem-joined : (x : ℕ) → mem x (joined_first a b) ≡ mem x (first_of a) || mem x (first_of b)
  unfolding joined_first
  mem-joined x = mem-beside x (first_of a) (first_of b)

  -- R of it has the extents of F
  pub joined_same : (x : ℕ) → mem x (joined_first a b) ≡ mem x (joined_recent a b)
  unfolding joined_recent
  joined_same x =
      mem-joined x
      ∙ sym (mem-beside x (recent_of b) (recent_of a) ∙ simp (recent-first a fa, recent-first b fb) (or_comm (mem x (first_of b)) (mem x (first_of a))))

  -- F of it has no extent twice
  pub joined-distinct : distinct (joined_first a b) ≡ true
  unfolding joined_first
  joined-distinct = distinct-beside (first_of a) (first_of b) fa.once fb.once

  -- R of it is as long as F
  pub joined_length : length (joined_recent a b) ≡ length (joined_first a b)
  unfolding joined_recent
  joined_length =
      sym (same_size (joined_first a b) (joined_recent a b) joined-distinct
      (distinct-beside (recent_of b) (recent_of a) (recent-distinct b fb) (recent-distinct a fa)) joined_same)

  -- the distances that it adds are those of F of B read as a trace after the stack R of A
  pub join-distances : finite (reuses (recent_of a) (first_of b)) ≡ map (across a b) (shared a b)
  join-distances = across-words a b (recent-distinct a fa) fb.once (recent-first a fa)

  -- that stack after these reads has the extents of the join
  pub joined-stack : length (foldl touch (recent_of a) (first_of b)) ≡ length (joined_first a b)
  joined-stack =
      sym (same_size (joined_first a b) (foldl touch (recent_of a) (first_of b)) joined-distinct
      (distinct_from (recent_of a) (first_of b) (recent-distinct a fa))
      (λ x. mem-joined x ∙ sym (mem-over x (recent_of a) (first_of b) ∙ rw (recent-first a fa x) (or_comm (mem x (first_of b)) (mem x (first_of a))))))

  -- each of them lies between 1 and v of the join
  pub across-range : (d : ℕ) → mem d (map (across a b) (shared a b)) ≡ true → (1 ≤ d) × (d ≤ length (joined_first a b))
  across-range d h =
      rw (← joined-stack) (finite-range (recent_of a) (first_of b) d (recent-distinct a fa) (rw join-distances h))

  -- they add up to one for each extent of both
  pub across-total : sum (map (λ d. count (eqb d) (map (across a b) (shared a b))) (from 1 (length (joined_first a b)))) ≡ length (shared a b)
  across-total =
      sum-counts (map (across a b) (shared a b)) 0 (length (joined_first a b)) (λ d m. omega (arith, across-range d m))
      ∙ count-all (ltb 0) (map (across a b) (shared a b)) (λ d m. lt-ltb 0 d (omega (arith, across-range d m)))
      ∙ length-map (shared a b) (across a b)

  -- v and H of it add up to the reads of both
  pub joined-total : length (joined_first a b) + sum (joined_counts a b) ≡ reads_of a + reads_of b
  unfolding shared
  joined-total =
      let n : ℕ = length (joined_first a b) in
      let la : length (first_of a) ≤ n = fewer (first_of a) (joined_first a b) fa.once (λ x m. mem-joined x ∙ simp m) in
      let lb : length (first_of b) ≤ n = fewer (first_of b) (joined_first a b) fb.once (λ x m. mem-joined x ∙ simp (m, or-true)) in
      omega (
        arith,
        joined-parts a b,
        joined-size a b,
        length-split (first_of a) (first_of b),
        sum-table (counts_of a) n (omega (arith, counts-length a fa.long, first-length a fa.long)),
        sum-table (counts_of b) n (omega (arith, counts-length b fb.long, first-length b fb.long)),
        across-total,
        first-length a fa.long,
        first-length b fb.long,
        fa.total,
        fb.total,
      )

  -- within the limits it is well formed
  pub join-formed : reads_of a + reads_of b ≤ max_reads → length (joined_first a b) ≤ max_extents → Formed (join_of a b)
  unfolding join_of
  join-formed short few =
      words-formed (reads_of a + reads_of b) (joined_first a b) (joined_recent a b) (joined_counts a b) joined_length
      (unfold joined_counts in simp (length-map, length_from)) few short joined-distinct (λ x m. sym (joined_same x) ∙ m) joined-total

-- the join of words that pass the test passes it, within the limits
pub join-well-formed : (a b : List ℕ) → well_formed a ≡ true → well_formed b ≡ true
    → reads_of a + reads_of b ≤ max_reads → length (joined_first a b) ≤ max_extents → well_formed (join_of a b) ≡ true
join-well-formed a b ha hb short few = well-formed (join_of a b) (join-formed a b (formed a ha) (formed b hb) short few)

-- the summary of no read
none-formed : Formed (summary_of [])
unfolding summary_of firsts cleanup histogram from distinct sum
none-formed = words-formed 0 [] [] [] refl refl (omega arith) (omega arith) refl (λ x m. m) refl

-- the summary of one read
one-formed : (x : ℕ) → Formed (summary_of (x ∷ []))
unfolding summary_of firsts cleanup remove reuses depth count_at count histogram from mem distinct sum
one-formed x = words-formed 1 (x ∷ []) (x ∷ []) (0 ∷ []) refl refl (omega arith) (omega arith) refl (λ z m. m) refl

-- one more read in front has no fewer extents
pub firsts-grow : (x : ℕ) (t : List ℕ) → length (firsts t) ≤ length (firsts (x ∷ t))
unfolding firsts
firsts-grow x t =
    by-test (mem x (firsts t))
    (λ m. omega (arith, length-remove x (firsts t) (distinct-firsts t) m))
    (λ m. omega (arith, ap length (remove_absent x (firsts t) m)))

-- each trace within the limits has a well-formed summary
pub summary-formed : (t : List ℕ) → length t ≤ max_reads → length (firsts t) ≤ max_extents → Formed (summary_of t)
summary-formed [] short few = none-formed
summary-formed (x ∷ t) short few =
    rw (join-law (x ∷ []) t) at
    (join-formed (summary_of (x ∷ [])) (summary_of t) (one-formed x) (summary-formed t (omega arith) (omega (arith, firsts-grow x t)))
    (rw (reads-summary (x ∷ []), reads-summary t) (omega arith)) (rw (joined-first (x ∷ []) t) few))

-- so it passes the test
pub summary-well-formed : (t : List ℕ) → length t ≤ max_reads → length (firsts t) ≤ max_extents → well_formed (summary_of t) ≡ true
summary-well-formed t short few = well-formed (summary_of t) (summary-formed t short few)
