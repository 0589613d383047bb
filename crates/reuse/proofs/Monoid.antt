-- The join as an operation: its grouping does not tell, and 0 0 is its unit.
use mathlib.Core.Path.{◌≡◌, refl, sym, ap, ◌∙◌}
use Prim.Native.Nat.{ℕ, suc, ◌+◌, ◌*◌}
use native.Mathlib.Omega.{arith}
use mathlib.Core.List.{List, [], ◌∷◌, map, append-nil, append_assoc}
use lib.ListN.{length, get_or}
use lib.Seq.{take-length}
use Rattle.reuse.specs.Lists.{mem, firsts, cleanup, inside, outside, from, count}
use Rattle.reuse.specs.Summary.{words, histogram, summary_of, reads_of, extents_of, first_of, recent_of, counts_of, joined_first, joined_recent, shared, count_for, joined_count, joined_counts, join_of}
use Rattle.reuse.proofs.Lists.{outside-none}
use Rattle.reuse.proofs.Counts.{take-from}
use Rattle.reuse.proofs.Words.{first-length, counts-length, words-again}
use Rattle.reuse.proofs.Join.{join-law}

-- joins of traces' summaries, grouped either way
pub join-assoc : (a b c : List ℕ)
    → join_of (join_of (summary_of a) (summary_of b)) (summary_of c) ≡ join_of (summary_of a) (join_of (summary_of b) (summary_of c))
join-assoc a b c = simp (join-law, append_assoc)

-- the summary of no reads
pub empty-summary : summary_of [] ≡ 0 ∷ 0 ∷ []
unfolding summary_of words firsts cleanup histogram from
empty-summary = refl

-- nothing is inside the empty list
inside-none : (s : List ℕ) → inside [] s ≡ []
unfolding inside mem
inside-none [] = refl
inside-none (x ∷ s) = inside-none s

-- a join that takes all its parts from w is w
same_parts : (a b w : List ℕ) → length w ≡ 2 + 3 * extents_of w → reads_of a + reads_of b ≡ reads_of w
    → joined_first a b ≡ first_of w → joined_recent a b ≡ recent_of w
    → ((i : ℕ) → get_or (counts_of w) i 0 ≡ joined_count a b (suc i)) → join_of a b ≡ w
unfolding join_of joined_counts
same_parts a b w e l f r h =
    let n : length (first_of w) ≡ length (counts_of w) = first-length w e ∙ sym (counts-length w e) in
    let c : map (joined_count a b) (from 1 (length (first_of w))) ≡ counts_of w =
    rw n (sym (take-from (joined_count a b) (counts_of w) 1 (length (counts_of w)) (omega arith) (λ i l. h i ∙ ap (joined_count a b) (omega arith))) ∙ take-length (counts_of w)) in
    rw (l, f, r, c) (words-again w e)

-- 0 0 is the unit, for all words of the right number
module _ (w : List ℕ) (e : length w ≡ 2 + 3 * extents_of w) where
  -- before them
  pub unit-before : join_of (0 ∷ 0 ∷ []) w ≡ w
  unit-before =
      same_parts (0 ∷ 0 ∷ []) w w e
      (unfold reads_of in omega arith)
      (unfold joined_first first_of extents_of in simp outside-none)
      (unfold joined_recent recent_of extents_of outside in simp append-nil)
      (λ i. unfold joined_count count_for shared first_of counts_of extents_of count in simp inside-none (omega arith))

  -- after them
  pub unit-after : join_of w (0 ∷ 0 ∷ []) ≡ w
  unit-after =
      same_parts w (0 ∷ 0 ∷ []) w e
      (unfold reads_of in omega arith)
      (unfold joined_first first_of extents_of outside in simp append-nil)
      (unfold joined_recent recent_of extents_of in simp outside-none)
      (λ i. unfold joined_count count_for shared first_of counts_of extents_of inside count in omega arith)
