-- H of a join, counted on the stack of A.
use Rattle.std.proofs.Common.{◌≡◌, ℕ, suc, ◌+◌, ◌^◌, ◌<◌, ◌≤◌, eqb, List, length, get_or, take, sym, ap, ◌∙◌, arith}
use Rattle.reuse.specs.Limits.{max_reads, max_extents}
use Rattle.reuse.specs.Lists.{count}
use Rattle.reuse.specs.Lru.{reuses, count_at}
use Rattle.reuse.specs.Summary.{reads_of, extents_of, first_of, recent_of, counts_of, count_for, joined_count}
use Rattle.reuse.proofs.Counts.{finite, count-finite, take-from}
use Rattle.reuse.proofs.Sums.{at-le-sum}
use Rattle.reuse.proofs.Words.{first-length}
use Rattle.reuse.proofs.Formed.{formed, recent-distinct, join-distances, joined-stack}
use Rattle.reuse_rows.specs.Rows.{padded}
use Rattle.reuse_copies.proofs.Padding.{padded-front, padded-length, padded-word}
use Rattle.reuse_engine.specs.Counting.{Counted}
use Rattle.summary_calls.specs.Shapes.{Given}
use Rattle.summary_calls.proofs.Fields.{recent-few, counts-few}
use Rattle.summary_cross.specs.Crossing.{added, crossed}
use Rattle.summary_cross.specs.Joining.{Near, JoinedRow}
use Rattle.summary_cross.proofs.Counting.{added-length, added-word, crossed-counted}

-- a word of H is at most the reads
count_small : (w : List ℕ) → Given w → (i : ℕ) → get_or (counts_of w) i 0 ≤ max_reads
unfolding reads_of
count_small w g i = omega (arith, at-le-sum (counts_of w) i, (formed w g.formed).total, g.shape.short)

module _ (a b : List ℕ) (g : Near a b) where
  -- R of A fits a stack
  few : length (recent_of a) ≤ max_extents
  few = recent-few a g.left

  -- R of A is the front of the stack
  front : take (length (recent_of a)) (padded (recent_of a)) ≡ recent_of a
  front = padded-front (recent_of a) few

  -- the stack is as wide as the limit
  wide : length (padded (recent_of a)) ≡ max_extents
  wide = padded-length (recent_of a) few

  -- H of A is as wide too
  left-wide : length (padded (counts_of a)) ≡ max_extents
  left-wide = padded-length (counts_of a) (counts-few a g.left.shape)

  -- no sum wraps
  left-small : (i : ℕ) → get_or (padded (counts_of a)) i 0 + get_or (counts_of b) i 0 < 2 ^ 32
  left-small i = rw (padded-word (counts_of a) (counts-few a g.left.shape) i) (omega (arith, count_small a g.left i, count_small b g.right i))

  -- both histograms added
  both : List ℕ
  both = added (padded (counts_of a)) (counts_of b)

  -- as wide as the limit
  both-wide : length both ≡ max_extents
  unfolding both
  both-wide = added-length (padded (counts_of a)) (counts_of b) ∙ left-wide

  -- word by word
  both_word : (i : ℕ) → get_or both i 0 ≡ get_or (counts_of a) i 0 + get_or (counts_of b) i 0
  unfolding both
  both_word i =
      added-word (padded (counts_of a)) (counts_of b) (omega (arith, left-wide, counts-few b g.right.shape)) left-small i
      ∙ ap (λ (n : ℕ). n + get_or (counts_of b) i 0) (padded-word (counts_of a) (counts-few a g.left.shape) i)

  -- F of B read after R of A, each distance counted
  crossed-both : Counted both (reuses (recent_of a) (first_of b)) (crossed (padded (recent_of a)) (length (recent_of a)) (first_of b) both)
  unfolding extents_of
  crossed-both =
      rw front at (crossed-counted (padded (recent_of a)) (length (recent_of a)) (first_of b) both
      (rw (front, wide) (omega (arith, joined-stack a b (formed a g.left.formed) (formed b g.right.formed), g.few)))
      (omega (arith, wide, few))
      (rw front (recent-distinct a (formed a g.left.formed)))
      (both-wide ∙ sym wide)
      (λ i. omega (arith, both_word i, count_small a g.left i, count_small b g.right i, first-length b (formed b g.right.formed).long, g.right.shape.few)))

  -- these are the counts of the join
  pub joined-row : JoinedRow a b (crossed (padded (recent_of a)) (length (recent_of a)) (first_of b) (added (padded (counts_of a)) (counts_of b)))
  unfolding joined_count count_for both
  joined-row =
      let c = crossed-both in
      record {
        size = c.size ∙ both-wide;
        front = λ v l. take-from (joined_count a b) _ 1 v (omega (arith, c.size, both-wide)) (λ i k.
            let s : 1 + i ≡ suc i = omega arith in
            let t : count_at (reuses (recent_of a) (first_of b)) (suc i) ≡ count (eqb (suc i)) (finite (reuses (recent_of a) (first_of b))) =
            count-finite (reuses (recent_of a) (first_of b)) (suc i) in
            rw (s, sym (join-distances a b (formed a g.left.formed) (formed b g.right.formed)))
            (omega (arith, c.each i (omega (arith, both-wide)), both_word i, t)));
      }
