-- F, R and H of a join, made apart of the parts of both and written one after the other.
use mathlib.Core.Path.{◌≡◌, sym, ap, ◌∙◌}
use Prim.Native.Nat.{ℕ, suc, min, ◌+◌, ◌≤◌, ◌<◌}
use native.Mathlib.Omega.{arith}
use mathlib.Core.List.{List, ◌++◌}
use lib.ListN.{length, take, get_or}
use borrow.Author.Tests.{le-leb}
use Rattle.reuse.specs.Limits.{max_extents}
use Rattle.reuse.specs.Lists.{firsts, beside}
use Rattle.reuse.specs.Summary.{reads_of, first_of, joined_first, joined_recent, joined_counts, join_of}
use Rattle.reuse.proofs.Lists.{firsts-append}
use Rattle.reuse.proofs.Distinct.{firsts-distinct}
use Rattle.reuse.proofs.Formed.{formed, joined_length}
use Rattle.reuse_rows.specs.Rows.{padded}
use Rattle.reuse_copies.proofs.Padding.{padded-front}
use Rattle.summary_calls.specs.Calls.{words_call, wrote}
use Rattle.summary_calls.proofs.Fields.{given}
use Rattle.summary_cross.specs.Crossing.{added, crossed}
use Rattle.summary_cross.specs.Joining.{Near}
use Rattle.summary_cross.proofs.Joined.{joined-row}
use Rattle.summary_formed.specs.declared.Parts.{Parts}
use Rattle.summary_formed.specs.Parting.{PartsOf}

module _ (a b : List ℕ) (p q : Parts) (left : PartsOf a p) (right : PartsOf b q) where
  -- the reads of both
  pub reads-both : p.reads + q.reads ≡ get_or a 0 0 + get_or b 0 0
  unfolding reads_of
  reads-both = omega (arith, left.reads, right.reads)

  -- the different extents of both are F of the join
  pub firsts-both : firsts (p.first.now ++ q.first.now) ≡ joined_first a b
  unfolding joined_first
  firsts-both =
      rw (left.first, right.first)
      (firsts-append (first_of a) (first_of b)
      ∙ rw (firsts-distinct (first_of a) (formed a left.formed).once, firsts-distinct (first_of b) (formed b right.formed).once))

  -- as many as were counted, where these are no more than the limit
  module _ (v : ℕ) (counted : v ≡ min (length (firsts (p.first.now ++ q.first.now))) (suc max_extents)) where
    -- too many were counted
    pub extents-over : max_extents < v → max_extents < length (joined_first a b)
    extents-over l = omega (arith, counted, ap length firsts-both)

    module _ (few : v ≤ max_extents) where
      -- not too many
      pub extents-all : v ≡ length (joined_first a b)
      extents-all = omega (arith, counted, ap length firsts-both, few)

      -- R has v words too
      recent-long : length (joined_recent a b) ≡ v
      recent-long = joined_length a b (formed a left.formed) (formed b right.formed) ∙ sym extents-all

      -- F
      first-front : take v (padded (beside p.first.now q.first.now)) ≡ joined_first a b
      unfolding joined_first
      first-front = rw (left.first, right.first, extents-all) (padded-front (joined_first a b) (omega (arith, extents-all, few)))

      -- R
      recent-front : take v (padded (beside q.recent.now p.recent.now)) ≡ joined_recent a b
      unfolding joined_recent
      recent-front = rw (left.recent, right.recent, sym recent-long) (padded-front (joined_recent a b) (omega (arith, recent-long, few)))

      -- H
      counts-front : take v (crossed (padded p.recent.now) (length p.recent.now) q.first.now (added (padded p.counts.now) q.counts.now)) ≡ joined_counts a b
      unfolding joined_counts
      counts-front =
          let near : Near a b = record { left = given a left.formed; right = given b right.formed; few = omega (arith, extents-all, few) } in
          rw (left.recent, left.counts, right.first, right.counts, extents-all) ((joined-row a b near).front (length (joined_first a b)) (omega (arith, extents-all, few)))

      -- they are the join's words
      pub written : (first recent counts out : List ℕ)
          → first ≡ padded (beside p.first.now q.first.now)
          → recent ≡ padded (beside q.recent.now p.recent.now)
          → counts ≡ crossed (padded p.recent.now) (length p.recent.now) q.first.now (added (padded p.counts.now) q.counts.now)
          → words_call (p.reads + q.reads) (take v first) (take v recent) (take v counts) out ≡ wrote (join_of a b) out
      unfolding words_call join_of
      written first recent counts out ef er eh =
          rw (ef, er, eh, left.reads, right.reads, first-front, recent-front, counts-front, le-leb (length (joined_first a b)) max_extents (omega (arith, extents-all, few)))
