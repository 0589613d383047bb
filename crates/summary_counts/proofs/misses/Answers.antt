-- `summary_counts::misses` meets its contract: the reads less the hits.
use Rattle.std.proofs.Common.{◌≡◌, ℕ, ◌-◌, ◌≤◌, Ok, List, length, take, min, sym, ap, ◌∙◌, arith}
use Rattle.std.proofs.lemmas.List.{length-take, take_min}
use Rattle.reuse.specs.Limits.{max_reads, max_extents}
use Rattle.reuse.specs.Lists.{sum}
use Rattle.reuse.specs.Summary.{reads_of, hits_of, misses_of, counts_of}
use Rattle.reuse_rows.proofs.Totals.{few-total}
use Rattle.summary_calls.specs.Calls.{misses_call}
use Rattle.summary_calls.proofs.Fields.{shaped, counts-few, reads-split}
use Rattle.summary_formed.specs.declared.Parts.{Parts}
use Rattle.summary_formed.specs.Parting.{PartsOf}
use Rattle.summary_formed.proofs.Parting.{reads-few}
use Rattle.summary_counts.proofs.misses.Goals as goal
use Rattle.summary_counts.proofs.misses.Goals.{After-total-hits}

module _ (w : List ℕ) (p : Parts) (h : PartsOf w p) (n : ℕ) where
  -- the first words of H are summed
  hits : (k t : ℕ) → k ≡ min n (length p.counts.now) → t ≡ sum (take max_extents (take k p.counts.now)) → t ≡ hits_of w n
  unfolding hits_of
  hits k t ek et =
      et
      ∙ rw (ek, take_min n p.counts.now, h.counts)
      (few-total (take n (counts_of w)) (omega (arith, length-take n (counts_of w), counts-few w (shaped w h.formed))))

  -- with the misses they are the reads
  pub split : (k t : ℕ) → k ≡ min n (length p.counts.now) → t ≡ sum (take max_extents (take k p.counts.now))
      → (t ≤ p.reads) × (p.reads ≤ max_reads) × (p.reads - t ≡ misses_of w n)
  unfolding reads_of
  split k t ek et =
      let e = hits k t ek et in
      let s = reads-split w h.formed n in
      (omega (arith, e, s, h.reads), reads-few w p h, omega (arith, e, s, h.reads))

-- the words are a summary's
formed : (c : After-total-hits) → PartsOf c.args.words.now c.in-Some.parts
formed c = c.of.ensures.1 _ c.in-Some.is

-- its hits and misses
told : (c : After-total-hits)
    → (c.total-hits.result ≤ c.in-Some.parts.reads) × (c.in-Some.parts.reads ≤ max_reads) × (c.in-Some.parts.reads - c.total-hits.result ≡ misses_of c.args.words.now c.args.size)
told c = split _ _ (formed c) _ _ _ c.min-served.ensures c.total-hits.ensures.0

pub returns-in_default : goal.returns-in_default
unfolding misses_call
returns-in_default c = sym (simp (c.of.ensures.0 c.in_default.is))

pub overflow_cast-result : goal.overflow_cast-result
overflow_cast-result c = omega (arith, (told c).0, (told c).1)

pub overflow_sub-result : goal.overflow_sub-result
overflow_sub-result c = (told c).0

pub returns : goal.returns
unfolding misses_call
returns c = sym (simp ((formed c).formed) (ap Ok (sym (told c).2)))
