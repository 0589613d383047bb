-- The last tests of words of a summary's sizes, by their parts; and what well-formed words' parts keep to.
use Rattle.std.proofs.Common.{◌≡◌, ◌≤◌, ◌+◌, ◌&&◌, ℕ, eqb, List, length, take, get_or, arith, sym}
use Rattle.reuse.specs.Limits.{max_reads, max_extents}
use Rattle.reuse.specs.Lists.{distinct, all_in, sum}
use Rattle.reuse.specs.Summary.{well_formed, reads_of, extents_of, first_of, recent_of, counts_of}
use Rattle.reuse.proofs.Lists.{by-test, clash}
use Rattle.reuse.proofs.Sizes.{all_in_lem}
use Rattle.reuse.proofs.Words.{first-length}
use Rattle.reuse.proofs.Formed.{formed}
use Rattle.reuse_rows.proofs.Totals.{few-total}
use Rattle.summary_calls.specs.Shapes.{Shaped}
use Rattle.summary_calls.proofs.Fields.{refuse, shaped, counts-few, last-test}
use Rattle.summary_formed.specs.declared.Parts.{Parts}
use Rattle.summary_formed.specs.Parting.{PartsOf}

module _ (w : List ℕ) (s : Shaped w) where
  -- F has v words
  first-size : length (first_of w) ≡ get_or w 1 0
  unfolding extents_of
  first-size = first-length w s.long

  -- the tests of F, R and H decide
  tests : (distinct (first_of w) && all_in (first_of w) (recent_of w) && eqb (length (first_of w) + sum (take max_extents (counts_of w))) (get_or w 0 0)) ≡ well_formed w
  tests =
      by-test (distinct (first_of w))
      (λ d. by-test (all_in (first_of w) (recent_of w))
      (λ a. rw (d, a, first-size, few-total (counts_of w) (counts-few w s)) (sym (last-test w s d a)))
      (λ a. rw (d, a) (refuse w (λ h. clash (all_in_lem (first_of w) (recent_of w) (formed w h).held) a))))
      (λ d. rw d (refuse w (λ h. clash (formed w h).once d)))

  -- so do those of parts that are these
  pub agreed : (f r h : List ℕ) → f ≡ first_of w → r ≡ recent_of w → h ≡ counts_of w
      → (distinct f && all_in f r && eqb (length f + sum (take max_extents h)) (get_or w 0 0)) ≡ well_formed w
  agreed f r h ef er eh = rw (ef, er, eh) tests

-- a summary has no more reads than the limit
pub reads-few : (w : List ℕ) (p : Parts) → PartsOf w p → p.reads ≤ max_reads
unfolding reads_of
reads-few w p h = omega (arith, h.reads, (shaped w h.formed).short)

-- F has v words, no more than the limit
pub extents-size : (w : List ℕ) (p : Parts) → PartsOf w p → (length p.first.now ≡ extents_of w) × (length p.first.now ≤ max_extents)
unfolding extents_of
extents-size w p h =
    let s = shaped w h.formed in
    (rw h.first (first-size w s), rw (h.first, first-size w s) s.few)
