-- The words of a summary and their fields.
use mathlib.Core.Path.{◌≡◌, refl}
use Prim.Native.Nat.{ℕ, suc, ◌+◌, ◌*◌}
use native.Mathlib.Omega.{arith}
use mathlib.Core.List.{List, [], ◌∷◌, ◌++◌, reverse, append_assoc}
use lib.ListN.{length, take, drop, length-append, length-reverse, length-map, length-take, length-drop, take-append-drop}
use lib.Seq.{take-append_seam, drop-append_seam, take_at, take_all, drop-drop, length-take-le}
use Rattle.reuse.specs.Lists.{firsts, cleanup}
use Rattle.reuse.specs.Summary.{words, histogram, summary_of, reads_of, extents_of, first_of, recent_of, counts_of}
use Rattle.reuse.proofs.Distinct.{length-cleanup}
use Rattle.reuse.proofs.Counts.{length_from}

-- the fields of words that were put together
module _ (l : ℕ) (f r h : List ℕ) where
  -- L
  pub reads-words : reads_of (words l f r h) ≡ l
  unfolding reads_of words
  reads-words = refl

  -- v
  pub extents-words : extents_of (words l f r h) ≡ length f
  unfolding extents_of words
  extents-words = refl

  -- F
  pub first-words : first_of (words l f r h) ≡ f
  unfolding first_of extents_of words
  first-words = take-append_seam f (r ++ h)

  -- R
  pub recent-words : length r ≡ length f → recent_of (words l f r h) ≡ r
  unfolding recent_of extents_of words
  recent-words e =
      let n : 2 + length f ≡ suc (suc (length f)) = omega arith in
      rw (n, drop-append_seam f (r ++ h)) (take_at r h (length f) e)

  -- H
  pub counts-words : length r ≡ length f → length h ≡ length f → counts_of (words l f r h) ≡ h
  unfolding counts_of extents_of words
  counts-words e k =
      let n : 2 + 2 * length f ≡ suc (suc (length (f ++ r))) = omega (arith, length-append f r) in
      rw (n, ← append_assoc f r h, drop-append_seam) (take_all (length f) h (omega arith))

  -- their number
  pub length-words : length r ≡ length f → length h ≡ length f → length (words l f r h) ≡ 2 + 3 * length f
  unfolding words
  length-words e k = simp length-append (omega arith)

-- the words of a trace's summary
module _ (t : List ℕ) where
  -- R is as long as F
  pub length-recent : length (reverse (cleanup t)) ≡ length (firsts t)
  length-recent = simp (length-reverse, length-cleanup)

  -- H is as long as F
  pub length-histogram : length (histogram t) ≡ length (firsts t)
  unfolding histogram
  length-histogram = simp (length-map, length_from)

  -- L is the number of reads
  pub reads-summary : reads_of (summary_of t) ≡ length t
  unfolding summary_of
  reads-summary = simp reads-words

  -- v is the number of different extents
  pub extents-summary : extents_of (summary_of t) ≡ length (firsts t)
  unfolding summary_of
  extents-summary = simp extents-words

  -- F is the first reads
  pub first-summary : first_of (summary_of t) ≡ firsts t
  unfolding summary_of
  first-summary = simp first-words

  -- R is the last reads, latest first
  pub recent-summary : recent_of (summary_of t) ≡ reverse (cleanup t)
  unfolding summary_of
  recent-summary = simp (recent-words, length-recent)

  -- H is the histogram
  pub counts-summary : counts_of (summary_of t) ≡ histogram t
  unfolding summary_of
  counts-summary = simp (counts-words, length-recent, length-histogram)

  -- their number is 2 + 3v
  pub length-summary : length (summary_of t) ≡ 2 + 3 * length (firsts t)
  unfolding summary_of
  length-summary = simp (length-words, length-recent, length-histogram)

-- words of the right number
module _ (w : List ℕ) (e : length w ≡ 2 + 3 * extents_of w) where
  -- F has v words
  pub first-length : length (first_of w) ≡ extents_of w
  unfolding first_of
  first-length = simp (length-take, length-drop) (omega arith)

  -- R has v words
  pub recent-length : length (recent_of w) ≡ extents_of w
  unfolding recent_of
  recent-length = simp (length-take, length-drop) (omega arith)

  -- H has v words
  pub counts-length : length (counts_of w) ≡ extents_of w
  unfolding counts_of
  counts-length = simp (length-take, length-drop) (omega arith)

-- they are put together from their fields
pub words-again : (w : List ℕ) → length w ≡ 2 + 3 * extents_of w → words (reads_of w) (first_of w) (recent_of w) (counts_of w) ≡ w
unfolding words reads_of extents_of first_of recent_of counts_of
words-again [] e = absurd (omega arith)
words-again (l ∷ []) e = absurd (omega arith)
words-again (l ∷ v ∷ r) e =
    let n : length r ≡ 3 * v = omega arith in
    let p : 2 + v ≡ suc (suc v) = omega arith in
    let q : 2 + 2 * v ≡ suc (suc (v + v)) = omega arith in
    let k : take v (drop (v + v) r) ≡ drop v (drop v r) =
    rw (drop-drop v v r) (take_all v (drop (v + v) r) (simp length-drop (omega arith))) in
    rw (p, q, k, take-append-drop v (drop v r), take-append-drop v r, length-take-le v r (omega arith))
