-- A turn of each loop: what is left of the row or of the reads does the same from where the loop is.
use Rattle.std.proofs.Common.{◌≡◌, ℕ, ◌+◌, ◌%◌, ◌^◌, ◌<◌, ◌≤◌, min, leb, leb-true, leb-false, List, [], ◌∷◌, ◌++◌, length, get_or, take, drop, set, sym, refl, ◌∙◌, append_assoc, append-nil, add-one, arith, take-append-drop, drop_of_length-le, take_all, take-suc-set, drop-set-lt}
use Rattle.reuse.proofs.Lists.{by-test}
use Rattle.reuse_rows.proofs.Slices.{next_word}
use Rattle.reuse_engine.specs.declared.Place.{Place}
use Rattle.reuse_engine.specs.Engine.{place_of, left_by, held_after}
use Rattle.summary_cross.specs.Crossing.{added, counted_by, crossed}

-- the first i words of t are added to s; those after them are still to be
pub record Adding (s t row : List ℕ) (i : ℕ) : Type 0 where
  pub same : take i row ++ added (drop i row) (drop i t) ≡ added s t

-- nothing is added
added_none : (s : List ℕ) → added s [] ≡ s
unfolding added
added_none [] = refl
added_none (x ∷ s) = refl

module _ (s t : List ℕ) where
  module _ (row : List ℕ) (i : ℕ) (h : Adding s t row i) where
    -- the next word is added
    pub add_turn : i < length t → i < length row → Adding s t (set row i ((get_or row i 0 + get_or t i 0) % 2 ^ 32)) (i + 1)
    unfolding added
    add_turn l w =
        let v : ℕ = (get_or row i 0 + get_or t i 0) % 2 ^ 32 in
        let e : take i row ++ (v ∷ added (drop (i + 1) row) (drop (i + 1) t)) ≡ added s t = rw (next_word row i w, next_word t i l) at h.same in
        record {
          same = rw (drop-set-lt (i + 1) row i v (omega arith), add-one i, take-suc-set row i v w) (simp append_assoc (rw⁻¹ (add-one i) e));
        }

    -- the row has no more words
    add-short : length row ≤ i → row ≡ added s t
    unfolding added
    add-short l = sym (append-nil row) ∙ (rw (take_all i row l, drop_of_length-le row {i = i} l) at h.same)

    -- no word is left
    add-last : length t ≤ i → row ≡ added s t
    add-last l = sym (take-append-drop i row) ∙ (rw (drop_of_length-le t {i = i} l, added_none (drop i row)) at h.same)

    -- as many words as both have are added
    pub add-end : length row ≡ length s → min (length s) (length t) ≤ i → row ≡ added s t
    add-end k l = by-test (leb (length t) i) (λ q. add-last (leb-true (length t) i q)) (λ q. add-short (omega (arith, leb-false (length t) i q)))

-- the first i reads are taken; those after them do the same from here
pub record Crossing (stack : List ℕ) (n : ℕ) (reads hist row : List ℕ) (held : ℕ) (counts : List ℕ) (i : ℕ) : Type 0 where
  pub same : crossed row held (drop i reads) counts ≡ crossed stack n reads hist

module _ (stack : List ℕ) (n : ℕ) (reads hist : List ℕ) where
  module _ (row : List ℕ) (held : ℕ) (counts : List ℕ) (i : ℕ) (h : Crossing stack n reads hist row held counts i) where
    -- the next read, by the engine's answer r and the words that it left
    pub cross-turn : i < length reads → (r : Place) (left : List ℕ) (held' : ℕ) (counts' : List ℕ) → r ≡ place_of row held (get_or reads i 0)
        → left ≡ left_by r held (get_or reads i 0) row → held' ≡ held_after r held → counts' ≡ counted_by r counts
        → Crossing stack n reads hist left held' counts' (i + 1)
    unfolding crossed
    cross-turn l r left held' counts' p q f g = record {
      same = rw (f, g, q, p) (rw (next_word reads i l) at h.same);
    }

    -- no read is left
    pub cross-end : length reads ≤ i → counts ≡ crossed stack n reads hist
    unfolding crossed
    cross-end l = rw (drop_of_length-le reads {i = i} l) at h.same
