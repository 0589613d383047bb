-- Where no word wraps and there is room for all the reads, what is counted are their reuse distances.
use Rattle.std.proofs.Common.{◌≡◌, ℕ, zero, suc, ◌+◌, ◌-◌, ◌%◌, ◌^◌, ◌<◌, ◌≤◌, true, leb, List, [], ◌∷◌, length, get_or, take, drop, set, sym, refl, ap, add-one, arith, drop_of_length-le, leb-false, leb-true}
use mathlib.Core.List.{foldl}
use Rattle.reuse.specs.Lists.{distinct}
use Rattle.reuse.specs.Lru.{touch, reuses}
use Rattle.reuse.proofs.Lists.{by-test}
use Rattle.reuse_rows.proofs.Slices.{next_word}
use Rattle.reuse_engine.specs.declared.Place.{Place}
use Rattle.reuse_engine.specs.declared.Place.TheVariants.{Cold, Depth, Full, BadCount}
use Rattle.reuse_engine.specs.Engine.{place_of, left_by, held_after}
use Rattle.reuse_engine.specs.Counting.{Counted}
use Rattle.reuse_engine.proofs.Crossing.{Crossing, cross-start, cross-cold, cross-known, cross-end, not_full, not-bad, count_fits}
use Rattle.summary_cross.specs.Crossing.{added, counted_by, crossed}

-- a sum that is a word
small-mod : (n : ℕ) → n < 2 ^ 32 → n % 2 ^ 32 ≡ n
small-mod n l = omega arith

-- a row keeps its length
pub added-length : (s t : List ℕ) → length (added s t) ≡ length s
unfolding added
added-length [] t = refl
added-length (x ∷ s) [] = refl
added-length (x ∷ s) (y ∷ t) = ap suc (added-length s t)

-- each word is the sum of two, where that is a word
pub added-word : (s t : List ℕ) → length t ≤ length s → ((i : ℕ) → get_or s i 0 + get_or t i 0 < 2 ^ 32) → (i : ℕ) → get_or (added s t) i 0 ≡ get_or s i 0 + get_or t i 0
unfolding added
added-word [] [] l h i = omega arith
added-word [] (y ∷ t) l h i = absurd (omega arith)
added-word (x ∷ s) [] l h i = omega arith
added-word (x ∷ s) (y ∷ t) l h zero = small-mod (x + y) (h 0)
added-word (x ∷ s) (y ∷ t) l h (suc i) = added-word s t (omega arith) (λ j. h (suc j)) i

-- by each of the engine's answers
by_place : {P : Type 0} (r : Place) → (r ≡ Cold → P) → ((d : ℕ) → r ≡ Depth d → P) → (r ≡ Full → P) → (r ≡ BadCount → P) → P
by_place Cold f g h k = f refl
by_place (Depth d) f g h k = g d refl
by_place Full f g h k = h refl
by_place BadCount f g h k = k refl

module _ (stack : List ℕ) (n : ℕ) (reads hist : List ℕ) (room : length (foldl touch (take n stack) reads) ≤ length stack) where
  -- what is to be shown from a turn on
  Left : (row counts : List ℕ) (held i : ℕ) → Type 0
  Left row counts held i = Counted hist (reuses (take n stack) reads) (crossed row held (drop i reads) counts)

  -- one read is taken, the others after it
  one-turn : (row counts : List ℕ) (held i : ℕ) → Crossing stack n reads hist row counts held i → i < length reads
      → ((row' counts' : List ℕ) (held' : ℕ) → Crossing stack n reads hist row' counts' held' (i + 1) → Left row' counts' held' (i + 1)) → Left row counts held i
  unfolding crossed Left
  one-turn row counts held i h l go =
      let x : ℕ = get_or reads i 0 in
      let r : Place = place_of row held x in
      rw (next_word reads i l)
      (by_place r
      (λ e. go _ _ _ (cross-cold stack n reads hist row counts held i h l r (left_by r held x row) (counted_by r counts) (held_after r held) refl refl e (rw e) (rw e (sym (add-one held)))))
      (λ d e. go _ _ _ (cross-known stack n reads hist row counts held i h l r (left_by r held x row) (counted_by r counts) (held_after r held) refl refl d e (rw e (ap (set counts (d - 1)) (small-mod _ (count_fits stack n reads hist row counts held i h l d e)))) (rw e)))
      (λ e. absurd (not_full stack n reads hist row counts held i h l room e))
      (λ e. absurd (not-bad stack n reads hist row counts held i h l e)))

  -- no read is left
  last_turn : (row counts : List ℕ) (held i : ℕ) → Crossing stack n reads hist row counts held i → length reads ≤ i → Left row counts held i
  unfolding crossed Left
  last_turn row counts held i h l = rw (drop_of_length-le reads {i = i} l) (cross-end stack n reads hist row counts held i h l)

  -- from any turn on, at most k reads being left
  from-turn : (k : ℕ) (row counts : List ℕ) (held i : ℕ) → length reads ≤ i + k → Crossing stack n reads hist row counts held i → Left row counts held i
  from-turn zero row counts held i m h = last_turn row counts held i h (omega arith)
  from-turn (suc k) row counts held i m h =
      by-test (leb (length reads) i)
      (λ q. last_turn row counts held i h (leb-true (length reads) i q))
      (λ q. one-turn row counts held i h (leb-false (length reads) i q) (λ row' counts' held' h'. from-turn k row' counts' held' (i + 1) (omega arith) h'))

  -- all the reads
  pub crossed-counted : n ≤ length stack → distinct (take n stack) ≡ true → length hist ≡ length stack → ((j : ℕ) → get_or hist j 0 + length reads < 2 ^ 32)
      → Counted hist (reuses (take n stack) reads) (crossed stack n reads hist)
  unfolding Left
  crossed-counted f u w s = from-turn (length reads) stack hist n 0 (omega arith) (cross-start stack n reads hist f u w s)
