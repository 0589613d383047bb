-- Lists with zeros after them, as an array holds them.
use mathlib.Core.Path.{◌≡◌, refl, sym, ap, ◌∙◌}
use mathlib.Core.List.{List, [], ◌∷◌, ◌++◌}
use Prim.Native.Nat.{ℕ, zero, suc, ◌+◌, ◌-◌, ◌≤◌, ◌<◌, min}
use native.Mathlib.Omega.{arith}
use lib.ListN.{length, set, length-append, replicate, length-replicate, replicate-append-replicate}
use lib.Seq.{set-append_seam, append_snoc}
use Rattle.reuse.specs.Lists.{sum}
use Rattle.reuse.specs.Limits.{slot_count}
use Rattle.session_sums.specs.Sums.{filled, first_marks}

-- one word more
pub filled_more : (N : ℕ) (l : List ℕ) (x : ℕ) → length l < N → set (filled N l) (length l) x ≡ filled N (l ++ (x ∷ []))
unfolding filled
filled_more N l x h =
    ap (λ (r : List ℕ). set (l ++ r) (length l) x) (ap (λ (k : ℕ). replicate k 0) more)
    ∙ set-append_seam l 0 (replicate (N - (length l + 1)) 0) x
    ∙ sym (append_snoc l x (replicate (N - (length l + 1)) 0))
    ∙ ap (λ (k : ℕ). (l ++ (x ∷ [])) ++ replicate k 0) less
  where
    less : N - (length l + 1) ≡ N - length (l ++ (x ∷ []))
    less = simp length-append (omega arith)

    more : N - length l ≡ suc (N - (length l + 1))
    more = omega arith

-- a filled row has the length of its array
pub length-filled : (N : ℕ) (l : List ℕ) → length l ≤ N → length (filled N l) ≡ N
unfolding filled
length-filled N l h = simp (length-append, length-replicate) (omega arith)

-- one more mark
pub ones-more : (i : ℕ) → ◌++◌ {A = ℕ} (replicate i 1) (1 ∷ []) ≡ replicate (i + 1) 1
ones-more i = replicate-append-replicate i 1 1

-- zeros after a list add nothing
sum-after : (l : List ℕ) (k : ℕ) → sum (l ++ replicate k 0) ≡ sum l
unfolding sum
sum-after [] zero = refl
sum-after [] (suc k) = let h = sum-after [] k in omega arith
sum-after (a ∷ l) k = let h = sum-after l k in omega arith

-- zeros add nothing to a row
pub sum-filled : (N : ℕ) (l : List ℕ) → sum (filled N l) ≡ sum l
unfolding filled
sum-filled N l = sum-after l (N - length l)

-- v marks add up to v
pub sum_ones : (v : ℕ) → sum (replicate v 1) ≡ v
unfolding sum
sum_ones zero = refl
sum_ones (suc v) = let h = sum_ones v in omega arith

-- v marks, and zeros after them
pub filled-ones : (N v : ℕ) → filled N (replicate v 1) ≡ replicate v 1 ++ replicate (N - v) 0
unfolding filled
filled-ones N v = ap (λ (k : ℕ). replicate v 1 ++ replicate (N - k) 0) (length-replicate v 1)

-- as many marks as there are slots for
pub most-marks : (i v : ℕ) → i ≡ min v slot_count → filled slot_count (replicate i 1) ≡ first_marks v
unfolding first_marks
most-marks i v e = ap (λ (k : ℕ). filled slot_count (replicate k 1)) e

-- no more marks than slots
pub first_marks_lem : (v : ℕ) → v ≤ slot_count → first_marks v ≡ replicate v 1 ++ replicate (slot_count - v) 0
first_marks_lem v h = sym (most-marks v v (omega arith)) ∙ filled-ones slot_count v

-- nothing but zeros
pub filled_none : (n : ℕ) → replicate n 0 ≡ filled n []
unfolding filled
filled_none n = let z : n ≡ n - 0 = omega arith in ap (λ (k : ℕ). replicate k 0) z

-- v marks in the first slots, as a loop sets them in an array of N
module _ (N : ℕ) (out : List ℕ) (i : ℕ) (e : out ≡ filled N (replicate i 1)) where
  -- there are i marks
  long : length {A = ℕ} (replicate i 1) ≡ i
  long = length-replicate i 1

  -- one more mark is set
  pub ones-turn : i < N → set out i 1 ≡ filled N (replicate (i + 1) 1)
  ones-turn h =
      ap (λ (l : List ℕ). set l i 1) e
      ∙ ap (λ (k : ℕ). set (filled N (replicate i 1)) k 1) (sym long)
      ∙ filled_more N (replicate i 1) 1 (omega (arith, long))
      ∙ ap (filled N) (ones-more i)
