-- The definitions of `texts` at a position of a text: at its end, and at the byte that stands there.
use mathlib.Core.Path.{◌≡◌, refl, sym, ap, ◌∙◌}
use Prim.Native.Nat.{ℕ, zero, suc, ◌+◌, ◌-◌, ◌*◌, ◌≤◌, ◌<◌}
use native.Mathlib.Omega.{arith}
use native.Mathlib.Numerals.{add-one}
use mathlib.Core.Bool.{Bool, true, false}
use mathlib.Core.List.{List, [], ◌∷◌}
use lib.Dec.{eqb}
use lib.ListN.{length, drop, get_or, length-append, length-drop}
use lib.Seq.{drop-cons}
use borrow.Author.Tests.{ne_eqb, le-leb}
use Rattle.texts.specs.Digits.{bad, may_go_on, ended, number_from}
use Rattle.texts.specs.Words.{word_at}
use Rattle.texts.proofs.Words.{word_split}

-- nothing stands from the end on
pub gone : (s : List ℕ) (i : ℕ) → length s ≤ i → drop i s ≡ []
gone [] zero h = refl
gone [] (suc i) h = refl
gone (x ∷ s) zero h = absurd (omega arith)
gone (x ∷ s) (suc i) h = gone s i (omega arith)

-- else the byte that stands there, and the rest
pub here : (s : List ℕ) (i : ℕ) → i < length s → drop i s ≡ get_or s i 0 ∷ drop (i + 1) s
here s i h = drop-cons s i 0 h ∙ ap (λ (n : ℕ). get_or s i 0 ∷ drop n s) (sym (add-one i))

-- of no bytes only no word stands there
word-nil : (w : List ℕ) → word_at w [] ≡ eqb (length w) 0
unfolding word_at
word-nil [] = refl
word-nil (c ∷ w) = sym (ne_eqb (suc (length w)) 0 (λ e. omega (arith, e)))

-- past the end likewise
pub word-past : (s : List ℕ) (i : ℕ) (w : List ℕ) → length s ≤ i → word_at w (drop i s) ≡ eqb (length w) 0
word-past s i w h = ap (word_at w) (gone s i h) ∙ word-nil w

module _ (s : List ℕ) (i : ℕ) where
  -- a word that stands there fits
  pub word_fits : (w : List ℕ) → i ≤ length s → word_at w (drop i s) ≡ true → i + length w ≤ length s
  word_fits w h e =
      let q : length (drop i s) ≡ length w + length (drop (length w) (drop i s)) = ap length (word_split w (drop i s) e) ∙ length-append w (drop (length w) (drop i s)) in
      let r : length (drop i s) ≡ length s - i = length-drop i s in
      omega arith

  -- the number ends with the text
  pub number-end : (first : Bool) (v : ℕ) → length s ≤ i → number_from first v (drop i s) ≡ ended first v (drop i s)
  unfolding number_from
  number-end first v h = rw (gone s i h)

  -- a digit that may not follow
  pub number-bad : (first : Bool) (v : ℕ) → i < length s → 48 ≤ get_or s i 0 → get_or s i 0 ≤ 57 → may_go_on first v ≡ false → number_from first v (drop i s) ≡ bad
  unfolding number_from
  number-bad first v h k l e = rw (here s i h) (simp (le-leb 48 (get_or s i 0) k, le-leb (get_or s i 0) 57 l, e))

  -- a digit that may
  pub number_more : (first : Bool) (v : ℕ) → i < length s → 48 ≤ get_or s i 0 → get_or s i 0 ≤ 57 → may_go_on first v ≡ true
      → number_from first v (drop i s) ≡ number_from false (v * 10 + (get_or s i 0 - 48)) (drop (i + 1) s)
  unfolding number_from
  number_more first v h k l e = ap (number_from first v) (here s i h) ∙ simp (le-leb 48 (get_or s i 0) k, le-leb (get_or s i 0) 57 l, e)
