-- The pieces of a line at a place within a text: where they end.
use mathlib.Core.Path.{◌≡◌, refl, sym, ap, subst, ◌∙◌}
use Prim.Native.Nat.{ℕ, zero, suc, ◌+◌, ◌-◌, ◌≤◌, ◌<◌}
use native.Mathlib.Omega.{arith}
use native.Mathlib.Numerals.{one-add}
use mathlib.Core.List.{List, [], ◌∷◌, ◌++◌}
use lib.Dec.{eqb}
use lib.ListN.{length, take, drop, length-append, length-drop, take-append-drop}
use lib.Seq.{take_at, drop_at, drop-drop}
use Rattle.texts.specs.Digits.{Number, value, bad, number_of, decimal}
use Rattle.std.specs.List.{prefix_len}
use Rattle.texts.specs.Words.{run_of, word_at}
use Rattle.texts_pieces.specs.Pieces.{found_by, found_at}
use Rattle.std.specs.Prelude.{Option, None, Some}
use Rattle.reuse.proofs.Lists.{by-test}
use Rattle.texts.proofs.Positions.{word-past}
use Rattle.texts.proofs.Words.{word-front, word_split}
use Rattle.std.specs.Bool.{Decides}
use Rattle.std.proofs.lemmas.Bool.Decides.{same_from_decides}
use mathlib.Core.Bool.{Bool, false}
use Rattle.texts.proofs.Numbers.{number-sound, by_digits}

-- a run is no longer than the bytes, nor than it is counted
run_short : (k b : ℕ) (l : List ℕ) → (run_of k b l ≤ length l) × (run_of k b l ≤ k)
unfolding run_of
run_short zero b l = (omega arith, omega arith)
run_short (suc k) b [] = (omega arith, omega arith)
run_short (suc k) b (x ∷ l) =
    let r = run_short k b l in
    by-test (eqb x b) (λ e. simp e (omega (arith, r.0), omega (arith, r.1))) (λ e. simp e (omega arith, omega arith))

-- a run at a place within the text ends within it
pub run-within : (s : List ℕ) (at b most r : ℕ) → at ≤ length s → r ≡ run_of most b (drop at s) → (at + r ≤ length s) × (r ≤ most)
run-within s at b most r h e = let q = run_short most b (drop at s) in (omega (arith, q.0, e, length-drop at s), omega (arith, q.1, e))

-- a run is what passes the test of its byte, of so many bytes
pub run_front : (b k : ℕ) (l : List ℕ) → prefix_len (λ x. eqb x b) (take k l) ≡ run_of k b l
unfolding run_of
run_front b zero l = refl
run_front b (suc k) [] = refl
run_front b (suc k) (x ∷ l) = by-test (eqb x b) (λ e. simp (e, run_front b k l, one-add)) (λ e. simp e)

-- a word stands where as many bytes as it has are its own
word-taken : (w l : List ℕ) → Decides (word_at w l) (take (length w) l ≡ w)
word-taken w l = (
  λ e. ap (take (length w)) (word_split w l e) ∙ take_at w (drop (length w) l) (length w) refl,
  λ e. ap (word_at w) (sym (take-append-drop (length w) l) ∙ ap (λ (f : List ℕ). f ++ drop (length w) l) e) ∙ word-front w (drop (length w) l),
)

-- whether these bytes are the word's
pub word_taken : (w l front : List ℕ) (r : Bool) → front ≡ take (length w) l → Decides r (front ≡ w) → r ≡ word_at w l
word_taken w l front r e d = same_from_decides r (word_at w l) d (subst (λ (f : List ℕ). Decides (word_at w l) (f ≡ w)) (sym e) (word-taken w l))

-- and where there are fewer
pub word_short : (w l front : List ℕ) → front ≡ take (length w) l → (length front ≡ length w → ⊥) → false ≡ word_at w l
word_short w l front e n = word_taken w l front false e (λ q. absurd (cc), λ q. absurd (n (ap length q)))

-- past the end only no bytes do
pub word_past : (s w : List ℕ) (at : ℕ) → length s < at → word_at w (drop at s) ≡ eqb (length w) 0
word_past s w at h = word-past s at w (omega arith)

-- a number has a digit
decimal-some : (n : ℕ) → 0 < length (decimal n)
decimal-some n = by_digits (λ l. 0 < length l) (λ e h. omega arith) (λ a b p q. rw length-append (omega arith)) n

-- a number with the text after it
abbrev pub number_in : List ℕ → Option (ℕ × ℕ) → Number
number_in s (Some r) = value r.0 (drop r.1 s)
number_in s None = bad

-- the position past a number
abbrev pub NumberWithin : ℕ → ℕ → Option (ℕ × ℕ) → Type 0
NumberWithin at len (Some r) = (at < r.1) × (r.1 ≤ len)
NumberWithin at len None = Unit

module _ (s : List ℕ) (at : ℕ) (h : at ≤ length s) where
  -- by the number that stands there
  found-by : (v : Number) → number_of (drop at s) ≡ v → (number_in s (found_by (length s) v) ≡ v) × NumberWithin at (length s) (found_by (length s) v)
  found-by bad e = (refl, tt)
  found-by (value n rest) e =
      let d : drop at s ≡ decimal n ++ rest = (number-sound n rest (drop at s) e).0 in
      let l : length s - at ≡ length (decimal n) + length rest = sym (length-drop at s) ∙ ap length d ∙ length-append (decimal n) rest in
      let p : length s - length rest ≡ at + length (decimal n) = omega arith in
      let q : drop (length s - length rest) s ≡ rest =
      ap (λ (k : ℕ). drop k s) p ∙ sym (drop-drop (length (decimal n)) at s) ∙ ap (drop (length (decimal n))) d ∙ drop_at (decimal n) rest (length (decimal n)) refl in
      (ap (value n) q, (omega (arith, decimal-some n, p), omega (arith, p)))

  -- a number found there
  pub found-there : (r : Option (ℕ × ℕ)) → r ≡ found_at s at → (number_in s r ≡ number_of (drop at s)) × NumberWithin at (length s) r
  unfolding found_at
  found-there r e = let f = found-by (number_of (drop at s)) refl in (ap (number_in s) e ∙ f.0, subst (NumberWithin at (length s)) (sym e) f.1)

-- what is found, from the value and the position that the digits end at
pub found-is : (s : List ℕ) (at n i : ℕ) → i ≤ length s → number_of (drop at s) ≡ value n (drop i s) → Some (n, i) ≡ found_at s at
unfolding found_at
found-is s at n i h e = let z : i ≡ length s - length (drop i s) = omega (arith, length-drop i s) in ap (λ (k : ℕ). Some (n, k)) z ∙ sym (ap (found_by (length s)) e)

-- and where there is none
pub found_none : (s : List ℕ) (at : ℕ) → number_of (drop at s) ≡ bad → None ≡ found_at s at
unfolding found_at
found_none s at e = sym (ap (found_by (length s)) e)
