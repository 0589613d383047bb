-- Laws of a row that a loop tests: whether it is tidy.
use Rattle.std.proofs.Common.{◌≡◌, ℕ, zero, suc, ◌+◌, ◌<◌, Bool, ◌&&◌, ◌||◌, eqb, leb, List, ◌∷◌, length, get_or, drop, refl, sym, ap, ◌∙◌, arith, add-one, drop-cons, drop_of_length-le, ne_eqb}
use mathlib.Core.Bool.{and_assoc}
use borrow.Author.Tests.{lt-leb}
use Rattle.session_marks.specs.Marks.{tidy}
use Rattle.reuse_rows.proofs.Slices.{Passing, ended}

-- a mark is 0 or 1, and 1 or beside a slot that passes: it is 1, or 0 beside such a slot
fits-same : (m : ℕ) (bare : Bool) → leb m 1 && (eqb m 1 || bare) ≡ eqb m 1 || (eqb m 0 && bare)
fits-same zero bare = refl
fits-same (suc zero) bare = refl
fits-same (suc (suc m)) bare = simp (lt-leb (suc (suc m)) 1 (omega arith), ne_eqb (suc (suc m)) 1 (λ e. omega arith), ne_eqb (suc (suc m)) 0 (λ e. omega arith))

module _ (ms xs : List ℕ) (good : Bool) (i : ℕ) (p : Passing good (tidy (drop i ms) (drop i xs)) (tidy ms xs)) where
  -- one slot more
  pub tidy-turn : i < length ms → i < length xs
      → Passing (good && (eqb (get_or ms i 0) 1 || (eqb (get_or ms i 0) 0 && eqb (get_or xs i 0) 0))) (tidy (drop (i + 1) ms) (drop (i + 1) xs)) (tidy ms xs)
  unfolding tidy
  tidy-turn h g =
      let m = get_or ms i 0 in
      let bare = eqb (get_or xs i 0) 0 in
      let rest = tidy (drop (i + 1) ms) (drop (i + 1) xs) in
      and_assoc good (eqb m 1 || (eqb m 0 && bare)) rest
      ∙ ap (λ (b : Bool). good && (b && rest)) (sym (fits-same m bare))
      ∙ ap (λ (b : Bool). good && b) (sym row_step)
      ∙ p
    where
      row_step : tidy (drop i ms) (drop i xs) ≡ tidy (get_or ms i 0 ∷ drop (i + 1) ms) (get_or xs i 0 ∷ drop (i + 1) xs)
      row_step = rw (add-one, drop-cons ms i 0 h, drop-cons xs i 0 g)

  -- all slots
  pub tidy-all : length ms ≡ i → good ≡ tidy ms xs
  unfolding tidy
  tidy-all e = ended good p (ap (λ (l : List ℕ). tidy l (drop i xs)) (drop_of_length-le ms {i = i} (omega arith)))
