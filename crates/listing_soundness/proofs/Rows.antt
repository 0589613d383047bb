-- Tests of rows: no byte 10 among the first bytes, and all words 0.
use mathlib.Core.Path.{◌≡◌, refl, sym, ap, ◌∙◌}
use Prim.Native.Nat.{ℕ, zero, suc, ◌≤◌}
use native.Mathlib.Omega.{arith}
use mathlib.Core.List.{List, [], ◌∷◌}
use lib.Dec.{eqb}
use lib.ListN.{length, take}
use borrow.Author.Tests.{eq-eqb, eqb-true, ne_eqb}
use Rattle.reuse.proofs.Lists.{by-test, clash}
use Rattle.reuse_rows.specs.Rows.{blank}
use Rattle.texts.specs.Lines.{line_count}
use Rattle.texts.specs.Words.{run_of}
use Rattle.texts_pieces.specs.Pieces.{line_length}

-- numbers that are equal are so with one more each
eqb-suc : (a b : ℕ) → eqb (suc a) (suc b) ≡ eqb a b
eqb-suc a b =
    by-test (eqb a b) (λ e. eq-eqb (suc a) (suc b) (ap suc (eqb-true a b e)) ∙ sym e)
    (λ e. ne_eqb (suc a) (suc b) (λ z. let w : a ≡ b = omega (arith, z) in clash (eq-eqb a b w) e) ∙ sym e)

-- no line ends in the first k bytes if all of them stand before the next byte 10
pub line_clear : (k : ℕ) (l : List ℕ) → k ≤ length l → eqb (line_length k l) k ≡ eqb (line_count (take k l)) 0
unfolding line_length line_count
line_clear zero l h = refl
line_clear (suc k) [] h = absurd (omega arith)
line_clear (suc k) (x ∷ l) h =
    by-test (eqb x 10) (λ e. rw e (ne_eqb 0 (suc k) (λ z. omega (arith, z)) ∙ sym (ne_eqb (suc (line_count (take k l))) 0 (λ z. omega (arith, z)))))
    (λ e. rw e (eqb-suc (line_length k l) k ∙ line_clear k l (omega arith)))

-- a row is all 0 if the run of 0 at its front is as long as the row
pub run-blank : (l : List ℕ) → eqb (run_of (length l) 0 l) (length l) ≡ blank l
unfolding run_of blank
run-blank [] = refl
run-blank (x ∷ l) =
    by-test (eqb x 0) (λ e. rw e (eqb-suc (run_of (length l) 0 l) (length l) ∙ run-blank l)) (λ e. rw e (ne_eqb 0 (suc (length l)) (λ z. omega (arith, z))))
