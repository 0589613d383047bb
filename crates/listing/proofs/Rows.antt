-- Rows with 0 after what they hold: the line's bytes, and the words of a tally.
use mathlib.Core.Path.{◌≡◌, refl, sym, ap, ◌∙◌}
use Prim.Native.Nat.{ℕ, zero, suc, ◌+◌, ◌-◌, ◌≤◌}
use native.Mathlib.Omega.{arith}
use mathlib.Core.List.{List, [], ◌∷◌, ◌++◌}
use mathlib.Core.Bool.{true}
use lib.Dec.{eqb}
use lib.ListN.{length, take, drop, replicate, length-drop, length-replicate, take-append-drop}
use lib.Seq.{length-take-le, take_all, take-append_seam, drop-append_seam}
use borrow.Author.Tests.{eqb-true}
use Rattle.reuse.specs.Limits.{max_extents}
use Rattle.reuse.proofs.Lists.{both}
use Rattle.reuse_rows.specs.Rows.{blank, put_at, padded}
use Rattle.texts.specs.Logs.{longest_line}
use Rattle.listing.specs.Listers.{blank_line}

-- what is left of a row of 0 is 0
zeros-left : (n k : ℕ) → blank (drop k (replicate n 0)) ≡ true
unfolding blank
zeros-left zero zero = refl
zeros-left zero (suc k) = refl
zeros-left (suc n) zero = zeros-left n zero
zeros-left (suc n) (suc k) = zeros-left n k

-- the bytes held stand in front of a line
pub line-front : (held : List ℕ) → take (length held) (put_at blank_line 0 held) ≡ held
unfolding put_at blank_line
line-front held = take-append_seam held _

-- and 0 after them
pub line-rest : (held : List ℕ) → blank (drop (length held) (put_at blank_line 0 held)) ≡ true
unfolding put_at blank_line
line-rest held =
    ap blank (drop-append_seam held (drop (0 + length held) (replicate longest_line 0))) ∙ zeros-left longest_line (0 + length held)

-- 0 stands after the words of a row
pub words-rest : (words : List ℕ) → length words ≤ max_extents → blank (drop (length words) (padded words)) ≡ true
unfolding padded
words-rest words h =
    rw (take_all max_extents words h, drop-append_seam words (drop (length words) (replicate max_extents 0))) (zeros-left max_extents (length words))

-- a row that is all 0
blank-is : (l : List ℕ) → blank l ≡ true → l ≡ replicate (length l) 0
unfolding blank
blank-is [] h = refl
blank-is (x ∷ l) h =
    let b = both (eqb x 0) (blank l) h in
    ap (λ (n : ℕ). n ∷ l) (eqb-true x 0 b.0) ∙ ap (λ (v : List ℕ). 0 ∷ v) (blank-is l b.1)

-- two rows of one length that are all 0
rest-same : (a b : List ℕ) → blank a ≡ true → blank b ≡ true → length a ≡ length b → a ≡ b
rest-same a b p q e = blank-is a p ∙ ap (λ (n : ℕ). replicate n 0) e ∙ sym (blank-is b q)

-- what is left of a row that is 0 there is what is left of a row of 0
left-same : (n v : ℕ) (row : List ℕ) → length row ≡ n → blank (drop v row) ≡ true → drop v (replicate n 0) ≡ drop v row
left-same n v row w b =
    rest-same (drop v (replicate n 0)) (drop v row) (zeros-left n v) b
    (length-drop v (replicate n 0) ∙ ap (λ (k : ℕ). k - v) (length-replicate {A = ℕ} n 0 ∙ sym w) ∙ sym (length-drop v row))

-- a line with 0 after the bytes held is the line of those bytes
pub line_same : (line : List ℕ) (held : ℕ) → length line ≡ longest_line → held ≤ longest_line → blank (drop held line) ≡ true → put_at blank_line 0 (take held line) ≡ line
unfolding put_at blank_line
line_same line held w h b =
    let n : 0 + length (take held line) ≡ held = omega (arith, length-take-le held line (omega arith)) in
    ap (λ (k : ℕ). take held line ++ drop k (replicate longest_line 0)) n
    ∙ ap (λ (l : List ℕ). take held line ++ l) (left-same longest_line held line w b)
    ∙ take-append-drop held line

-- a row with 0 after its words is the row of those words
pub words_same : (row : List ℕ) (v : ℕ) → length row ≡ max_extents → v ≤ max_extents → blank (drop v row) ≡ true → padded (take v row) ≡ row
unfolding padded
words_same row v w h b =
    let n : length (take v row) ≡ v = length-take-le v row (omega arith) in
    ap (λ (l : List ℕ). l ++ drop (length (take v row)) (replicate max_extents 0)) (take_all max_extents (take v row) (omega arith))
    ∙ ap (λ (k : ℕ). take v row ++ drop k (replicate max_extents 0)) n
    ∙ ap (λ (l : List ℕ). take v row ++ l) (left-same max_extents v row w b)
    ∙ take-append-drop v row
