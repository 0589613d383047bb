-- How many bytes stand before the end of a line: at the end of a text, at its bytes, and what stands next.
use mathlib.Core.Path.{◌≡◌, refl, sym, ap, ◌∙◌}
use Prim.Native.Nat.{ℕ, zero, suc, ◌+◌, ◌≤◌, ◌<◌}
use native.Mathlib.Omega.{arith}
use native.Mathlib.Numerals.{one-add}
use mathlib.Core.Bool.{not}
use Rattle.std.specs.List.{prefix_len}
use mathlib.Core.List.{List, [], ◌∷◌}
use lib.Dec.{eqb}
use lib.ListN.{length, take, drop, length-drop}
use lib.Seq.{drop-drop}
use borrow.Author.Tests.{eqb-true}
use Rattle.texts.specs.Lines.{line_count}
use Rattle.reuse.proofs.Lists.{by-test}
use Rattle.texts_pieces.specs.Pieces.{line_length}

-- the bytes before the end of a line are those that are not byte 10, of so many
pub length_front : (k : ℕ) (l : List ℕ) → prefix_len (λ x. not (eqb x 10)) (take k l) ≡ line_length k l
unfolding line_length
length_front zero l = refl
length_front (suc k) [] = refl
length_front (suc k) (x ∷ l) = by-test (eqb x 10) (λ e. simp e) (λ e. simp (e, length_front k l, one-add))

-- no more are counted than there are, nor than is asked
length-short : (k : ℕ) (l : List ℕ) → (line_length k l ≤ length l) × (line_length k l ≤ k)
unfolding line_length
length-short zero l = (omega arith, omega arith)
length-short (suc k) [] = (omega arith, omega arith)
length-short (suc k) (x ∷ l) =
    let r = length-short k l in
    by-test (eqb x 10) (λ e. simp e (omega arith, omega arith)) (λ e. simp e (omega (arith, r.0), omega (arith, r.1)))

-- the bytes counted at a place end within the text
pub length-within : (s : List ℕ) (at most r : ℕ) → at ≤ length s → r ≡ line_length most (drop at s) → (at + r ≤ length s) × (r ≤ most)
length-within s at most r h e = let q = length-short most (drop at s) in (omega (arith, q.0, e, length-drop at s), omega (arith, q.1, e))

-- the bytes counted end no line
pub length-line : (k : ℕ) (l : List ℕ) → line_count (take (line_length k l) l) ≡ 0
unfolding line_length line_count
length-line zero l = refl
length-line (suc k) [] = refl
length-line (suc k) (x ∷ l) = by-test (eqb x 10) (λ e. simp e) (λ e. simp e (length-line k l))

-- where fewer are counted than is asked and than there are, byte 10 is next
length-next : (k : ℕ) (l : List ℕ) → line_length k l < k → line_length k l < length l → drop (line_length k l) l ≡ 10 ∷ drop (suc (line_length k l)) l
unfolding line_length
length-next zero l h p = absurd (omega arith)
length-next (suc k) [] h p = absurd (omega arith)
length-next (suc k) (x ∷ l) h p =
    by-test (eqb x 10)
    (λ e. simp e (ap (λ (y : ℕ). y ∷ l) (eqb-true x 10 e)))
    (λ e. simp e (length-next k l (let z = simp e at h in omega arith) (let z = simp e at p in omega arith)))

-- the same at a place of a text
pub length-ends : (s : List ℕ) (at most r : ℕ) → at ≤ length s → r ≡ line_length most (drop at s) → r < most → at + r < length s → drop (at + r) s ≡ 10 ∷ drop (suc (at + r)) s
length-ends s at most r h e p q =
    let n = length-next most (drop at s) (omega arith) (omega (arith, length-drop at s)) in
    let u : at + suc r ≡ suc (at + r) = omega arith in
    sym (drop-drop r at s) ∙ (rw (← e) at n) ∙ ap (λ (l : List ℕ). 10 ∷ l) (drop-drop (suc r) at s ∙ ap (λ (j : ℕ). drop j s) u)
