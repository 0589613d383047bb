-- The way up from a leaf to the root: the right-hand neighbours on it, what they add up to, and how many they are.
use mathlib.Core.Path.{◌≡◌, refl, sym, ap, ◌∙◌}
use mathlib.Core.List.{List, [], ◌∷◌, ◌++◌, map, append_assoc}
use Prim.Native.Nat.{ℕ, zero, suc, ◌+◌, ◌/◌, ◌%◌, ◌<◌}
use native.Mathlib.Omega.{arith}
use lib.Dec.{eqb}
use lib.ListN.{length, take, drop, get_or, length-append, get_or-append, drop_of_length-le}
use lib.Seq.{get_or-append-add}
use mathlib.Core.Logic.{◌≢◌}
use borrow.Author.Tests.{eqb-true, eqb-false}
use Rattle.reuse.specs.Lists.{sum}
use Rattle.session_sums.specs.Sums.{pairs, sums_of, zeros, neighbours, Trued}
use Rattle.reuse.proofs.Lists.{by-test}
use Rattle.reuse.proofs.Sums.{sum_drop}
use Rattle.session_sums.proofs.Tree.{full, leaves, double, double-is, even, odd, sum-pairs, length_pairs}

-- the level above, from a place on
drop-pairs : (q : ℕ) (l : List ℕ) → drop q (pairs l) ≡ pairs (drop (double q) l)
unfolding pairs
drop-pairs zero l = refl
drop-pairs (suc q) [] = refl
drop-pairs (suc zero) (a ∷ []) = refl
drop-pairs (suc (suc q)) (a ∷ []) = refl
drop-pairs (suc q) (a ∷ (b ∷ l)) = drop-pairs q l

-- a node of a level, in the whole
pub at_level : (pre level rest : List ℕ) (j : ℕ) → j < length level → get_or (pre ++ (level ++ rest)) (length pre + j) 0 ≡ get_or level j 0
at_level pre level rest j h = rw (get_or-append-add, get_or-append)

-- what is to the right on the level above
over-pairs : (q : ℕ) (l : List ℕ) → sum (drop q (pairs l)) ≡ sum (drop (double q) l)
over-pairs q l = ap sum (drop-pairs q l) ∙ sum-pairs (drop (double q) l)

-- what is to the right of a left child: its neighbour, and what is to the right above
right-even : (l : List ℕ) (j : ℕ) → j % 2 ≡ 0 → sum (drop (suc j) l) ≡ get_or l (suc j) 0 + sum (drop (suc (j / 2)) (pairs l))
right-even l j e =
    sum_drop (suc j) l
    ∙ ap (λ (k : ℕ). get_or l (suc j) 0 + sum (drop (suc (suc k)) l)) (even j e)
    ∙ ap (λ (k : ℕ). get_or l (suc j) 0 + k) (sym (over-pairs (suc (j / 2)) l))

-- what is to the right of a right child is to the right above
right-odd : (l : List ℕ) (j : ℕ) → (j % 2 ≡ 0 → ⊥) → sum (drop (suc j) l) ≡ sum (drop (suc (j / 2)) (pairs l))
right-odd l j e = ap (λ (k : ℕ). sum (drop (suc k) l)) (odd j e) ∙ sym (over-pairs (suc (j / 2)) l)

-- b sums stand before the level with d levels above it, N leaves first
abbrev Level : ℕ → ℕ → ℕ → Type 0
Level d N b = b + (leaves d + leaves d) ≡ N + N

-- the neighbours on the way up from place j of a level are as many as the zeros of j
count-from : (d N b j : ℕ) → Level d N b → j < leaves d → length (neighbours N d (b + j)) ≡ zeros d j
unfolding neighbours zeros leaves
count-from zero N b j e h = refl
count-from (suc d) N b j e h =
    let up : N + (b + j) / 2 ≡ N + b / 2 + j / 2 = omega arith in
    let i : length (neighbours N d (N + b / 2 + j / 2)) ≡ zeros d (j / 2) = count-from d N (N + b / 2) (j / 2) (omega arith) (omega arith) in
    by-test (eqb ((b + j) % 2) 0)
    (λ q. simp (q, up, i) (omega (arith, eqb-true ((b + j) % 2) 0 q)))
    (λ q. simp (q, up, i) (omega (arith, eqb-false ((b + j) % 2) 0 q)))

-- their sums add up to what is to the right of j
total-from : (d N : ℕ) (S pre level : List ℕ) (j : ℕ) → S ≡ pre ++ sums_of d level → length level ≡ leaves d → Level d N (length pre) → j < leaves d
    → sum (map (λ p. get_or S p 0) (neighbours N d (length pre + j))) ≡ sum (drop (suc j) level)
unfolding neighbours sums_of leaves sum
total-from zero N S pre level j split full e h = sym (ap sum (drop_of_length-le level {i = suc j} (omega arith)))
total-from (suc d) N S pre level j split full e h =
    let i : sum (map (λ p. get_or S p 0) (neighbours N d (length (pre ++ level) + j / 2))) ≡ sum (drop (suc (j / 2)) (pairs level)) =
    total-from d N S (pre ++ level) (pairs level) (j / 2) (split ∙ sym (append_assoc pre level (sums_of d (pairs level)))) half
    (simp length-append (omega arith)) (omega arith) in
    by-test (eqb ((length pre + j) % 2) 0)
    (λ q. let even : (length pre + j) % 2 ≡ 0 = eqb-true ((length pre + j) % 2) 0 q in
    simp (q, up, i) (omega (arith, neighbour even, right-even level j (omega arith))))
    (λ q. let ne : (length pre + j) % 2 ≢ 0 = eqb-false ((length pre + j) % 2) 0 q in
    simp (q, up, i) (sym (right-odd level j (omega arith))))
  where
    half : length (pairs level) ≡ leaves d
    half = length_pairs (leaves d) level (full ∙ sym (double-is (leaves d)))

    up : N + (length pre + j) / 2 ≡ length (pre ++ level) + j / 2
    up = simp length-append (omega arith)

    neighbour : (length pre + j) % 2 ≡ 0 → get_or S (length pre + j + 1) 0 ≡ get_or level (suc j) 0
    neighbour q =
        ap (λ (s : List ℕ). get_or s (length pre + j + 1) 0) split
        ∙ ap (λ (k : ℕ). get_or (pre ++ (level ++ sums_of d (pairs level))) k 0) (omega arith)
        ∙ at_level pre level (sums_of d (pairs level)) (suc j) (omega arith)

-- the right-hand neighbours on the way up from the leaf s are as many as the zeros of s
pub neighbours-count : (d N s : ℕ) → leaves d ≡ N → s < N → length (neighbours N d s) ≡ zeros d s
neighbours-count d N s e h = let z : 0 + s ≡ s = omega arith in rw z at (count-from d N 0 s (omega arith) (omega arith))

-- their sums add up to the marks behind s
pub neighbours-total : (d N : ℕ) (S : List ℕ) (s : ℕ) → Trued d N S → leaves d ≡ N → s < N
    → sum (map (λ p. get_or S p 0) (neighbours N d s)) ≡ sum (drop (suc s) (take N S))
neighbours-total d N S s t e h =
    let z : 0 + s ≡ s = omega arith in
    rw z at (total-from d N S [] (take N S) s t.true-sums (t.full ∙ sym e) (omega arith) (omega arith))
