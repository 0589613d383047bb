-- The tree of sums over any depth: its halves, its leaves, its length and its root.
use Prim.Native.Nat.{ℕ, zero, suc, ◌+◌, ◌-◌, ◌/◌, ◌%◌, ◌≤◌}
use mathlib.Core.Path.{◌≡◌, refl, sym, ap, ◌∙◌}
use mathlib.Core.List.{List, [], ◌∷◌, ◌++◌}
use native.Mathlib.Omega.{arith}
use lib.ListN.{length, take, get_or, replicate, length-append, replicate-append-replicate}
use lib.Seq.{get_or-append-add, take-length, take-append_seam}
use Rattle.reuse.specs.Lists.{sum}
use Rattle.reuse.specs.Limits.{slot_count, sum_count, levels}
use Rattle.session_sums.specs.Sums.{pairs, sums_of, marks_in, Trued}

-- how many leaves a full tree of depth d has
unfoldable pub leaves : ℕ → ℕ
leaves zero = 1
leaves (suc d) = leaves d + leaves d

-- the tree over all slots is full
pub full : leaves levels ≡ slot_count
unfolding leaves
full = refl

-- there is at least one leaf
pub leaves-pos : (d : ℕ) → 1 ≤ leaves d
unfolding leaves
leaves-pos zero = omega arith
leaves-pos (suc d) = let h = leaves-pos d in omega arith

-- twice a number
abbrev pub double : ℕ → ℕ
double zero = zero
double (suc q) = suc (suc (double q))

-- twice a number is its sum with itself
pub double-is : (q : ℕ) → double q ≡ q + q
double-is zero = refl
double-is (suc q) = let h = double-is q in omega arith

-- an even number is twice its half
pub even : (j : ℕ) → j % 2 ≡ 0 → j ≡ double (j / 2)
even j e = let h = double-is (j / 2) in omega arith

-- an odd number is one more
pub odd : (j : ℕ) → (j % 2 ≡ 0 → ⊥) → j ≡ suc (double (j / 2))
odd j ne = let h = double-is (j / 2) in omega arith

-- the level above has the same sum
pub sum-pairs : (l : List ℕ) → sum (pairs l) ≡ sum l
unfolding sum pairs
sum-pairs [] = refl
sum-pairs (a ∷ []) = refl
sum-pairs (a ∷ (b ∷ l)) = let h = sum-pairs l in omega arith

-- it has half as many
pub length_pairs : (n : ℕ) (l : List ℕ) → length l ≡ double n → length (pairs l) ≡ n
unfolding pairs
length_pairs zero [] h = refl
length_pairs zero (a ∷ l) h = omega arith
length_pairs (suc n) [] h = omega arith
length_pairs (suc n) (a ∷ []) h = omega arith
length_pairs (suc n) (a ∷ (b ∷ l)) h = ap suc (length_pairs n l (omega arith))

-- the leaves stand first
pub take-sums : (d N : ℕ) (l : List ℕ) → length l ≡ N → take N (sums_of d l) ≡ l
unfolding sums_of
take-sums zero N l e = ap (λ (k : ℕ). take k l) (sym e) ∙ take-length l
take-sums (suc d) N l e = ap (λ (k : ℕ). take k (l ++ sums_of d (pairs l))) (sym e) ∙ take-append_seam l (sums_of d (pairs l))

-- a full tree has one sum fewer than twice its leaves
pub length-sums : (d : ℕ) (l : List ℕ) → length l ≡ leaves d → length (sums_of d l) + 1 ≡ leaves d + leaves d
unfolding sums_of leaves
length-sums zero l e = omega arith
length-sums (suc d) l e =
    let h = length-sums d (pairs l) (length_pairs (leaves d) l (e ∙ sym (double-is (leaves d)))) in
    simp length-append (omega arith)

-- over zeros it has zeros
pairs-blank-row : (n : ℕ) → pairs (replicate (n + n) 0) ≡ replicate n 0
unfolding pairs
pairs-blank-row zero = refl
pairs-blank-row (suc n) = ap (λ (k : ℕ). pairs (replicate k 0)) two ∙ ap {B = List ℕ} (λ r. 0 ∷ r) (pairs-blank-row n)
  where
    two : suc n + suc n ≡ suc (suc (n + n))
    two = omega arith

-- over leaves that are all 0 so are the sums
pub sums-blank-row : (d n : ℕ) → n + 1 ≡ leaves d + leaves d → sums_of d (replicate (leaves d) 0) ≡ replicate n 0
unfolding sums_of leaves
sums-blank-row zero n e = let one : 1 ≡ n = omega arith in ap (λ (k : ℕ). replicate k 0) one
sums-blank-row (suc d) n e =
    ap (λ (l : List ℕ). replicate (leaves d + leaves d) 0 ++ sums_of d l) (pairs-blank-row (leaves d))
    ∙ ap (λ (l : List ℕ). replicate (leaves d + leaves d) 0 ++ l) (sums-blank-row d (n - (leaves d + leaves d)) (omega arith))
    ∙ replicate-append-replicate (leaves d + leaves d) (n - (leaves d + leaves d)) 0
    ∙ ap (λ (k : ℕ). replicate k 0) whole
  where
    whole : leaves d + leaves d + (n - (leaves d + leaves d)) ≡ n
    whole = omega arith

-- a place behind the first of two lists
pub after : (l rest : List ℕ) (k m : ℕ) → k ≡ length l + m → get_or (l ++ rest) k 0 ≡ get_or rest m 0
after l rest k m b = rw (b, get_or-append-add)

-- sums made over a row of marks are true
pub trued-of : (d N : ℕ) (S ms : List ℕ) → S ≡ sums_of d ms → length ms ≡ N → sum ms ≤ N → Trued d N S
trued-of d N S ms t e few =
    let same : take N S ≡ ms = ap (take N) t ∙ take-sums d N ms e in
    record { full = ap length same ∙ e; true-sums = t ∙ ap (sums_of d) (sym same); few = omega (arith, ap sum same) }

-- true sums over all slots are as many as a session has
pub trued-wide : (S : List ℕ) → Trued levels slot_count S → length S ≡ sum_count
trued-wide S t = ap length t.true-sums ∙ omega (arith, length-sums levels (marks_in S) (t.full ∙ sym full), full)
