-- The full tree of sums and the right-hand sums: each gives the other.
use Prim.Native.Nat.{ℕ, zero, suc, ◌+◌, ◌-◌, ◌*◌, ◌/◌, ◌%◌, ◌^◌, ◌≤◌, ◌<◌}
use mathlib.Core.Path.{◌≡◌, refl, sym, ap, ◌∙◌}
use mathlib.Core.List.{List, [], ◌∷◌, ◌++◌, map}
use mathlib.Core.Bool.{true}
use native.Mathlib.Omega.{arith}
use lib.Dec.{eqb, leb}
use lib.ListN.{length, drop, get_or, replicate, length-map, length-replicate}
use borrow.Author.Tests.{eqb-true, leb-true}
use Rattle.reuse.specs.Lists.{sum}
use Rattle.session_sums.specs.Sums.{pairs, sums_of, zeros, neighbours}
use Rattle.reuse.proofs.Lists.{by-test, both}
use Rattle.session_sums.proofs.Tree.{leaves, double, double-is, take-sums, sums-blank-row, trued-of}
use Rattle.session_sums.proofs.Walks.{neighbours-count, neighbours-total}
use Rattle.session_rights.specs.Rights.{odds, rights_of, zero_one}
use Rattle.session_rights.specs.Ways.{from_left}
use Rattle.session_rights.proofs.Levels.{power_pos, full-pairs, twice, get_or-odds}

-- a full tree has 2 ^ d leaves
pub leaves-power : (d : ℕ) → leaves d ≡ 2 ^ d
unfolding leaves
leaves-power zero = refl
leaves-power (suc d) = let h = leaves-power d in omega arith

-- the right children of two rows end to end, the first of even length
odds-append : (n : ℕ) (l rest : List ℕ) → length l ≡ double n → odds (l ++ rest) ≡ odds l ++ odds rest
unfolding odds
odds-append zero [] rest e = refl
odds-append zero (a ∷ l) rest e = absurd (omega arith)
odds-append (suc n) [] rest e = absurd (omega arith)
odds-append (suc n) (a ∷ []) rest e = absurd (omega arith)
odds-append (suc n) (a ∷ (b ∷ l)) rest e = ap {B = List ℕ} (λ r. b ∷ r) (odds-append n l rest (omega arith))

-- the right-hand sums are the full tree's sums at the odd places, in order
pub rights-odds : (d : ℕ) (marks : List ℕ) → length marks ≡ 2 ^ d → rights_of d marks ≡ odds (sums_of d marks)
unfolding rights_of sums_of odds
rights-odds zero [] e = absurd (omega arith)
rights-odds zero (a ∷ []) e = refl
rights-odds zero (a ∷ (b ∷ l)) e = absurd (omega arith)
rights-odds (suc d) marks e =
    rw (odds-append (2 ^ d) marks (sums_of d (pairs marks)) (twice d (length marks) e), rights-odds d (pairs marks) (full-pairs d marks e))

-- every second of an odd number of zeros
odds-blank-row : (k : ℕ) → odds (replicate (suc (double k)) 0) ≡ replicate k 0
unfolding odds
odds-blank-row zero = refl
odds-blank-row (suc k) = ap {B = List ℕ} (λ r. 0 ∷ r) (odds-blank-row k)

-- over no marks the right-hand sums are 0
pub rights-none : (d : ℕ) → rights_of d (replicate (2 ^ d) 0) ≡ replicate (2 ^ d - 1) 0
rights-none d =
    let pos = power_pos d in
    let odd : 2 ^ d + 2 ^ d - 1 ≡ suc (double (2 ^ d - 1)) = omega (arith, double-is (2 ^ d - 1)) in
    rights-odds d (replicate (2 ^ d) 0) (length-replicate {A = ℕ} (2 ^ d) 0)
    ∙ ap odds ((rw (leaves-power d) at (sums-blank-row d (2 ^ d + 2 ^ d - 1) (omega (arith, leaves-power d)))) ∙ ap (λ (n : ℕ). replicate n 0) odd)
    ∙ odds-blank-row (2 ^ d - 1)

-- from place s of a level: the right-hand neighbours in the full tree stand at the odd places of the points reached from the left
same_way : (d N b s : ℕ) → b + 2 ^ d ≡ N → s < 2 ^ d → neighbours N d (b + b + s) ≡ map (λ p. 2 * p + 1) (from_left d b s)
unfolding neighbours from_left
same_way zero N b s e h = refl
same_way (suc d) N b s e h =
    let digit : (b + b + s) % 2 ≡ s % 2 = omega arith in
    let place : N + (b + b + s) / 2 ≡ b + 2 ^ d + (b + 2 ^ d) + s / 2 = omega arith in
    let up = same_way d N (b + 2 ^ d) (s / 2) (omega arith) (omega arith) in
    by-test (eqb (s % 2) 0)
    (λ t. let z = eqb-true (s % 2) 0 t in
    let here : b + b + s + 1 ≡ 2 * (b + s / 2) + 1 = omega arith in
    simp (digit, t, place, up, here))
    (λ t. simp (digit, t, place, up))

-- a read goes by the same sums, in the same order, in either
pub same-sums-read : (d s : ℕ) → s < 2 ^ d → neighbours (2 ^ d) d s ≡ map (λ p. 2 * p + 1) (from_left d 0 s)
same-sums-read d s h = let z : 0 + 0 + s ≡ s = omega arith in rw z at (same_way d (2 ^ d) 0 s (omega arith) h)

-- no more marks than slots, where each is 0 or 1
pub few-marks : (marks : List ℕ) → zero_one marks ≡ true → sum marks ≤ length marks
unfolding zero_one sum
few-marks [] h = omega arith
few-marks (m ∷ marks) h =
    let p = both (leb m 1) (zero_one marks) h in
    omega (arith, leb-true m 1 p.0, few-marks marks p.1)

-- right-hand sums at places of points are the tree's at the odd places
odd-sums : (sums places : List ℕ) → sum (map (λ p. get_or (odds sums) p 0) places) ≡ sum (map (λ p. get_or sums p 0) (map (λ p. 2 * p + 1) places))
unfolding sum
odd-sums sums [] = refl
odd-sums sums (p ∷ places) =
    let place : suc (double p) ≡ 2 * p + 1 = omega (arith, double-is p) in
    let rest = odd-sums sums places in
    let here : get_or (odds sums) p 0 ≡ get_or sums (2 * p + 1) 0 = get_or-odds p sums ∙ ap (λ (k : ℕ). get_or sums k 0) place in
    omega arith

module _ (d : ℕ) (s : ℕ) (h : s < 2 ^ d) where
  -- the points reached from the left are as many as the zeros of the slot's number
  pub left-count : length (from_left d 0 s) ≡ zeros d s
  left-count =
      sym (length-map (from_left d 0 s) (λ p. 2 * p + 1))
      ∙ ap length (sym (same-sums-read d s h))
      ∙ neighbours-count d (2 ^ d) s (leaves-power d) h

  -- the right-hand sums read on the way up are the sums of the right-hand neighbours in the tree
  pub same_total : (marks : List ℕ) → length marks ≡ 2 ^ d
      → sum (map (λ p. get_or (rights_of d marks) p 0) (from_left d 0 s)) ≡ sum (map (λ p. get_or (sums_of d marks) p 0) (neighbours (2 ^ d) d s))
  same_total marks e =
      ap (λ (l : List ℕ). sum (map (λ p. get_or l p 0) (from_left d 0 s))) (rights-odds d marks e)
      ∙ odd-sums (sums_of d marks) (from_left d 0 s)
      ∙ ap (λ (l : List ℕ). sum (map (λ p. get_or (sums_of d marks) p 0) l)) (sym (same-sums-read d s h))

  -- they add up to the marks behind the slot
  pub rights-behind : (marks : List ℕ) → length marks ≡ 2 ^ d → sum marks ≤ 2 ^ d
      → sum (map (λ p. get_or (rights_of d marks) p 0) (from_left d 0 s)) ≡ sum (drop (suc s) marks)
  rights-behind marks e few =
      same_total marks e
      ∙ neighbours-total d (2 ^ d) (sums_of d marks) s (trued-of d (2 ^ d) (sums_of d marks) marks refl e few) (leaves-power d) h
      ∙ ap (λ (l : List ℕ). sum (drop (suc s) l)) (take-sums d (2 ^ d) marks e)
