-- One level and the level above it: right children, pairs, and children worked out from above.
use Prim.Native.Nat.{ℕ, zero, suc, ◌+◌, ◌-◌, ◌^◌, ◌≤◌, ◌<◌}
use mathlib.Core.Path.{◌≡◌, refl, sym, ap}
use mathlib.Core.List.{List, [], ◌∷◌}
use mathlib.Core.Bool.{true}
use native.Mathlib.Omega.{arith}
use lib.Dec.{leb}
use lib.ListN.{length, get_or, drop}
use borrow.Author.Tests.{leb-true, le-leb}
use Rattle.reuse.specs.Lists.{sum}
use Rattle.session_sums.specs.Sums.{pairs}
use Rattle.reuse.proofs.Lists.{both}
use Rattle.session_sums.proofs.Tree.{double, double-is, length_pairs, sum-pairs}
use Rattle.session_rights.specs.Rights.{odds, children, none_above}

-- half as many right children
pub length-odds : (n : ℕ) (l : List ℕ) → length l ≡ double n → length (odds l) ≡ n
unfolding odds
length-odds zero [] h = refl
length-odds zero (a ∷ l) h = absurd (omega arith)
length-odds (suc n) [] h = absurd (omega arith)
length-odds (suc n) (a ∷ []) h = absurd (omega arith)
length-odds (suc n) (a ∷ (b ∷ l)) h = ap suc (length-odds n l (omega arith))

-- a level has at least one point
pub power_pos : (d : ℕ) → 1 ≤ 2 ^ d
power_pos zero = omega arith
power_pos (suc d) = let h = power_pos d in omega arith

-- a full level is twice the level above
pub twice : (d n : ℕ) → n ≡ 2 ^ suc d → n ≡ double (2 ^ d)
twice d n e = omega (arith, double-is (2 ^ d))

-- a full level has 2 ^ d right children
pub full-odds : (d : ℕ) (l : List ℕ) → length l ≡ 2 ^ suc d → length (odds l) ≡ 2 ^ d
full-odds d l e = length-odds (2 ^ d) l (twice d (length l) e)

-- and 2 ^ d pairs
pub full-pairs : (d : ℕ) (l : List ℕ) → length l ≡ 2 ^ suc d → length (pairs l) ≡ 2 ^ d
full-pairs d l e = length_pairs (2 ^ d) l (twice d (length l) e)

-- a level comes back from its pairs and its right children
pub children-of : (n : ℕ) (l : List ℕ) → length l ≡ double n → children (pairs l) (odds l) ≡ l
unfolding children pairs odds
children-of zero [] h = refl
children-of zero (a ∷ l) h = absurd (omega arith)
children-of (suc n) [] h = absurd (omega arith)
children-of (suc n) (a ∷ []) h = absurd (omega arith)
children-of (suc n) (a ∷ (b ∷ l)) h =
    let left : a + b - b ≡ a = omega arith in
    let rest = children-of n l (omega arith) in
    cc

-- no right child is above its pair
pub odds-in-pairs : (l : List ℕ) → none_above (odds l) (pairs l) ≡ true
unfolding none_above pairs odds
odds-in-pairs [] = refl
odds-in-pairs (a ∷ []) = refl
odds-in-pairs (a ∷ (b ∷ l)) = simp (le-leb b (a + b) (omega arith), odds-in-pairs l)

-- the right children of a level worked out are the right-hand sums
pub odds-children : (ts rs : List ℕ) → length rs ≡ length ts → odds (children ts rs) ≡ rs
unfolding children odds
odds-children [] [] e = refl
odds-children [] (r ∷ rs) e = absurd (omega arith)
odds-children (t ∷ ts) [] e = absurd (omega arith)
odds-children (t ∷ ts) (r ∷ rs) e = ap {B = List ℕ} (λ l. r ∷ l) (odds-children ts rs (omega arith))

-- its pairs are the totals, where no right-hand sum is above its total
pub pairs-children : (ts rs : List ℕ) → length rs ≡ length ts → none_above rs ts ≡ true → pairs (children ts rs) ≡ ts
unfolding children pairs none_above
pairs-children [] rs e h = refl
pairs-children (t ∷ ts) [] e h = absurd (omega arith)
pairs-children (t ∷ ts) (r ∷ rs) e h =
    let p = both (leb r t) (none_above rs ts) h in
    let whole : t - r + r ≡ t = omega (arith, leb-true r t p.0) in
    let rest = pairs-children ts rs (omega arith) p.1 in
    cc

-- it is twice as long
pub length-children : (ts rs : List ℕ) → length rs ≡ length ts → length (children ts rs) ≡ length ts + length ts
unfolding children
length-children [] rs e = refl
length-children (t ∷ ts) [] e = absurd (omega arith)
length-children (t ∷ ts) (r ∷ rs) e = let h = length-children ts rs (omega arith) in omega arith

-- the right child of a point, by its place
pub get_or-odds : (q : ℕ) (l : List ℕ) → get_or (odds l) q 0 ≡ get_or l (suc (double q)) 0
unfolding odds
get_or-odds q [] = refl
get_or-odds zero (a ∷ []) = refl
get_or-odds (suc q) (a ∷ []) = refl
get_or-odds zero (a ∷ (b ∷ l)) = refl
get_or-odds (suc q) (a ∷ (b ∷ l)) = get_or-odds q l

-- what is to the right of a left child: its point's right-hand sum, and what is to the right of the point
pub right-of-left : (q : ℕ) (l : List ℕ) → sum (drop (suc (double q)) l) ≡ get_or (odds l) q 0 + sum (drop (suc q) (pairs l))
unfolding odds pairs sum
right-of-left q [] = refl
right-of-left zero (a ∷ []) = refl
right-of-left (suc q) (a ∷ []) = refl
right-of-left zero (a ∷ (b ∷ l)) = ap (λ (k : ℕ). b + k) (sym (sum-pairs l))
right-of-left (suc q) (a ∷ (b ∷ l)) = right-of-left q l

-- what is to the right of a right child is to the right of the point
pub right-of-right : (q : ℕ) (l : List ℕ) → sum (drop (suc (suc (double q))) l) ≡ sum (drop (suc q) (pairs l))
unfolding pairs sum
right-of-right q [] = refl
right-of-right zero (a ∷ []) = refl
right-of-right (suc q) (a ∷ []) = refl
right-of-right zero (a ∷ (b ∷ l)) = sym (sum-pairs l)
right-of-right (suc q) (a ∷ (b ∷ l)) = right-of-right q l

-- a pair, by its place
pub get_or-pairs : (q : ℕ) (l : List ℕ) → get_or (pairs l) q 0 ≡ get_or l (double q) 0 + get_or l (suc (double q)) 0
unfolding pairs
get_or-pairs q [] = omega arith
get_or-pairs zero (a ∷ []) = omega arith
get_or-pairs (suc q) (a ∷ []) = omega arith
get_or-pairs zero (a ∷ (b ∷ l)) = refl
get_or-pairs (suc q) (a ∷ (b ∷ l)) = get_or-pairs q l

-- a left child worked out, by its place
pub child-left : (q : ℕ) (ts rs : List ℕ) → q < length ts → length rs ≡ length ts → get_or (children ts rs) (double q) 0 ≡ get_or ts q 0 - get_or rs q 0
unfolding children
child-left q [] rs h e = absurd (omega arith)
child-left q (t ∷ ts) [] h e = absurd (omega arith)
child-left zero (t ∷ ts) (r ∷ rs) h e = refl
child-left (suc q) (t ∷ ts) (r ∷ rs) h e = child-left q ts rs (omega arith) (omega arith)

-- a right child worked out, by its place
pub child-right : (q : ℕ) (ts rs : List ℕ) → q < length ts → length rs ≡ length ts → get_or (children ts rs) (suc (double q)) 0 ≡ get_or rs q 0
unfolding children
child-right q [] rs h e = absurd (omega arith)
child-right q (t ∷ ts) [] h e = absurd (omega arith)
child-right zero (t ∷ ts) (r ∷ rs) h e = refl
child-right (suc q) (t ∷ ts) (r ∷ rs) h e = child-right q ts rs (omega arith) (omega arith)
