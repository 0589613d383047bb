-- A mark set or cleared: the right-hand sums of the points reached from the right change, and no other.
use Prim.Native.Nat.{ℕ, zero, suc, ◌+◌, ◌-◌, ◌/◌, ◌%◌, ◌^◌, ◌≤◌, ◌<◌}
use mathlib.Core.Path.{◌≡◌, refl, sym, ap, subst, ◌∙◌}
use mathlib.Core.List.{List, [], ◌∷◌, ◌++◌, append_assoc}
use native.Mathlib.Omega.{arith}
use native.Mathlib.Nat.{suc-add}
use lib.Dec.{eqb}
use lib.ListN.{length, get_or, set, length-append, length-set, get_or-append}
use lib.Seq.{get_or-append-add, set-append_left}
use borrow.Author.Tests.{eqb-true, eqb-false}
use Rattle.reuse.specs.Lists.{sum}
use Rattle.session_sums.specs.Sums.{pairs}
use Rattle.reuse.proofs.Lists.{by-test}
use Rattle.reuse.proofs.Sums.{at-le-sum}
use Rattle.session_sums.proofs.Tree.{double, even, odd, sum-pairs}
use Rattle.session_rights.specs.Rights.{odds, rights_of}
use Rattle.session_rights.specs.Ways.{from_right, changed}
use Rattle.session_rights.proofs.Levels.{full-odds, full-pairs, get_or-odds, get_or-pairs}

-- a fact of all even and all odd places is one of every place
by-halves : (P : ℕ → ℕ → Type 0) → ((q : ℕ) → P (double q) q) → ((q : ℕ) → P (suc (double q)) q) → (s : ℕ) → P s (s / 2)
by-halves P left right s =
    by-test (eqb (s % 2) 0)
    (λ t. subst (λ (k : ℕ). P k (s / 2)) (sym (even s (eqb-true (s % 2) 0 t))) (left (s / 2)))
    (λ t. subst (λ (k : ℕ). P k (s / 2)) (sym (odd s (eqb-false (s % 2) 0 t))) (right (s / 2)))

-- a left child set leaves the right children
left-set : (q : ℕ) (l : List ℕ) (x : ℕ) → odds (set l (double q) x) ≡ odds l
unfolding odds
left-set q [] x = refl
left-set zero (a ∷ []) x = refl
left-set (suc q) (a ∷ []) x = refl
left-set zero (a ∷ (b ∷ l)) x = refl
left-set (suc q) (a ∷ (b ∷ l)) x = ap {B = List ℕ} (λ r. b ∷ r) (left-set q l x)

-- a right child set
right-set : (q : ℕ) (l : List ℕ) (x : ℕ) → odds (set l (suc (double q)) x) ≡ set (odds l) q x
unfolding odds
right-set q [] x = refl
right-set q (a ∷ []) x = refl
right-set zero (a ∷ (b ∷ l)) x = refl
right-set (suc q) (a ∷ (b ∷ l)) x = ap {B = List ℕ} (λ r. b ∷ r) (right-set q l x)

-- a left child set leaves the right children, by its place
left-set-at : (s : ℕ) (l : List ℕ) (x : ℕ) → s % 2 ≡ 0 → odds (set l s x) ≡ odds l
left-set-at s l x e = ap (λ (k : ℕ). odds (set l k x)) (even s e) ∙ left-set (s / 2) l x

-- a right child set, by its place
right-set-at : (s : ℕ) (l : List ℕ) (x : ℕ) → (s % 2 ≡ 0 → ⊥) → odds (set l s x) ≡ set (odds l) (s / 2) x
right-set-at s l x e = ap (λ (k : ℕ). odds (set l k x)) (odd s e) ∙ right-set (s / 2) l x

-- a child is no more than its pair
child-le : (s : ℕ) (l : List ℕ) → get_or l s 0 ≤ get_or (pairs l) (s / 2) 0
child-le s l =
    by-halves (λ k q. get_or l k 0 ≤ get_or (pairs l) q 0) (λ q. omega (arith, get_or-pairs q l)) (λ q. omega (arith, get_or-pairs q l)) s

-- a place set behind the first of two lists
set-append-add : (xs ys : List ℕ) (n x : ℕ) → set (xs ++ ys) (length xs + n) x ≡ xs ++ set ys n x
set-append-add [] ys n x = ap (λ (k : ℕ). set ys k x) (omega arith)
set-append-add (a ∷ xs) ys n x = ap (λ (k : ℕ). set (a ∷ (xs ++ ys)) k x) (suc-add (length xs) n) ∙ ap {B = List ℕ} (λ r. a ∷ r) (set-append-add xs ys n x)

-- the point over a right child, behind the sums before it: its sum is that child's, and changes with it
point-set : (f : ℕ → ℕ) (before l rest : List ℕ) (s : ℕ) → s / 2 < length (odds l) → (s % 2 ≡ 0 → ⊥)
    → set (before ++ (odds l ++ rest)) (length before + s / 2) (f (get_or (before ++ (odds l ++ rest)) (length before + s / 2) 0))
    ≡ before ++ (set (odds l) (s / 2) (f (get_or l s 0)) ++ rest)
point-set f before l rest s h e =
    let here : get_or (odds l) (s / 2) 0 ≡ get_or l s 0 = get_or-odds (s / 2) l ∙ ap (λ (k : ℕ). get_or l k 0) (sym (odd s e)) in
    rw (get_or-append-add, get_or-append, here, set-append-add, set-append_left)

module _ (new old : ℕ) where
  -- a left child changed changes its pair
  pair_left : (q : ℕ) (l : List ℕ) → old ≤ get_or l (double q) 0
      → pairs (set l (double q) (get_or l (double q) 0 + new - old)) ≡ set (pairs l) q (get_or (pairs l) q 0 + new - old)
  unfolding pairs
  pair_left q [] h = refl
  pair_left zero (a ∷ []) h = refl
  pair_left (suc q) (a ∷ []) h = refl
  pair_left zero (a ∷ (b ∷ l)) h = ap {B = List ℕ} (λ k. k ∷ pairs l) (omega arith)
  pair_left (suc q) (a ∷ (b ∷ l)) h = ap {B = List ℕ} (λ r. (a + b) ∷ r) (pair_left q l h)

  -- and so does a right child
  pair-right : (q : ℕ) (l : List ℕ) → suc (double q) < length l → old ≤ get_or l (suc (double q)) 0
      → pairs (set l (suc (double q)) (get_or l (suc (double q)) 0 + new - old)) ≡ set (pairs l) q (get_or (pairs l) q 0 + new - old)
  unfolding pairs
  pair-right q [] w h = refl
  pair-right q (a ∷ []) w h = absurd (omega arith)
  pair-right zero (a ∷ (b ∷ l)) w h = ap {B = List ℕ} (λ k. k ∷ pairs l) (omega arith)
  pair-right (suc q) (a ∷ (b ∷ l)) w h = ap {B = List ℕ} (λ r. (a + b) ∷ r) (pair-right q l (omega arith) h)

  -- a child changed, on the level above
  pair_set : (s : ℕ) (l : List ℕ) → s < length l → old ≤ get_or l s 0
      → pairs (set l s (get_or l s 0 + new - old)) ≡ set (pairs l) (s / 2) (get_or (pairs l) (s / 2) 0 + new - old)
  pair_set s l =
      by-halves (λ k q. k < length l → old ≤ get_or l k 0 → pairs (set l k (get_or l k 0 + new - old)) ≡ set (pairs l) q (get_or (pairs l) q 0 + new - old))
      (λ q w h. pair_left q l h) (λ q w h. pair-right q l w h) s

-- the sums of a level are changed already: the way goes on behind them
way_on : (f : ℕ → ℕ) (d : ℕ) (before mine level over : List ℕ) (q : ℕ) → length mine ≡ 2 ^ d
    → changed f (from_right d (length (before ++ mine)) q) ((before ++ mine) ++ rights_of d level) ≡ (before ++ mine) ++ rights_of d over
    → changed f (from_right d (length before + 2 ^ d) q) (before ++ (mine ++ rights_of d level)) ≡ before ++ (mine ++ rights_of d over)
way_on f d before mine level over q w up = simp (append_assoc, length-append, w) at up

-- f takes a word that holds the old mark, and no more than the most, to the word with the new one
abbrev pub Swaps : (ℕ → ℕ) → ℕ → ℕ → ℕ → Type 0
Swaps f new old most = (w : ℕ) → old ≤ w → w ≤ most → f w ≡ w + new - old

module _ (f : ℕ → ℕ) (new old most : ℕ) (swaps : Swaps f new old most) where
  -- the change of child s of a level, behind the sums before it, comes up to the root
  change-up : (d : ℕ) (before level : List ℕ) (s : ℕ) → length level ≡ 2 ^ d → s < 2 ^ d → old ≤ get_or level s 0 → sum level ≤ most
      → changed f (from_right d (length before) s) (before ++ rights_of d level)
      ≡ before ++ rights_of d (set level s (get_or level s 0 + new - old))
  unfolding changed from_right rights_of
  change-up zero before level s e h low few = refl
  change-up (suc d) before level s e h low few =
      let q = s / 2 in
      let x = get_or level s 0 + new - old in
      let over = set (pairs level) q (get_or (pairs level) q 0 + new - old) in
      let up : (mine : List ℕ) → length mine ≡ 2 ^ d
      → changed f (from_right d (length before + 2 ^ d) q) (before ++ (mine ++ rights_of d (pairs level))) ≡ before ++ (mine ++ rights_of d over) =
      λ mine w. way_on f d before mine (pairs level) over q w
      (change-up d (before ++ mine) (pairs level) q (full-pairs d level e) (omega arith) (omega (arith, child-le s level)) (omega (arith, sum-pairs level))) in
      rw (pair_set new old s level (omega arith) low)
      (by-test (eqb (s % 2) 0)
      (λ t. simp (t, left-set-at s level x (eqb-true (s % 2) 0 t)) (up (odds level) (full-odds d level e)))
      (λ t. let right = eqb-false (s % 2) 0 t in
      simp (t, right-set-at s level x right)
      (ap (changed f (from_right d (length before + 2 ^ d) q))
      (point-set f before level (rights_of d (pairs level)) s (omega (arith, full-odds d level e)) right
      ∙ ap (λ (n : ℕ). before ++ (set (odds level) q n ++ rights_of d (pairs level))) (swaps (get_or level s 0) low (omega (arith, at-le-sum level s))))
      ∙ up (set (odds level) q x) (length-set (odds level) q x ∙ full-odds d level e))))

-- as many words as before
pub changed-length : (f : ℕ → ℕ) (ps words : List ℕ) → length (changed f ps words) ≡ length words
unfolding changed
changed-length f [] words = refl
changed-length f (p ∷ ps) words = changed-length f ps (set words p (f (get_or words p 0))) ∙ length-set words p (f (get_or words p 0))

-- a word set takes the old one off the sum and puts the new one on
pub sum-swap : (l : List ℕ) (s v : ℕ) → s < length l → sum (set l s v) + get_or l s 0 ≡ sum l + v
unfolding sum
sum-swap [] s v h = absurd (omega arith)
sum-swap (a ∷ l) zero v h = omega arith
sum-swap (a ∷ l) (suc s) v h = let up = sum-swap l s v (omega arith) in omega arith

-- slot s set to v: the right-hand sums of the points reached from the right change by as much, and no other
pub rights-set : (d : ℕ) (marks : List ℕ) (s : ℕ) → length marks ≡ 2 ^ d → s < 2 ^ d → (f : ℕ → ℕ) (v most : ℕ) → Swaps f v (get_or marks s 0) most → sum marks ≤ most
    → changed f (from_right d 0 s) (rights_of d marks) ≡ rights_of d (set marks s v)
rights-set d marks s e h f v most swaps few =
    let same : get_or marks s 0 + v - get_or marks s 0 ≡ v = omega arith in
    rw same at (change-up f v (get_or marks s 0) most swaps d [] marks s e h (omega arith) few)
