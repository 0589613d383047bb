-- The order of lists of numbers by the first place where they differ, and that `share_lists` is in this order.
use mathlib.Core.Path.{◌≡◌, refl, ap₂}
use Prim.Native.Nat.{ℕ, zero, suc, ◌-◌, ◌≤◌, ◌<◌}
use native.Mathlib.Omega.{arith}
use mathlib.Core.Logic.{◌≢◌}
use mathlib.Core.List.Memᴰ
use mathlib.Core.List.{List, [], ◌∷◌, ◌++◌, map, flat_map, Memᴰ}
use mathlib.Core.Bool.{true}
use lib.Dec.{eqb, ltb}
use borrow.Author.Tests.{ltb-true, ltb-false, eqb-true, eqb-false, lt-ltb, eq-eqb}
use Rattle.reuse.specs.Lists.{from}
use Rattle.reuse.proofs.Lists.{by-test, clash}
use Rattle.split_calls.specs.Split.{not_after, share_lists}
use Rattle.split_calls.proofs.Members.{either, map-mem, flat-mem, from-range}

-- a proof by the order of two numbers
pub by_order : {G : Type 0} (x y : ℕ) → (x < y → G) → (x ≡ y → G) → (y < x → G) → G
by_order x y less same more =
    by-test (ltb x y) (λ e. less (ltb-true x y e))
    (λ e. let h : y ≤ x = ltb-false x y e in
    by-test (eqb x y) (λ q. same (eqb-true x y q)) (λ q. let ne : x ≢ y = eqb-false x y q in more (omega arith)))

-- two lists by their first numbers
module _ (x y : ℕ) (a b : List ℕ) where
  -- a smaller first number comes before
  pub before-less : x < y → not_after (x ∷ a) (y ∷ b) ≡ true
  unfolding not_after
  before-less h = simp (lt-ltb x y h)

  -- with the same first number the others decide
  pub before_same : x ≡ y → not_after a b ≡ true → not_after (x ∷ a) (y ∷ b) ≡ true
  unfolding not_after
  before_same e h = by-test (ltb x y) (λ l. simp l) (λ l. simp (l, eq-eqb x y e, h))

  -- and there is no other way
  pub before-cases : {G : Type 0} → not_after (x ∷ a) (y ∷ b) ≡ true → (x < y → G) → (x ≡ y → not_after a b ≡ true → G) → G
  unfolding not_after
  before-cases h less same =
      by-test (ltb x y) (λ l. less (ltb-true x y l))
      (λ l. by-test (eqb x y) (λ e. same (eqb-true x y e) (simp (l, e) at h)) (λ e. clash h (simp (l, e))))

-- a list is not after itself
pub before-refl : (a : List ℕ) → not_after a a ≡ true
before-refl [] = unfold not_after in refl
before-refl (x ∷ a) = before_same x x a a refl (before-refl a)

-- nor after what comes after a later one
pub before-trans : (a b c : List ℕ) → not_after a b ≡ true → not_after b c ≡ true → not_after a c ≡ true
before-trans [] b c h k = unfold not_after in refl
before-trans (x ∷ a) [] c h k = clash h (unfold not_after in refl)
before-trans (x ∷ a) (y ∷ b) [] h k = clash k (unfold not_after in refl)
before-trans (x ∷ a) (y ∷ b) (z ∷ c) h k =
    before-cases x y a b h
    (λ l. before-cases y z b c k (λ g. before-less x z a c (omega arith)) (λ g r. before-less x z a c (omega arith)))
    (λ e i. before-cases y z b c k (λ g. before-less x z a c (omega arith)) (λ g r. before_same x z a c (omega arith) (before-trans a b c i r)))

-- two lists of which neither is after the other are the same
pub before-same-list : (a b : List ℕ) → not_after a b ≡ true → not_after b a ≡ true → a ≡ b
before-same-list [] [] h k = refl
before-same-list [] (y ∷ b) h k = clash k (unfold not_after in refl)
before-same-list (x ∷ a) [] h k = clash h (unfold not_after in refl)
before-same-list (x ∷ a) (y ∷ b) h k =
    before-cases x y a b h (λ l. before-cases y x b a k (λ g. absurd (omega arith)) (λ g r. absurd (omega arith)))
    (λ e i. before-cases y x b a k (λ g. absurd (omega arith)) (λ g r. ap₂ (λ (z : ℕ) (l : List ℕ). z ∷ l) e (before-same-list a b i r)))

-- each list is before those that follow it
abbrev pub Ordered : List (List ℕ) → Type 0
Ordered [] = Unit {0}
Ordered (a ∷ l) = ((x : List ℕ) → Memᴰ x l → not_after a x ≡ true) × Ordered l

-- so of two runs of lists end to end, where those of the first come before those of the second
ordered-append : (l m : List (List ℕ)) → Ordered l → Ordered m
    → ((x y : List ℕ) → Memᴰ x l → Memᴰ y m → not_after x y ≡ true) → Ordered (l ++ m)
ordered-append [] m p q h = q
ordered-append (a ∷ l) m p q h = (
  λ x n. either (Memᴰ.append_cases l n) (p.0 x) (h a x (Memᴰ.head refl)),
  ordered-append l m p.1 q (λ x y n k. h x y (Memᴰ.tail n) k),
)

-- and of lists with one more number in front of each
ordered-map : (s : ℕ) (l : List (List ℕ)) → Ordered l → Ordered (map (λ r. s ∷ r) l)
ordered-map s [] p = tt
ordered-map s (a ∷ l) p = (
  λ x n. let (r, m, e) = map-mem (λ r. s ∷ r) l n in rw e (before_same s s a r refl (p.0 r m)),
  ordered-map s l p.1,
)

-- and of such lists for each first number of a run
ordered-flat : (g : ℕ → List (List ℕ)) → ((s : ℕ) → Ordered (g s)) → (k n : ℕ) → Ordered (flat_map (λ s. map (λ r. s ∷ r) (g s)) (from k n))
unfolding flat_map from
ordered-flat g o k zero = tt
ordered-flat g o k (suc n) =
    ordered-append (map (λ r. k ∷ r) (g k)) (flat_map (λ s. map (λ r. s ∷ r) (g s)) (from (suc k) n)) (ordered-map k (g k) (o k)) (ordered-flat g o (suc k) n)
    (λ x y m q.
    let (r, i, e) = map-mem (λ r. k ∷ r) (g k) m in
    let (s, j, w) = flat-mem (λ s. map (λ r. s ∷ r) (g s)) (from (suc k) n) q in
    let (t, z, u) = map-mem (λ r. s ∷ r) (g s) w in
    rw (e, u) (before-less k s r t (from-range (suc k) n s j).0))

-- the shares that may be given are listed in this order
pub shares-ordered : (leasts : List ℕ) (room : ℕ) → Ordered (share_lists leasts room)
unfolding share_lists
shares-ordered [] room = (λ x m. absurd (Memᴰ.not-nil m), tt)
shares-ordered (least ∷ leasts) room =
    ordered-flat (λ s. share_lists leasts (room - s)) (λ s. shares-ordered leasts (room - s)) least (suc room - least)
