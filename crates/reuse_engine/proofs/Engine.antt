-- What the engine's answer tells, and what it leaves of a stack with no extent twice.
use mathlib.Core.Path.{◌≡◌, refl, sym, ap, ◌∙◌}
use Prim.Native.Nat.{ℕ, zero, suc, ◌+◌, ◌-◌, ◌≤◌, ◌<◌}
use native.Mathlib.Omega.{arith}
use mathlib.Core.List.{List, [], ◌∷◌, ◌++◌}
use mathlib.Core.Bool.{Bool, true, false, cond}
use lib.Dec.{eqb, leb, ltb}
use lib.ListN.{length, take, drop, length-append, length-drop}
use lib.Seq.{length-take-le, take_at, take-nil, drop-append-add, drop-drop}
use borrow.Author.Tests.{eqb-true, ltb-true, ltb-false, leb-false}
use Rattle.reuse_engine.specs.declared.Place.{Place}
use Rattle.reuse_engine.specs.declared.Place.TheVariants.{Cold, Depth, Full, BadCount}
use Rattle.reuse.specs.Lists.{mem, remove, distinct}
use Rattle.reuse.specs.Lru.{Reuse, cold, at, deeper, depth, touch, is_cold}
use Rattle.reuse_engine.specs.Engine.{place_at, place_of, lifted, left_by, held_after}
use Rattle.reuse.proofs.Lists.{by-test, remove_absent}
use Rattle.reuse.proofs.Distinct.{distinct_head, distinct_tail}
use Rattle.reuse.proofs.Depth.{depth-absent, cold-absent, depth-within}

-- a depth, where the answer is one
from-depth : (d : ℕ) (b c : Bool) (r : Reuse) → cond b (place_at r c) BadCount ≡ Depth d → r ≡ at d
from-depth d true c (at e) h = cc
from-depth d true true (cold k) h = cc
from-depth d true false (cold k) h = cc
from-depth d false c r h = cc

-- no place, and room
from-cold : (b c : Bool) (r : Reuse) → cond b (place_at r c) BadCount ≡ Cold → (c ≡ true) × (is_cold r ≡ true)
from-cold true c (at e) h = (cc, cc)
from-cold true true (cold k) h = (refl, refl)
from-cold true false (cold k) h = (cc, refl)
from-cold false c r h = (cc, cc)

-- no place, and no room
from-full : (b c : Bool) (r : Reuse) → cond b (place_at r c) BadCount ≡ Full → (c ≡ false) × (is_cold r ≡ true)
from-full true c (at e) h = (cc, cc)
from-full true true (cold k) h = (cc, refl)
from-full true false (cold k) h = (refl, refl)
from-full false c r h = (cc, cc)

-- too few words
from-bad : (b c : Bool) (r : Reuse) → cond b (place_at r c) BadCount ≡ BadCount → b ≡ false
from-bad true c (at e) h = cc
from-bad true true (cold k) h = cc
from-bad true false (cold k) h = cc
from-bad false c r h = refl

-- one place less deep
undeep : (r : Reuse) (k : ℕ) → deeper r ≡ at (suc k) → r ≡ at k
undeep (cold n) k h = cc
undeep (at e) k h = cc

-- a member's depth leaves out its one place
cut-remove : (x : ℕ) (s : List ℕ) (k : ℕ) → distinct s ≡ true → depth s x ≡ at (suc k) → take k s ++ drop (suc k) s ≡ remove x s
unfolding depth remove
cut-remove x [] k d h = cc
cut-remove x (y ∷ s) zero d h =
    by-test (eqb x y)
    (λ e. simp e (sym (remove_absent x s (rw (eqb-true x y e) (distinct_head y s d)))))
    (λ e. let g : deeper (depth s x) ≡ at 1 = simp e at h in absurd (omega (arith, (depth-within x s 0 (undeep (depth s x) 0 g)).0)))
cut-remove x (y ∷ s) (suc k) d h =
    by-test (eqb x y)
    (λ e. let g : at 1 ≡ at (suc (suc k)) = simp e at h in let z : ◌≡◌ {A = ℕ} 0 (suc k) = cc in absurd (omega arith))
    (λ e. let g : deeper (depth s x) ≡ at (suc (suc k)) = simp e at h in
    simp e (ap {B = List ℕ} (λ r. y ∷ r) (cut-remove x s k (distinct_tail y s d) (undeep (depth s x) (suc k) g))))

-- to cut, and then to take
take-cut : (k m : ℕ) (a : List ℕ) → k ≤ m → take m (take k a ++ drop (suc k) a) ≡ take k (take (suc m) a) ++ drop (suc k) (take (suc m) a)
take-cut zero m [] l = take-nil m
take-cut zero m (y ∷ a) l = refl
take-cut (suc k) zero a l = absurd (omega arith)
take-cut (suc k) (suc m) [] l = refl
take-cut (suc k) (suc m) (y ∷ a) l = ap {B = List ℕ} (λ r. y ∷ r) (take-cut k m a (omega arith))

-- an extent that is held comes to the top
known-top : (a : List ℕ) (x d n : ℕ) → depth (take n a) x ≡ at d → (1 ≤ d) × (d ≤ n) → distinct (take n a) ≡ true → take n (lifted d x a) ≡ touch (take n a) x
unfolding lifted touch
known-top a x zero n e r u = absurd (omega (arith, r.0))
known-top a x (suc k) zero e r u = absurd (omega (arith, r.1))
known-top a x (suc k) (suc m) e r u =
    ap {B = List ℕ} (λ l. x ∷ l) (take-cut k m a (omega (arith, r.1)) ∙ cut-remove x (take (suc m) a) k u e)

-- the words keep their number
pub lifted-length : (d x : ℕ) (a : List ℕ) → d ≤ length a → length (lifted d x a) ≡ length a
unfolding lifted
lifted-length d x a l = simp (length-append, length-drop, length-take-le d (x ∷ a) (omega arith)) (omega arith)

-- words from place d on are untouched
pub lifted-rest : (d x : ℕ) (a : List ℕ) (m : ℕ) → d ≤ m → d ≤ length a → drop m (lifted d x a) ≡ drop m a
unfolding lifted
lifted-rest d x a m l w =
    let t : length (take d (x ∷ a)) ≡ d = length-take-le d (x ∷ a) (omega arith) in
    let e : m ≡ length (take d (x ∷ a)) + (m - d) = omega arith in
    let g : m ≡ d + (m - d) = omega arith in
    ap (λ (k : ℕ). drop k (take d (x ∷ a) ++ drop d a)) e
    ∙ drop-append-add (take d (x ∷ a)) (drop d a) (m - d)
    ∙ drop-drop (m - d) d a
    ∙ ap (λ (k : ℕ). drop k a) (sym g)

-- x was brought to the top of the stack in the first n words, by the answer r
pub record Touched (a : List ℕ) (n x : ℕ) (r : Place) : Type 0 where
  -- no word more or less
  pub size : length (left_by r n x a) ≡ length a
  -- the front is the stack touched
  pub front : take (held_after r n) (left_by r n x a) ≡ touch (take n a) x
  -- the words past it are untouched
  pub rest : drop (held_after r n) (left_by r n x a) ≡ drop (held_after r n) a

module _ (a : List ℕ) (n x : ℕ) where
  -- a depth is at least 1, whatever the count
  pub depth-from : (d : ℕ) → place_of a n x ≡ Depth d → 1 ≤ d
  unfolding place_of
  depth-from d h = (depth-within x (take n a) d (from-depth d (leb n (length a)) (ltb n (length a)) (depth (take n a) x) h)).0

  -- a new extent finds room
  pub cold-room : place_of a n x ≡ Cold → n < length a
  unfolding place_of
  cold-room h = ltb-true n (length a) (from-cold (leb n (length a)) (ltb n (length a)) (depth (take n a) x) h).0

module _ (a : List ℕ) (n x : ℕ) (fits : n ≤ length a) where
  -- an extent that is held
  module _ (d : ℕ) (h : place_of a n x ≡ Depth d) where
    -- the answer is its depth
    pub place-depth : depth (take n a) x ≡ at d
    unfolding place_of
    place-depth = from-depth d (leb n (length a)) (ltb n (length a)) (depth (take n a) x) h

    -- which is one of the stack's places
    pub place-range : (1 ≤ d) × (d ≤ n)
    place-range =
        let r = depth-within x (take n a) d place-depth in
        (r.0, omega (arith, r.1, length-take-le n a fits))

    -- it comes to the top of a stack with no extent twice
    pub touched-known : distinct (take n a) ≡ true → Touched a n x (Depth d)
    touched-known u = record {
      size = lifted-length d x a (omega (arith, place-range));
      front = known-top a x d n place-depth place-range u;
      rest = lifted-rest d x a n (omega (arith, place-range)) (omega (arith, place-range));
    }

  -- an extent that is not held, and room for it
  module _ (h : place_of a n x ≡ Cold) where
    -- the stack does not have it
    pub place-new : mem x (take n a) ≡ false
    unfolding place_of
    place-new = cold-absent x (take n a) (from-cold (leb n (length a)) (ltb n (length a)) (depth (take n a) x) h).1

    -- it is cold, with one more than the n extents held
    pub place-cold : depth (take n a) x ≡ cold (suc n)
    place-cold = depth-absent x (take n a) place-new ∙ ap (λ (k : ℕ). cold (suc k)) (length-take-le n a fits)

    -- there is room
    pub place-room : n < length a
    place-room = cold-room a n x h

    -- it comes to the top, above the others
    pub touched-new : Touched a n x Cold
    touched-new = record {
      size = lifted-length (suc n) x a (omega (arith, place-room));
      front = unfold lifted touch in
          ap {B = List ℕ} (λ l. x ∷ l)
          (take_at (take n a) (drop (suc n) a) n (length-take-le n a fits) ∙ sym (remove_absent x (take n a) place-new));
      rest = lifted-rest (suc n) x a (suc n) (omega arith) (omega (arith, place-room));
    }

  -- an extent that is not held, and no room for it
  pub place-full : place_of a n x ≡ Full → (length a ≤ n) × (mem x (take n a) ≡ false)
  unfolding place_of
  place-full h =
      let r = from-full (leb n (length a)) (ltb n (length a)) (depth (take n a) x) h in
      (ltb-false n (length a) r.0, cold-absent x (take n a) r.1)

  -- the count is no larger than the slice
  pub place-counts : place_of a n x ≡ BadCount → ⊥
  unfolding place_of
  place-counts h = let l : length a < n = leb-false n (length a) (from-bad (leb n (length a)) (ltb n (length a)) (depth (take n a) x) h) in omega arith

  -- of a stack with no extent twice that is not full, the front is `touch` of it, and all words past it are untouched
  pub touch-law : distinct (take n a) ≡ true → (place_of a n x ≡ Full → ⊥) → Touched a n x (place_of a n x)
  touch-law u room = by_answer (place_of a n x) refl
    where
      -- by each of its cases
      by_answer : (r : Place) → place_of a n x ≡ r → Touched a n x r
      by_answer Cold e = touched-new e
      by_answer (Depth d) e = touched-known d e u
      by_answer Full e = absurd (room e)
      by_answer BadCount e = absurd (place-counts e)
