-- The cache of one size holds the top of the LRU stack.
use mathlib.Core.Path.{◌≡◌, refl, sym, ap, ap₂, ◌∙◌}
use Prim.Native.Nat.{ℕ, zero, suc, ◌≤◌, ◌<◌, min}
use native.Mathlib.Omega.{arith}
use mathlib.Core.List.{List, [], ◌∷◌, ◌++◌, map, append-nil, append_assoc}
use mathlib.Core.Bool.{Bool, true, false, ◌||◌, or-true, or-false, and-false}
use lib.Dec.{eqb, ltb, leb-suc-suc, leb-zero, leb-suc-zero}
use lib.ListN.{length, take, get_or, length-take}
use lib.Seq.{take_all, take-suc, take-take, split_at, take-nil}
use borrow.Author.Tests.{eqb-true, ltb-true, ltb-false}
use Rattle.reuse.specs.Lists.{mem, remove, before, distinct, outside, firsts}
use Rattle.reuse.specs.Lru.{Reuse, cold, at, deeper, depth, touch, stack, reuses, distance, within}
use Rattle.reuse.specs.Cache.{last_read, oldest, evict, admit, hits, holds, cache_hits, cache_after}
use Rattle.reuse.proofs.Lists.{by-test, clash, mem-tail, eqb_same, mem-append, mem-remove, remove_absent}
use Rattle.reuse.proofs.Distinct.{distinct_head, distinct_tail, distinct_cons, distinct_remove, distinct-middle}
use Rattle.reuse.proofs.Stack.{stack-cons, stack_snoc, mem-stack, length-stack, distinct_stack}
use Rattle.reuse.proofs.Depth.{before-append, before-mem, distance-law}
use Rattle.reuse.proofs.Sizes.{same_size}

-- a distance is within c where the extent is among the top c of the stack
pub within-depth : (c : ℕ) (s : List ℕ) (x : ℕ) → within c (depth s x) ≡ mem x (take c s)
unfolding depth mem
within-depth zero [] x = refl
within-depth (suc c) [] x = refl
within-depth zero (y ∷ s) x = by-test (eqb x y) (λ e. simp e) (λ e. simp e (none (depth s x)))
  where
    -- no deeper answer is within 0
    none : (r : Reuse) → within 0 (deeper r) ≡ false
    none (cold n) = refl
    none (at d) = leb-suc-zero d
within-depth (suc c) (y ∷ s) x =
    by-test (eqb x y) (λ e. simp e (leb-suc-suc 0 c ∙ leb-zero c)) (λ e. simp e (less (depth s x) ∙ within-depth c s x))
  where
    -- one place deeper, one size larger
    less : (r : Reuse) → within (suc c) (deeper r) ≡ within c r
    less (cold n) = refl
    less (at d) = leb-suc-suc d c

-- a member was read
pub last_read-pos : (t : List ℕ) (x : ℕ) → mem x t ≡ true → 1 ≤ last_read t x
unfolding last_read mem
last_read-pos [] x h = clash h refl
last_read-pos (y ∷ t) x h =
    by-test (mem x t) (λ m. simp m (omega arith))
    (λ m. by-test (eqb x y) (λ e. simp (m, e) (omega arith)) (λ e. clash h (simp (e, m))))

-- a first read that does not come again lies under all others
pub before_last : (x : ℕ) (t : List ℕ) → mem x t ≡ false → before x (stack (x ∷ t)) ≡ stack t
unfolding outside before
before_last x t m = simp (stack-cons, before-append, mem-stack, m, eqb_same, append-nil)

-- what lies above y in the stack was read after y
pub above-later : (t : List ℕ) (y z : ℕ) → mem y t ≡ true → mem z (before y (stack t)) ≡ true → last_read t y < last_read t z
unfolding last_read mem
above-later [] y z h k = clash h refl
above-later (x ∷ t) y z h k =
    by-test (mem y t)
    (λ m. let b : mem z (before y (stack t)) ≡ true = simp (stack-cons, before-append, mem-stack, m) at k in
    let n : mem z t ≡ true = sym (mem-stack z t) ∙ before-mem y z (stack t) b in
    let i : last_read t y < last_read t z = above-later t y z m b in
    simp (m, n) (omega arith))
    (λ m. by-test (eqb y x)
    (λ e. let q : y ≡ x = eqb-true y x e in
    let n : mem z t ≡ true = sym (mem-stack z t) ∙ rw (before_last x t (rw q at m)) at (rw q at k) in
    let i : 1 ≤ last_read t z = last_read-pos t z n in
    simp (m, n, e) (omega arith))
    (λ e. clash h (simp (e, m))))

-- a member of a list is one of a longer list
pub mem-skip : (z x y : ℕ) (s : List ℕ) → mem z (x ∷ s) ≡ true → mem z (x ∷ y ∷ s) ≡ true
unfolding mem
mem-skip z x y s h = by-test (eqb z x) (λ e. simp e) (λ e. simp e (mem-tail z y s (simp e at h)))

-- the oldest is in the list
pub oldest-mem : (t : List ℕ) (x : ℕ) (xs : List ℕ) → mem (oldest t x xs) (x ∷ xs) ≡ true
unfolding oldest
oldest-mem t x [] = unfold mem in simp eqb_same
oldest-mem t x (y ∷ ys) =
    by-test (ltb (last_read t x) (last_read t y))
    (λ l. rw l (mem-skip (oldest t x ys) x y ys (oldest-mem t x ys)))
    (λ l. rw l (mem-tail (oldest t y ys) x (y ∷ ys) (oldest-mem t y ys)))

-- no member of the list was read before its oldest
pub oldest-least : (t : List ℕ) (x : ℕ) (xs : List ℕ) (z : ℕ) → mem z (x ∷ xs) ≡ true → last_read t (oldest t x xs) ≤ last_read t z
unfolding oldest mem
oldest-least t x [] z h = by-test (eqb z x) (λ e. rw (eqb-true z x e) (omega arith)) (λ e. clash h (simp e))
oldest-least t x (y ∷ ys) z h =
    by-test (ltb (last_read t x) (last_read t y))
    (λ l. let i : last_read t (oldest t x ys) ≤ last_read t x = oldest-least t x ys x (simp eqb_same) in
    rw l (by-test (eqb z y)
    (λ e. rw (eqb-true z y e) (omega (arith, ltb-true)))
    (λ e. oldest-least t x ys z (simp e at h))))
    (λ l. let i : last_read t (oldest t y ys) ≤ last_read t y = oldest-least t y ys y (simp eqb_same) in
    rw l (by-test (eqb z x)
    (λ e. rw (eqb-true z x e) (omega (arith, ltb-false)))
    (λ e. oldest-least t y ys z (simp e at h))))

-- what is not in a list is not in its top
pub mem-take : (n : ℕ) (s : List ℕ) (x : ℕ) → mem x s ≡ false → mem x (take n s) ≡ false
unfolding mem
mem-take zero s x h = refl
mem-take (suc n) [] x h = refl
mem-take (suc n) (y ∷ s) x h = by-test (eqb x y) (λ e. clash (simp e) h) (λ e. simp (e, mem-take n s x (simp e at h)))

-- the top of a distinct list is distinct
pub distinct-take : (n : ℕ) (s : List ℕ) → distinct s ≡ true → distinct (take n s) ≡ true
distinct-take zero s d = unfold distinct in refl
distinct-take (suc n) [] d = d
distinct-take (suc n) (x ∷ s) d = distinct_cons x (take n s) (mem-take n s x (distinct_head x s d)) (distinct-take n s (distinct_tail x s d))

-- the top of the stack after a read of what is in it, or not
pub take-known : (k : ℕ) (s : List ℕ) (x : ℕ) → distinct s ≡ true → mem x (take (suc k) s) ≡ true → take k (remove x s) ≡ remove x (take (suc k) s)
unfolding remove mem
take-known k [] x d h = clash h refl
take-known zero (y ∷ s) x d h = by-test (eqb x y) (λ e. simp e) (λ e. clash h (simp e))
take-known (suc k) (y ∷ s) x d h =
    by-test (eqb x y)
    (λ e. let n : mem x s ≡ false = rw (eqb-true x y e) (distinct_head y s d) in
    simp e (rw (remove_absent x s n, remove_absent x (take (suc k) s) (mem-take (suc k) s x n))))
    (λ e. simp e (ap (λ (r : List ℕ). y ∷ r) (take-known k s x (distinct_tail y s d) (simp e at h))))

-- a read of what is not in the top pushes its last out
pub take-new : (k : ℕ) (s : List ℕ) (x : ℕ) → mem x (take (suc k) s) ≡ false → take k (remove x s) ≡ take k s
unfolding remove mem
take-new zero s x h = refl
take-new (suc k) [] x h = refl
take-new (suc k) (y ∷ s) x h =
    by-test (eqb x y) (λ e. clash (simp e) h) (λ e. simp (e, take-new k s x (simp e at h)))

-- the last of the top of a stack
module _ (k : ℕ) (s : List ℕ) (d : distinct s ≡ true) (l : k < length s) where
  -- it stands there once
  pub last-new : mem (get_or s k 0) (take k s) ≡ false
  last-new = distinct-middle (take k s) [] (get_or s k 0) (rw (take-suc s k 0 l) at (distinct-take (suc k) s d))

  -- all others of the top are before it
  pub last-before : before (get_or s k 0) s ≡ take k s
  unfolding before
  last-before = ap (before (get_or s k 0)) (split_at s k 0 l) ∙ simp (before-append, last-new, eqb_same, append-nil)

  -- the top is what is before it, and itself
  pub mem-top : (z : ℕ) → mem z (take (suc k) s) ≡ mem z (take k s) || eqb z (get_or s k 0)
  unfolding mem
  mem-top z = rw (take-suc s k 0 l) (simp (mem-append, or-false))

  -- it is in the top
  pub last_mem : mem (get_or s k 0) (take (suc k) s) ≡ true
  last_mem = mem-top (get_or s k 0) ∙ simp (eqb_same, or-true)

-- of a full cache the oldest is the last of the top
module _ (k : ℕ) (t : List ℕ) (l : k < length (stack t)) where
  -- the oldest of what is held
  pub oldest-last : (x : ℕ) (xs : List ℕ) → ((z : ℕ) → mem z (x ∷ xs) ≡ mem z (take (suc k) (stack t)))
      → oldest t x xs ≡ get_or (stack t) k 0
  oldest-last x xs h =
      let s : List ℕ = stack t in
      let y : ℕ = get_or s k 0 in
      let o : ℕ = oldest t x xs in
      let d : distinct s ≡ true = distinct_stack t in
      let i : last_read t o ≤ last_read t y = oldest-least t x xs y (h y ∙ last_mem k s d l) in
      by-test (eqb o y) (λ e. eqb-true o y e)
      (λ e. let m : mem o (take k s) ≡ true = by-test (mem o (take k s)) (λ a. a)
      (λ a. clash (oldest-mem t x xs) (h o ∙ mem-top k s d l o ∙ simp (a, e))) in
      let n : mem y s ≡ true = by-test (mem y s) (λ a. a) (λ a. clash (last_mem k s d l) (mem-take (suc k) s y a)) in
      let j : last_read t y < last_read t o = above-later t y o (sym (mem-stack y t) ∙ n) (rw (last-before k s d l) m) in
      absurd (omega arith))

  -- what is held after it left
  pub evict-same : (held : List ℕ) → ((z : ℕ) → mem z held ≡ mem z (take (suc k) (stack t)))
      → (z : ℕ) → mem z (evict t held) ≡ mem z (take k (stack t))
  unfolding evict
  evict-same [] h z = clash (h (get_or (stack t) k 0) ∙ last_mem k (stack t) (distinct_stack t) l) (unfold mem in refl)
  evict-same (x ∷ xs) h z =
      rw (oldest-last x xs h, mem-remove, h z, mem-top k (stack t) (distinct_stack t) l z)
      (by-test (eqb z (get_or (stack t) k 0))
      (λ e. simp e (rw (eqb-true z (get_or (stack t) k 0) e) (sym (last-new k (stack t) (distinct_stack t) l))))
      (λ e. simp e (by-test (mem z (take k (stack t))) (λ a. simp a) (λ a. simp a))))

-- eviction makes no repeats
pub distinct-evict : (t held : List ℕ) → distinct held ≡ true → distinct (evict t held) ≡ true
unfolding evict
distinct-evict t [] d = d
distinct-evict t (x ∷ xs) d = distinct_remove (oldest t x xs) (x ∷ xs) d

-- eviction brings nothing in
pub mem-evict : (t held : List ℕ) (z : ℕ) → mem z held ≡ false → mem z (evict t held) ≡ false
unfolding evict
mem-evict t [] z h = h
mem-evict t (x ∷ xs) z h = simp (mem-remove, h, and-false)

-- a read leaves no extent twice in the cache
pub admit-distinct : (c : ℕ) (t held : List ℕ) (x : ℕ) → distinct held ≡ true → distinct (admit c t held x) ≡ true
unfolding admit
admit-distinct zero t held x d = unfold distinct in refl
admit-distinct (suc c) t held x d =
    by-test (mem x held) (λ m. simp (m, d))
    (λ m. by-test (ltb (length held) (suc c))
    (λ l. simp (m, l) (distinct_cons x held m d))
    (λ l. simp (m, l) (distinct_cons x (evict t held) (mem-evict t held x m) (distinct-evict t held d))))

-- after a read the cache holds the top of the new stack
pub admit-same : (c : ℕ) (t held : List ℕ) (x : ℕ) → distinct held ≡ true → ((z : ℕ) → mem z held ≡ mem z (take c (stack t)))
    → (z : ℕ) → mem z (admit c t held x) ≡ mem z (take c (touch (stack t) x))
unfolding admit touch mem
admit-same zero t held x d h z = refl
admit-same (suc k) t held x d h z =
    let s : List ℕ = stack t in
    let n : length held ≡ length (take (suc k) s) = same_size held (take (suc k) s) d (distinct-take (suc k) s (distinct_stack t)) h in
    by-test (mem x held)
    (λ m. simp m (rw (take-known k s x (distinct_stack t) (sym (h x) ∙ m), mem-remove z x (take (suc k) s))
    (by-test (eqb z x) (λ e. simp e (rw (eqb-true z x e) m)) (λ e. simp e (h z)))))
    (λ m. rw (take-new k s x (sym (h x) ∙ m))
    (by-test (ltb (length held) (suc k))
    (λ l. let short : length s ≤ k = omega (arith, ltb-true (length held) (suc k) l, length-take (suc k) s) in
    let i : mem z held ≡ mem z (take k s) = rw (take_all k s short) (rw (take_all (suc k) s (omega arith)) at (h z)) in
    simp (m, l) (ap (λ (b : Bool). eqb z x || b) i))
    (λ l. let long : k < length s = omega (arith, ltb-false (length held) (suc k) l, length-take (suc k) s) in
    simp (m, l) (ap (λ (b : Bool). eqb z x || b) (evict-same k t long held h z)))))

-- from the reads t on, with the top of their stack held
module _ (c : ℕ) where
  -- the hits are the distances within the size
  pub hits-from : (t held xs : List ℕ) → distinct held ≡ true → ((z : ℕ) → mem z held ≡ mem z (take c (stack t)))
      → hits c t held xs ≡ map (within c) (reuses (stack t) xs)
  unfolding hits reuses
  hits-from t held [] d h = refl
  hits-from t held (x ∷ xs) d h =
      ap₂ (λ (b : Bool) (bs : List Bool). b ∷ bs) (h x ∙ sym (within-depth c (stack t) x))
      (rw (stack_snoc t x) at (hits-from (t ++ (x ∷ [])) (admit c t held x) xs (admit-distinct c t held x d)
      (λ z. rw (stack_snoc t x) (admit-same c t held x d h z))))

  -- what is held in the end is the top of the last stack
  pub holds-from : (t held xs : List ℕ) → distinct held ≡ true → ((z : ℕ) → mem z held ≡ mem z (take c (stack t)))
      → (distinct (holds c t held xs) ≡ true) × ((z : ℕ) → mem z (holds c t held xs) ≡ mem z (take c (stack (t ++ xs))))
  unfolding holds
  holds-from t held [] d h = (d, λ z. rw (append-nil t) (h z))
  holds-from t held (x ∷ xs) d h =
      simp append_assoc at (holds-from (t ++ (x ∷ [])) (admit c t held x) xs (admit-distinct c t held x d)
      (λ z. rw (stack_snoc t x) (admit-same c t held x d h z)))

-- a read hits in the cache of a size exactly where its distance is at most the size
pub cache-law : (c : ℕ) (t : List ℕ) → cache_hits c t ≡ map (within c) (reuses [] t)
unfolding cache_hits stack distinct
cache-law c t = hits-from c [] [] t refl (λ z. ap (mem z) (sym (take-nil c)))

-- the cache and the stack after a trace
module _ (c : ℕ) (t : List ℕ) where
  -- the cache holds no extent twice, and holds the top c of the stack
  cache-held : (distinct (cache_after c t) ≡ true) × ((x : ℕ) → mem x (cache_after c t) ≡ mem x (take c (stack t)))
  unfolding cache_after stack distinct
  cache-held = holds-from c [] [] t refl (λ z. ap (mem z) (sym (take-nil c)))

  -- the cache holds the top c of the stack
  pub cache-top : (x : ℕ) → mem x (cache_after c t) ≡ mem x (take c (stack t))
  cache-top = cache-held.1

  -- it holds min (C, V) extents (001, 1.3): never more than its size
  pub cache-size : length (cache_after c t) ≡ min c (length (firsts t))
  cache-size =
      same_size (cache_after c t) (take c (stack t)) cache-held.0 (distinct-take c (stack t) (distinct_stack t)) cache-top
      ∙ simp (length-take, length-stack)

-- after a trace, the cache of size c holds x exactly where a read of x has a distance of at most c
pub cache-read : (c : ℕ) (t : List ℕ) (x : ℕ) → mem x (cache_after c t) ≡ within c (distance t x)
cache-read c t x = cache-top c t x ∙ sym (within-depth c (stack t) x) ∙ ap (within c) (distance-law t x)

-- a larger cache holds what a smaller one holds
pub cache-inclusion : (b c : ℕ) (t : List ℕ) (x : ℕ) → b ≤ c → mem x (cache_after b t) ≡ true → mem x (cache_after c t) ≡ true
cache-inclusion b c t x l h =
    cache-top c t x
    ∙ by-test (mem x (take c (stack t))) (λ m. m)
    (λ m. clash h (cache-top b t x ∙ rw (← take-take b c (stack t) l) (mem-take b (take c (stack t)) x m)))
