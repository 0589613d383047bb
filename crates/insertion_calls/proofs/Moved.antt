-- Two stacks that differ in the place of one extent: a ++ b, and the same with x moved up to stand under a.
-- They stay so while other extents are read, a then being those read since, and agree from the next read of x on.
use mathlib.Core.Path.{◌≡◌, refl}
use Prim.Native.Nat.{ℕ, suc, ◌+◌, ◌-◌, ◌≤◌}
use native.Mathlib.Omega.{arith}
use mathlib.Core.List.{List, [], ◌∷◌, ◌++◌}
use mathlib.Core.Bool.{true, false, or-true, or-false}
use lib.Dec.{eqb, leb}
use lib.ListN.{length, length-append}
use borrow.Author.Tests.{eqb-true, leb-true, le-leb}
use Rattle.reuse.specs.Lists.{mem, remove, before, distinct}
use Rattle.reuse.specs.Lru.{touch}
use Rattle.reuse.proofs.Lists.{by-test, eqb_same, mem-append, mem-remove, remove-outside, remove_absent, outside-append}
use Rattle.reuse.proofs.Distinct.{distinct_remove, length-remove}
use Rattle.reuse.proofs.Stack.{distinct-touch, length-known, length-new}
use Rattle.reuse.proofs.Depth.{depth-present, depth-absent, depth-top, depth-under, before-append, before-outside, distinct-before}
use Rattle.insertion_calls.specs.Misses.{miss_of, misses_from, misses_with}
use Rattle.insertion_calls.proofs.Steps.{misses-step, misses-none, miss-one}

-- to remove from two lists end to end
pub remove-append : (y : ℕ) (a b : List ℕ) → remove y (a ++ b) ≡ remove y a ++ remove y b
remove-append y a b = simp (remove-outside, outside-append)

-- two removals, in either order
remove-swap : (x y : ℕ) (s : List ℕ) → remove y (remove x s) ≡ remove x (remove y s)
unfolding remove
remove-swap x y [] = refl
remove-swap x y (z ∷ s) =
    by-test (eqb x z)
    (λ e. by-test (eqb y z) (λ f. simp (e, f, remove-swap x y s)) (λ f. simp (e, f, remove-swap x y s)))
    (λ e. by-test (eqb y z) (λ f. simp (e, f, remove-swap x y s)) (λ f. simp (e, f, remove-swap x y s)))

-- a removal takes at most one from a distinct list
remove-most : (x : ℕ) (s : List ℕ) → distinct s ≡ true → length s ≤ suc (length (remove x s))
remove-most x s d =
    by-test (mem x s) (λ m. omega (arith, length-remove x s d m)) (λ m. rw (remove_absent x s m) (omega arith))

-- where y stands no deeper in s than in r, a read of it from s on misses no more often
miss-least : (c : ℕ) (s r : List ℕ) (y : ℕ) → (mem y r ≡ true → (mem y s ≡ true) × (length (before y s) ≤ length (before y r)))
    → miss_of c s y ≤ miss_of c r y
unfolding miss_of
miss-least c s r y h =
    by-test (mem y r)
    (λ m. let n : mem y s ≡ true = (h m).0 in
    let l : length (before y s) ≤ length (before y r) = (h m).1 in
    rw (depth-present y r m)
    (by-test (leb (suc (length (before y r))) c)
    (λ e. rw (e, depth-present y s n, le-leb (suc (length (before y s))) c (omega (arith, leb-true (suc (length (before y r))) c e)))
    (omega arith))
    (λ e. rw e (miss-one c s y))))
    (λ m. rw (depth-absent y r m) (miss-one c s y))

-- the two stacks
module _ (x : ℕ) (a b : List ℕ) where
  -- the stack without the additional read
  abbrev plain : List ℕ
  plain = a ++ b

  -- the one with it
  abbrev moved : List ℕ
  moved = a ++ (x ∷ remove x b)

  -- x itself misses no more often
  moved-self : (c : ℕ) → miss_of c moved x ≤ miss_of c plain x
  unfolding mem before
  moved-self c =
      miss-least c moved plain x
      (λ m. by-test (mem x a)
      (λ e. (simp (mem-append, e), simp (before-append, e) (omega arith)))
      (λ e. (simp (mem-append, eqb_same, or-true), simp (before-append, e, eqb_same, length-append) (omega arith))))

  -- any other extent misses no less often
  moved_other : (c y : ℕ) → distinct b ≡ true → eqb y x ≡ false → miss_of c plain y ≤ miss_of c moved y
  unfolding mem before
  moved_other c y d o =
      miss-least c plain moved y
      (λ m. (
        simp mem-append (simp (mem-append, mem-remove, o) at m),
        by-test (mem y a)
            (λ e. simp (before-append, e) (omega arith))
            (λ e. simp (before-append, e, o, length-append) (omega (arith, above))),
      ))
    where
      -- what stands above y under a: at most x is missing
      above : length (before y b) ≤ suc (length (before y (remove x b)))
      above =
          rw (remove-outside x b, before-outside y (x ∷ []) b (simp (o, or-false)), ← remove-outside x (before y b))
          (remove-most x (before y b) (distinct-before y b d))

  -- what stands in a misses as often
  pub moved-top : (c y : ℕ) → mem y a ≡ true → miss_of c moved y ≡ miss_of c plain y
  unfolding miss_of
  moved-top c y m = rw (depth-top y a (x ∷ remove x b) m, depth-top y a b m)

  -- a read of what does not stand in a misses at every size up to their number
  miss-under : (c y : ℕ) → mem y a ≡ false → 1 ≤ miss_of c plain y + (c - length a)
  unfolding miss_of
  miss-under c y m =
      rw (depth-under y a b m)
      (by-test (mem y b)
      (λ e. rw e (by-test (leb (suc (length a + length (before y b))) c)
      (λ l. rw l (omega (arith, leb-true (suc (length a + length (before y b))) c l)))
      (λ l. rw l (omega arith))))
      (λ e. rw e (omega arith)))

  -- a read of x makes the two stacks one
  pub touch-self : touch moved x ≡ touch plain x
  unfolding touch remove
  touch-self = simp (remove-append, eqb_same, remove_absent x (remove x b) (simp (mem-remove, eqb_same)))

  -- a read of another extent brings it to the top of a
  pub touch_plain : (y : ℕ) → touch plain y ≡ touch a y ++ remove y b
  unfolding touch
  touch_plain y = simp remove-append

  -- in both
  pub touch-moved : (y : ℕ) → eqb y x ≡ false → touch moved y ≡ touch a y ++ (x ∷ remove x (remove y b))
  unfolding touch remove
  touch-moved y o = simp (remove-append, o, remove-swap x y b)

-- the misses of further reads from either stack on
module _ (c x : ℕ) where
  -- the additional read spares at most one miss: that of the next read of x
  pub moved-least : (a b t : List ℕ) → distinct b ≡ true → misses_from c (a ++ b) t ≤ misses_from c (a ++ (x ∷ remove x b)) t + 1
  unfolding misses_with
  moved-least a b [] d = rw (misses-none c (a ++ b)) (omega arith)
  moved-least a b (y ∷ t) d =
      rw (misses-step c (a ++ b) y t, misses-step c (a ++ (x ∷ remove x b)) y t)
      (by-test (eqb y x)
      (λ e. rw (eqb-true y x e, touch-self x a b) (omega (arith, miss-one c (a ++ b) x)))
      (λ e. rw (touch_plain x a b y, touch-moved x a b y e)
      (omega (arith, moved_other x a b c y d e, moved-least (touch a y) (remove y b) t (distinct_remove y b d)))))

  -- it adds at most one for each extent within the size that was not read since
  pub moved-most : (a b t : List ℕ) → distinct a ≡ true
      → misses_from c (a ++ (x ∷ remove x b)) t ≤ misses_from c (a ++ b) t + (c - length a)
  unfolding misses_with
  moved-most a b [] d = rw (misses-none c (a ++ (x ∷ remove x b))) (omega arith)
  moved-most a b (y ∷ t) d =
      rw (misses-step c (a ++ b) y t, misses-step c (a ++ (x ∷ remove x b)) y t)
      (by-test (eqb y x)
      (λ e. rw (eqb-true y x e, touch-self x a b) (omega (arith, moved-self x a b c)))
      (λ e. rw (touch_plain x a b y, touch-moved x a b y e)
      (by-test (mem y a)
      (λ m. omega (arith, moved-top x a b c y m, length-known a y d m, moved-most (touch a y) (remove y b) t (distinct-touch a y d)))
      (λ m. omega (
        arith,
        miss-under x a b c y m,
        miss-one c (a ++ (x ∷ remove x b)) y,
        length-new a y m,
        moved-most (touch a y) (remove y b) t (distinct-touch a y d),
      )))))
