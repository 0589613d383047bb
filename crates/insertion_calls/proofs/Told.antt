-- The change is told by a trail up to the next read of the extent put in, or to the trace's end.
use mathlib.Core.Path.{◌≡◌, ap₂, ◌∙◌}
use Prim.Native.Nat.{ℕ, suc, ◌+◌}
use native.Mathlib.Omega.{arith}
use mathlib.Core.List.{List, ◌∷◌, ◌++◌, foldl}
use mathlib.Core.Bool.{true, false}
use lib.IntN.{pos, ◌-ℤ◌}
use lib.ListN.{length, take, drop}
use Rattle.reuse.specs.Lists.{mem, remove, before}
use Rattle.reuse.specs.Lru.{touch, stack}
use Rattle.reuse.proofs.Lists.{by-test, eqb_same}
use Rattle.reuse.proofs.Depth.{depth-before, depth-under}
use Rattle.insertion_calls.specs.Insertion.{change_of}
use Rattle.insertion_calls.specs.Misses.{miss_of, misses_from, misses_with}
use Rattle.insertion_calls.specs.Trails.{miss_at, Trail, change_by}
use Rattle.insertion_calls.proofs.Integers.{gap_same}
use Rattle.insertion_calls.proofs.Steps.{misses-step, misses-append}
use Rattle.insertion_calls.proofs.Moved.{touch-self}
use Rattle.insertion_calls.proofs.Changes.{change-rest}

-- the misses of a read by whether its extent stands in the stack, and how deep
own-miss : (c : ℕ) (s : List ℕ) (x : ℕ) → miss_of c s x ≡ miss_at (mem x s) (suc (length (before x s))) c
unfolding miss_of
own-miss c s x = rw (depth-before s x) (by-test (mem x s) (λ e. simp e) (λ e. simp e))

-- a trace and a place in it
module _ (c p x : ℕ) (t : List ℕ) where
  -- the stack at the place, and the reads from there on
  abbrev here : List ℕ
  here = stack (take p t)

  abbrev rest : List ℕ
  rest = drop p t

  -- x is not read again
  pub told-end : (since depth' spoiled : ℕ) → Trail here x c rest since depth' spoiled
      → change_of c p x t ≡ change_by (mem x here) false (suc (length (before x here))) since depth' spoiled c
  unfolding misses_with
  told-end since depth' spoiled h =
      let f : ℕ = misses_from c here rest in
      let m : ℕ = miss_at (mem x here) (suc (length (before x here))) c in
      change-rest c p x t
      ∙ ap₂ (λ (a b : ℕ). pos a -ℤ pos b)
      (let e : miss_of c here x + misses_from c (touch here x) rest ≡ f + (m + spoiled + 0) = omega (arith, own-miss c here x, h.spoiled-is) in e)
      (let e : f ≡ f + 0 = omega arith in e)
      ∙ gap_same f (m + spoiled + 0) 0

  -- the reads before the next one of x, and those after it
  module _ (near far : List ℕ) (cut : rest ≡ near ++ (x ∷ far)) (since depth' spoiled : ℕ) (h : Trail here x c near since depth' spoiled) where
    -- the next read of x with the read put in
    again-moved : miss_of c (foldl touch (touch here x) near) x ≡ miss_at true (suc since) c
    unfolding miss_of mem before
    again-moved =
        rw (h.moved, depth-under x h.newer (x ∷ remove x h.older) h.unread)
        (simp eqb_same (rw h.since-is (let z : length h.newer + 0 ≡ length h.newer = omega arith in rw z)))

    -- and without it
    again-plain : miss_of c (foldl touch here near) x ≡ miss_at (mem x here) depth' c
    unfolding miss_of
    again-plain =
        rw (h.plain, depth-under x h.newer h.older h.unread, h.known, h.depth_is)
        (by-test (mem x here) (λ e. simp e) (λ e. simp e))

    -- from then on the stacks are one
    one-stack : touch (foldl touch (touch here x) near) x ≡ touch (foldl touch here near) x
    one-stack = rw (h.moved, h.plain) (touch-self x h.newer h.older)

    -- x is read again
    pub told-again : change_of c p x t ≡ change_by (mem x here) true (suc (length (before x here))) since depth' spoiled c
    unfolding misses_with
    told-again =
        let f : ℕ = misses_from c here near + misses_from c (touch (foldl touch here near) x) far in
        let m : ℕ = miss_at (mem x here) (suc (length (before x here))) c in
        let with : misses_from c (touch here x) rest
        ≡ misses_from c (touch here x) near + (miss_at true (suc since) c + misses_from c (touch (foldl touch here near) x) far) =
        rw cut (misses-append c (touch here x) near (x ∷ far)
        ∙ rw (misses-step c (foldl touch (touch here x) near) x far, again-moved, one-stack)) in
        let without : misses_from c here rest ≡ misses_from c here near + (miss_at (mem x here) depth' c + misses_from c (touch (foldl touch here near) x) far) =
        rw cut (misses-append c here near (x ∷ far) ∙ rw (misses-step c (foldl touch here near) x far, again-plain)) in
        change-rest c p x t
        ∙ ap₂ (λ (a b : ℕ). pos a -ℤ pos b)
        (let e : miss_of c here x + misses_from c (touch here x) rest ≡ f + (m + spoiled + miss_at true (suc since) c) =
        omega (arith, own-miss c here x, h.spoiled-is, with) in e)
        (let e : misses_from c here rest ≡ f + miss_at (mem x here) depth' c = omega (arith, without) in e)
        ∙ gap_same f (m + spoiled + miss_at true (suc since) c) (miss_at (mem x here) depth' c)
