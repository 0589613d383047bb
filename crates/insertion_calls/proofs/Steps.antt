-- The misses of reads from a stack on, read by read, and of two runs of reads end to end.
use mathlib.Core.Path.{◌≡◌, refl, sym, ap, ◌∙◌}
use Prim.Native.Nat.{ℕ, ◌+◌, ◌≤◌}
use native.Mathlib.Omega.{arith}
use native.Mathlib.Nat.{add-zero}
use mathlib.Core.List.{List, [], ◌∷◌, ◌++◌, foldl}
use mathlib.Core.Bool.{cond}
use lib.ListN.{length, take, drop, take-append-drop}
use Rattle.reuse.specs.Lists.{mem, count}
use Rattle.reuse.specs.Lru.{Reuse, depth, touch, stack, reuses, within, misses_at}
use Rattle.reuse.proofs.Lists.{by-test}
use Rattle.reuse.proofs.Stack.{reuses-append}
use Rattle.reuse.proofs.Counts.{count-append}
use Rattle.reuse.proofs.Cache.{within-depth}
use Rattle.reuse.proofs.Misses.{within-misses}
use Rattle.insertion_calls.specs.Insertion.{put}
use Rattle.insertion_calls.specs.Misses.{miss_of, misses_from, misses_with}

-- an answer within the size is no miss, any other is one
misses-cons : (c : ℕ) (r : Reuse) (rs : List Reuse) → misses_at c (r ∷ rs) ≡ cond (within c r) 0 1 + misses_at c rs
unfolding count
misses-cons c r rs =
    by-test (within c r)
    (λ e. rw e (omega (arith, within-misses c rs, rw e at (within-misses c (r ∷ rs)))))
    (λ e. rw e (omega (arith, within-misses c rs, rw e at (within-misses c (r ∷ rs)))))

-- further reads from a stack on
module _ (c : ℕ) (s : List ℕ) where
  -- none: no misses
  pub misses-none : misses_from c s [] ≡ 0
  unfolding misses_from misses_at reuses count
  misses-none = refl

  -- a read, and those after it
  pub misses-step : (x : ℕ) (t : List ℕ) → misses_from c s (x ∷ t) ≡ misses_with c s x t
  unfolding misses_from misses_with miss_of reuses
  misses-step x t = misses-cons c (depth s x) (reuses (touch s x) t)

  -- two runs of reads end to end
  pub misses-append : (a b : List ℕ) → misses_from c s (a ++ b) ≡ misses_from c s a + misses_from c (foldl touch s a) b
  unfolding misses_from misses_at
  misses-append a b = simp (reuses-append, count-append) (omega arith)

  -- a read is at most one miss
  pub miss-one : (x : ℕ) → miss_of c s x ≤ 1
  unfolding miss_of
  miss-one x = by-test (within c (depth s x)) (λ e. simp e (omega arith)) (λ e. simp e (omega arith))

-- one read more
pub misses-snoc : (c : ℕ) (s a : List ℕ) (x : ℕ) → misses_from c s (a ++ (x ∷ [])) ≡ misses_from c s a + miss_of c (foldl touch s a) x
unfolding misses_with
misses-snoc c s a x =
    misses-append c s a (x ∷ [])
    ∙ rw (misses-step c (foldl touch s a) x [], misses-none c (touch (foldl touch s a) x), add-zero (miss_of c (foldl touch s a) x))

-- no more misses than reads
pub misses-most : (c : ℕ) (s t : List ℕ) → misses_from c s t ≤ length t
unfolding misses_with
misses-most c s [] = rw (misses-none c s) (omega arith)
misses-most c s (x ∷ t) = rw (misses-step c s x t) (omega (arith, miss-one c s x, misses-most c (touch s x) t))

-- at size 0 every read is a miss
pub misses-zero : (s t : List ℕ) → misses_from 0 s t ≡ length t
unfolding misses_with miss_of mem
misses-zero s [] = misses-none 0 s
misses-zero s (x ∷ t) = misses-step 0 s x t ∙ simp (within-depth 0 s x, misses-zero (touch s x) t) (omega arith)

-- a trace and a place in it
module _ (c p : ℕ) (t : List ℕ) where
  -- the misses: those before the place, then the rest from the stack after them
  pub misses-cut : misses_from c [] t ≡ misses_from c [] (take p t) + misses_from c (stack (take p t)) (drop p t)
  unfolding stack
  misses-cut = ap (misses_from c []) (sym (take-append-drop p t)) ∙ misses-append c [] (take p t) (drop p t)

  -- with one more read: those before the place, then that read and the rest from the same stack
  pub misses-put : (x : ℕ) → misses_from c [] (put p x t) ≡ misses_from c [] (take p t) + misses_with c (stack (take p t)) x (drop p t)
  unfolding put stack
  misses-put x = misses-append c [] (take p t) (x ∷ drop p t) ∙ rw misses-step
