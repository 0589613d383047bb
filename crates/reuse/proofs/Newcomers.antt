-- Cold answers: how many there are, and their numbers, one after the other; and the range of all answers.
use mathlib.Core.Path.{◌≡◌, refl, ap, ◌∙◌}
use Prim.Native.Nat.{ℕ, suc, ◌+◌, ◌≤◌}
use native.Mathlib.Omega.{arith}
use mathlib.Core.List.{List, [], ◌∷◌, foldl}
use mathlib.Core.Bool.{true}
use lib.Dec.{eqb}
use lib.ListN.{length}
use borrow.Author.Tests.{eqb-true}
use Rattle.reuse.specs.Lists.{mem, firsts, distinct, from, count}
use Rattle.reuse.specs.Lru.{Reuse, cold, at, touch, stack, reuses, newcomers, is_cold}
use Rattle.reuse.specs.Written.{UpTo}
use Rattle.reuse.proofs.Lists.{by-test, clash}
use Rattle.reuse.proofs.Stack.{length-stack, distinct-touch, length-known, length-new}
use Rattle.reuse.proofs.Depth.{depth-absent, depth-present, length_before}
use Rattle.reuse.proofs.Counts.{finite}

-- the stack is longer by the cold reads
pub cold-longer : (s t : List ℕ) → distinct s ≡ true → length s + count is_cold (reuses s t) ≡ length (foldl touch s t)
unfolding reuses count
cold-longer s [] d = omega arith
cold-longer s (x ∷ t) d =
    let i : length (touch s x) + count is_cold (reuses (touch s x) t) ≡ length (foldl touch (touch s x) t) = cold-longer (touch s x) t (distinct-touch s x d) in
    by-test (mem x s)
    (λ m. simp (depth-present x s m) (omega (arith, length-known s x d m)))
    (λ m. simp (depth-absent x s m) (omega (arith, length-new s x m)))

-- so it never shrinks
pub stack-grows : (s t : List ℕ) → distinct s ≡ true → length s ≤ length (foldl touch s t)
stack-grows s t d = omega (arith, cold-longer s t d)

-- the cold reads of a trace are as many as its different extents
pub cold-count : (t : List ℕ) → count is_cold (reuses [] t) ≡ length (firsts t)
unfolding stack distinct
cold-count t = let i : 0 + count is_cold (reuses [] t) ≡ length (stack t) = cold-longer [] t refl in omega (arith, length-stack t)

-- their numbers follow one another, from one more than the stack has
pub numbers-follow : (s t : List ℕ) → distinct s ≡ true → newcomers (reuses s t) ≡ from (suc (length s)) (count is_cold (reuses s t))
unfolding reuses newcomers count from
numbers-follow s [] d = refl
numbers-follow s (x ∷ t) d =
    let i : newcomers (reuses (touch s x) t) ≡ from (suc (length (touch s x))) (count is_cold (reuses (touch s x) t)) = numbers-follow (touch s x) t (distinct-touch s x d) in
    by-test (mem x s)
    (λ m. simp (depth-present x s m) (rw (length-known s x d m) at i))
    (λ m. simp (depth-absent x s m) (ap {B = List ℕ} (λ l. suc (length s) ∷ l) (rw (length-new s x m) at i)))

-- of a trace they are 1, 2, and so on to the number of its extents
pub trace-numbers : (t : List ℕ) → newcomers (reuses [] t) ≡ from 1 (length (firsts t))
unfolding distinct
trace-numbers t = numbers-follow [] t refl ∙ ap (from 1) (cold-count t)

-- a list of answers with numbers and distances from 1 to n
unfoldable pub AllUpTo : ℕ → List Reuse → Type 0
AllUpTo n [] = Unit {0}
AllUpTo n (r ∷ rs) = UpTo n r × AllUpTo n rs

-- all answers are so, where the last stack has at most n extents
pub answers-up-to : (n : ℕ) (s t : List ℕ) → distinct s ≡ true → length (foldl touch s t) ≤ n → AllUpTo n (reuses s t)
unfolding reuses AllUpTo
answers-up-to n s [] d l = tt
answers-up-to n s (x ∷ t) d l =
    let i : AllUpTo n (reuses (touch s x) t) = answers-up-to n (touch s x) t (distinct-touch s x d) l in
    by-test (mem x s)
    (λ m. rw (depth-present x s m) ((omega arith, omega (arith, length_before x s m, length-known s x d m, stack-grows (touch s x) t (distinct-touch s x d))), i))
    (λ m. rw (depth-absent x s m) ((omega arith, omega (arith, length-new s x m, stack-grows (touch s x) t (distinct-touch s x d))), i))

-- so those to a trace, by the number of its extents
pub trace-up-to : (n : ℕ) (t : List ℕ) → length (firsts t) ≤ n → AllUpTo n (reuses [] t)
unfolding stack distinct
trace-up-to n t l = answers-up-to n [] t refl (let e : length (stack t) ≡ length (firsts t) = length-stack t in omega arith)

-- a distance among such answers is so
in-range : (n : ℕ) (rs : List Reuse) → AllUpTo n rs → (d : ℕ) → mem d (finite rs) ≡ true → (1 ≤ d) × (d ≤ n)
unfolding AllUpTo finite mem
in-range n [] h d m = clash m refl
in-range n (cold k ∷ rs) h d m = in-range n rs h.1 d m
in-range n (at e ∷ rs) h d m = by-test (eqb d e) (λ q. rw (eqb-true d e q) h.0) (λ q. in-range n rs h.1 d (simp q at m))

-- each distance lies between 1 and the number of extents in the last stack
pub finite-range : (s t : List ℕ) (d : ℕ) → distinct s ≡ true → mem d (finite (reuses s t)) ≡ true → (1 ≤ d) × (d ≤ length (foldl touch s t))
finite-range s t d u h = in-range (length (foldl touch s t)) (reuses s t) (answers-up-to (length (foldl touch s t)) s t u (omega arith)) d h
