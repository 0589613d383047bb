-- A trace read after the stack of another: its own distances, and those of its first reads.
use mathlib.Core.Path.{◌≡◌, refl, sym, ap, ap₂, ◌∙◌}
use Prim.Native.Nat.{ℕ, suc, ◌+◌}
use native.Mathlib.Omega.{arith}
use mathlib.Core.List.{List, [], ◌∷◌, ◌++◌, map, foldl, append-nil, append_assoc, foldl-append}
use mathlib.Core.Bool.{true, false, cond, ◌||◌}
use lib.Dec.{eqb}
use lib.ListN.{length, length-append, length-reverse}
use borrow.Author.Tests.{eqb-true}
use Rattle.reuse.specs.Lists.{mem, firsts, before, distinct, inside, outside, count}
use Rattle.reuse.specs.Lru.{Reuse, cold, at, depth, touch, stack, reuses, count_at}
use Rattle.reuse.proofs.Lists.{by-test, eqb_same, mem-append, mem-outside, mem-firsts, outside-same, outside-none, outside-remove, outside-snoc, outside-reverse, firsts-known, firsts-new}
use Rattle.reuse.proofs.Distinct.{length-cleanup, distinct-middle, distinct-firsts, firsts-distinct, cleanup-distinct}
use Rattle.reuse.proofs.Stack.{stack-over, stack-law, stack-append, stack_snoc, mem-stack, length-stack}
use Rattle.reuse.proofs.Depth.{depth-top, depth-under, depth-absent, before-append, before-outside, distinct-before}
use Rattle.reuse.proofs.Counts.{finite, count-cons, count-cold}

-- the stack s after the reads t has the members of both
pub mem-over : (x : ℕ) (s t : List ℕ) → mem x (foldl touch s t) ≡ mem x t || mem x s
mem-over x s t = simp (stack-over, mem-append, mem-stack, mem-outside) (by-test (mem x t) (λ e. simp e) (λ e. simp e))

-- the depth, after the reads a, of an extent that is not one of them
pub depth-new : (x : ℕ) (s a : List ℕ) → mem x a ≡ false
    → depth (foldl touch s a) x
    ≡ cond (mem x s) (at (suc (length (firsts a) + length (outside a (before x s))))) (cold (suc (length (firsts a) + length (outside a s))))
depth-new x s a h =
    rw (stack-over s a)
    (depth-under x (stack a) (outside a s) (simp (mem-stack, h))
    ∙ simp (mem-outside, h, length-stack, before-outside))

-- the different extents of a stack and of the reads after it
length_both : (s a : List ℕ) → distinct s ≡ true → length (firsts (s ++ a)) ≡ length (firsts a) + length (outside a s)
length_both s a d =
    sym (length-stack (s ++ a))
    ∙ simp (stack-append, stack-law, cleanup-distinct s d, outside-reverse, length-append, length-reverse, length-cleanup)

-- the same by counting the different extents before it in the stack or among the reads, or all of both
pub depth-across : (x : ℕ) (s a : List ℕ) → distinct s ≡ true → mem x a ≡ false
    → depth (foldl touch s a) x ≡ cond (mem x s) (at (suc (length (firsts (before x s ++ a))))) (cold (suc (length (firsts (s ++ a)))))
depth-across x s a d h =
    depth-new x s a h ∙ sym (simp (length_both (before x s) a (distinct-before x s d), length_both s a d))

-- the distance of the first read of p, where r is the stack before and f has the first reads
unfoldable pub across_of : List ℕ → List ℕ → ℕ → ℕ
across_of r f p = suc (length (firsts (before p r ++ before p f)))

-- the answer to that read
unfoldable answer_of : List ℕ → List ℕ → ℕ → Reuse
answer_of r f x = cond (mem x r) (at (across_of r f x)) (cold (suc (length (firsts (r ++ before x f)))))

-- that answer at the place of x in f
answer_at : (r f p q : List ℕ) (x : ℕ) → p ++ (x ∷ q) ≡ f → mem x p ≡ false
    → answer_of r f x ≡ cond (mem x r) (at (suc (length (firsts (before x r ++ p))))) (cold (suc (length (firsts (r ++ p)))))
unfolding answer_of across_of before
answer_at r f p q x h n = simp (← h, before-append, n, eqb_same, append-nil)

-- the answers to distinct reads f = p ++ q after a distinct stack, from q on
answers-from : (r f p q : List ℕ) → distinct r ≡ true → distinct f ≡ true → p ++ q ≡ f
    → reuses (foldl touch r p) q ≡ map (answer_of r f) q
unfolding reuses
answers-from r f p [] d e h = refl
answers-from r f p (x ∷ q) d e h =
    let n : mem x p ≡ false = distinct-middle p q x (rw h e) in
    ap₂ (λ (y : Reuse) (ys : List Reuse). y ∷ ys)
    (depth-across x r p d n ∙ sym (answer_at r f p q x h n))
    (simp foldl-append at (answers-from r f (p ++ (x ∷ [])) q d e (append_assoc p (x ∷ []) q ∙ h)))

-- of such answers, those to extents of the stack are distances
finite-answers : (r f q : List ℕ) → finite (map (answer_of r f) q) ≡ map (across_of r f) (inside r q)
unfolding finite inside answer_of
finite-answers r f [] = refl
finite-answers r f (x ∷ q) = by-test (mem x r) (λ m. simp (m, finite-answers r f q)) (λ m. simp (m, finite-answers r f q))

-- the distances of distinct reads after a distinct stack: each by its two places
pub across-law : (r f : List ℕ) → distinct r ≡ true → distinct f ≡ true → finite (reuses r f) ≡ map (across_of r f) (inside r f)
across-law r f d e = ap finite (answers-from r f [] f d e refl) ∙ finite-answers r f f

-- the depth, after the reads a, of one of them
pub depth-known : (x : ℕ) (s a : List ℕ) → mem x a ≡ true → depth (foldl touch s a) x ≡ depth (stack a) x
depth-known x s a h = rw (stack-over s a) (depth-top x (stack a) (outside a s) (simp (mem-stack, h)))

-- the order and the repeats of the reads before do not tell for a new one
pub depth-firsts : (x : ℕ) (s a : List ℕ) → mem x a ≡ false → depth (foldl touch s a) x ≡ depth (foldl touch s (firsts a)) x
depth-firsts x s a h =
    depth-new x s a h
    ∙ sym (depth-new x s (firsts a) (simp (mem-firsts, h))
    ∙ simp (firsts-distinct (firsts a) (distinct-firsts a), outside-same (firsts a) a (before x s) (λ z. mem-firsts z a), outside-same (firsts a) a s (λ z. mem-firsts z a)))

-- of the first reads of x ∷ b, x is none outside a if a has it
new-known : (x : ℕ) (a b : List ℕ) → mem x a ≡ true → outside a (firsts (x ∷ b)) ≡ outside a (firsts b)
unfolding outside firsts mem
new-known x a b h =
    rw h
    (outside-remove x a (firsts b)
    ∙ outside-same (x ∷ a) a (firsts b) (λ z. by-test (eqb z x) (λ e. rw (eqb-true z x e) (simp (eqb_same, h))) (λ e. simp e)))

-- a new one comes first, and is left out from then on
new-new : (x : ℕ) (a b : List ℕ) → mem x a ≡ false → outside a (firsts (x ∷ b)) ≡ x ∷ outside (a ++ (x ∷ [])) (firsts b)
unfolding outside firsts
new-new x a b h = simp (h, outside-remove, outside-snoc)

-- the reads b after the stack s and the reads a: a distance in a and b alone, or a first read
split_from : (s a b : List ℕ) (d : ℕ)
    → count_at (reuses (foldl touch s a) b) d
    ≡ count_at (reuses (stack a) b) d + count_at (reuses (foldl touch s (firsts a)) (outside (firsts a) (firsts b))) d
unfolding reuses
split_from s a [] d = unfold firsts outside count_at count in refl
split_from s a (x ∷ b) d =
    let ih : count_at (reuses (touch (foldl touch s a) x) b) d
    ≡ count_at (reuses (touch (stack a) x) b) d
    + count_at (reuses (foldl touch s (firsts (a ++ (x ∷ [])))) (outside (firsts (a ++ (x ∷ []))) (firsts b))) d
    = simp (foldl-append, stack_snoc) at (split_from s (a ++ (x ∷ [])) b d) in
    by-test (mem x a)
    (λ m. rw (depth-known x s a m, new-known x (firsts a) b (mem-firsts x a ∙ m))
    (omega (
      arith,
      rw (firsts-known x a m) at ih,
      count-cons (depth (stack a) x) (reuses (touch (foldl touch s a) x) b) d,
      count-cons (depth (stack a) x) (reuses (touch (stack a) x) b) d,
    )))
    (λ m. let old : List ℕ = foldl touch s (firsts a) in
    let new : List ℕ = outside (firsts a ++ (x ∷ [])) (firsts b) in
    rw (depth-firsts x s a m, depth-absent x (stack a) (mem-stack x a ∙ m), new-new x (firsts a) b (mem-firsts x a ∙ m))
    (omega (
      arith,
      simp (firsts-new x a m, foldl-append) at ih,
      count-cons (depth old x) (reuses (touch (foldl touch s a) x) b) d,
      count-cold (suc (length (stack a))) (reuses (touch (stack a) x) b) d,
      count-cons (depth old x) (reuses (touch old x) new) d,
    )))

-- a trace after a stack: its own distances, and those of its first reads
pub split-law : (s b : List ℕ) (d : ℕ) → count_at (reuses s b) d ≡ count_at (reuses [] b) d + count_at (reuses s (firsts b)) d
unfolding stack firsts
split-law s b d = split_from s [] b d ∙ simp outside-none
