-- The place of an extent in the stack, and the distance counted on the trace.
use mathlib.Core.Path.{◌≡◌, refl, sym, ap, ap₂, ◌∙◌}
use Prim.Native.Nat.{ℕ, suc, ◌+◌, ◌≤◌, ◌<◌}
use native.Mathlib.Omega.{arith}
use native.Mathlib.Nat.{add-zero}
use mathlib.Core.List.{List, [], ◌∷◌, ◌++◌}
use mathlib.Core.Bool.{true, false, cond}
use lib.Dec.{eqb}
use lib.ListN.{length, take, drop, get_or, length-append}
use lib.Seq.{split_at, length-take-le}
use borrow.Author.Tests.{eqb-true}
use Rattle.reuse.specs.Lists.{mem, firsts, before, distinct, outside}
use Rattle.reuse.specs.Lru.{Reuse, cold, at, depth, stack, reuses, since, distance, distances, is_cold}
use Rattle.reuse.proofs.Lists.{by-test, clash, eqb_same, mem-append, mem-firsts, remove_absent}
use Rattle.reuse.proofs.Distinct.{distinct_head, distinct_tail, distinct_cons}
use Rattle.reuse.proofs.Stack.{stack-cons, stack_snoc, mem-stack, length-stack}

-- the depth of a member is one more than those before it; what is no member is cold with one more than all
pub depth-before : (s : List ℕ) (x : ℕ) → depth s x ≡ cond (mem x s) (at (suc (length (before x s)))) (cold (suc (length s)))
unfolding depth before mem
depth-before [] x = refl
depth-before (y ∷ s) x =
    by-test (eqb x y) (λ e. simp e)
    (λ e. simp (e, depth-before s x) (by-test (mem x s) (λ f. simp f) (λ f. simp f)))

-- what is before x in two lists on end
pub before-append : (x : ℕ) (a b : List ℕ) → before x (a ++ b) ≡ cond (mem x a) (before x a) (a ++ before x b)
unfolding before mem
before-append x [] b = refl
before-append x (y ∷ a) b =
    by-test (eqb x y) (λ e. simp e)
    (λ e. simp (e, before-append x a b) (by-test (mem x a) (λ f. simp f) (λ f. simp f)))

-- to leave out others than x leaves them out before x
pub before-outside : (x : ℕ) (a s : List ℕ) → mem x a ≡ false → before x (outside a s) ≡ outside a (before x s)
unfolding before outside
before-outside x a [] h = refl
before-outside x a (y ∷ s) h =
    by-test (eqb x y)
    (λ e. simp (e, rw (eqb-true x y e) at h))
    (λ e. by-test (mem y a) (λ f. simp (e, f, before-outside x a s h)) (λ f. simp (e, f, before-outside x a s h)))

-- what is before a member has its members from the list
pub mem-before : (x z : ℕ) (s : List ℕ) → mem z s ≡ false → mem z (before x s) ≡ false
unfolding before mem
mem-before x z [] h = refl
mem-before x z (y ∷ s) h =
    by-test (eqb z y) (λ f. clash (simp f) h)
    (λ f. by-test (eqb x y) (λ e. simp e) (λ e. simp (e, f, mem-before x z s (simp f at h))))

-- what is before x is in the list
pub before-mem : (x z : ℕ) (s : List ℕ) → mem z (before x s) ≡ true → mem z s ≡ true
before-mem x z s h = by-test (mem z s) (λ m. m) (λ m. clash h (mem-before x z s m))

-- x is not before itself
pub before_self : (x : ℕ) (s : List ℕ) → mem x (before x s) ≡ false
unfolding mem before
before_self x [] = refl
before_self x (y ∷ s) = by-test (eqb x y) (λ e. simp e) (λ e. simp (e, before_self x s))

-- what is before x has no extent twice
pub distinct-before : (x : ℕ) (s : List ℕ) → distinct s ≡ true → distinct (before x s) ≡ true
unfolding before
distinct-before x [] h = h
distinct-before x (y ∷ s) h =
    by-test (eqb x y) (λ e. simp e (unfold distinct in refl))
    (λ e. simp e (distinct_cons y (before x s) (mem-before x y s (distinct_head y s h)) (distinct-before x s (distinct_tail y s h))))

-- the place of a member is in the list
pub length_before : (x : ℕ) (s : List ℕ) → mem x s ≡ true → length (before x s) < length s
unfolding mem before
length_before x [] h = clash h refl
length_before x (y ∷ s) h =
    by-test (eqb x y) (λ e. simp e (omega arith))
    (λ e. let i : length (before x s) < length s = length_before x s (simp e at h) in simp e (omega arith))

-- the depth of what is in the upper of two stacks
pub depth-top : (x : ℕ) (a b : List ℕ) → mem x a ≡ true → depth (a ++ b) x ≡ depth a x
depth-top x a b h = simp (depth-before, mem-append, before-append, h)

-- the depth of what is in the lower one alone
pub depth-under : (x : ℕ) (a b : List ℕ) → mem x a ≡ false
    → depth (a ++ b) x ≡ cond (mem x b) (at (suc (length a + length (before x b)))) (cold (suc (length a + length b)))
depth-under x a b h = simp (depth-before, mem-append, before-append, h, length-append)

-- what is not in the stack is cold, with one more than the stack has
pub depth-absent : (x : ℕ) (s : List ℕ) → mem x s ≡ false → depth s x ≡ cold (suc (length s))
depth-absent x s h = simp (depth-before, h)

-- what is in the stack is below those before it
pub depth-present : (x : ℕ) (s : List ℕ) → mem x s ≡ true → depth s x ≡ at (suc (length (before x s)))
depth-present x s h = simp (depth-before, h)

-- what lies undermost alone is below all
pub depth-last : (x : ℕ) (a : List ℕ) → mem x a ≡ false → depth (a ++ (x ∷ [])) x ≡ at (suc (length a))
unfolding mem before
depth-last x a h = depth-under x a (x ∷ []) h ∙ simp (eqb_same, add-zero)

-- what is cold is not in the stack
pub cold-absent : (x : ℕ) (s : List ℕ) → is_cold (depth s x) ≡ true → mem x s ≡ false
cold-absent x s h = by-test (mem x s) (λ m. clash h (ap is_cold (depth-present x s m))) (λ m. m)

-- a distance lies between 1 and the length of the stack
pub depth-within : (x : ℕ) (s : List ℕ) (d : ℕ) → depth s x ≡ at d → (1 ≤ d) × (d ≤ length s)
depth-within x s d h =
    by-test (mem x s)
    (λ m. let e : at d ≡ at (suc (length (before x s))) = sym h ∙ depth-present x s m in
    let f : d ≡ suc (length (before x s)) = cc in
    (omega arith, omega (arith, length_before x s m)))
    (λ m. let e : cold (suc (length s)) ≡ at d = sym (depth-absent x s m) ∙ h in let z : ◌≡◌ {A = ℕ} 0 1 = cc in absurd (omega arith))

-- the depth of the first x of a list
pub depth-at : (x : ℕ) (s : List ℕ) (i : ℕ) → i < length s → mem x (take i s) ≡ false → get_or s i 0 ≡ x → depth s x ≡ at (suc i)
unfolding mem before
depth-at x s i l m e =
    ap (λ (r : List ℕ). depth r x) (split_at s i 0 l)
    ∙ rw e
    (depth-under x (take i s) (x ∷ drop (suc i) s) m
    ∙ simp (eqb_same, length-take-le i s (omega arith)) (ap (λ (k : ℕ). at (suc k)) (omega arith)))

-- the place in the stack of what was read is the number of different extents since its last read, counted on the trace
place-law : (t : List ℕ) (x : ℕ) → mem x t ≡ true → depth (stack t) x ≡ at (length (firsts (since x t)))
unfolding since mem outside firsts
place-law [] x h = clash h refl
place-law (y ∷ t) x h =
    rw (stack-cons y t)
    (by-test (mem x t)
    (λ m. depth-top x (stack t) (outside t (y ∷ [])) (simp (mem-stack, m)) ∙ place-law t x m ∙ simp m)
    (λ m. depth-under x (stack t) (outside t (y ∷ [])) (simp (mem-stack, m))
    ∙ by-test (eqb x y)
    (λ e. let n : mem y t ≡ false = rw (eqb-true x y e) at m in
    simp (m, e, n, remove_absent y (firsts t) (simp (mem-firsts, n)), length-stack) (unfold before in simp (e, add-zero)))
    (λ e. clash h (simp (e, m)))))

-- the stack's answer to a read of x is the one counted on the trace: its distance, or its number among the newcomers
pub distance-law : (t : List ℕ) (x : ℕ) → depth (stack t) x ≡ distance t x
unfolding distance
distance-law t x =
    by-test (mem x t)
    (λ m. place-law t x m ∙ simp m)
    (λ m. depth-absent x (stack t) (mem-stack x t ∙ m) ∙ simp (m, length-stack))

-- so it is with all further reads after the reads `seen`
pub distances-from : (seen t : List ℕ) → reuses (stack seen) t ≡ distances seen t
unfolding reuses distances
distances-from seen [] = refl
distances-from seen (x ∷ t) =
    ap₂ (λ (r : Reuse) (rs : List Reuse). r ∷ rs) (distance-law seen x)
    (rw (stack_snoc seen x) at (distances-from (seen ++ (x ∷ [])) t))

-- the stack's answers to a whole trace are the distances counted on it
pub distances-law : (t : List ℕ) → reuses [] t ≡ distances [] t
unfolding stack
distances-law t = distances-from [] t
