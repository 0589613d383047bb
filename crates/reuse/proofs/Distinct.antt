-- Lists with no member twice.
use mathlib.Core.Path.{◌≡◌, refl, sym, ◌∙◌}
use Prim.Native.Nat.{ℕ, suc}
use mathlib.Core.List.{List, [], ◌∷◌, ◌++◌, reverse, reverse-cons}
use mathlib.Core.Bool.{true, false, not, ◌&&◌, or-true, and-false}
use lib.Dec.{eqb}
use lib.ListN.{length}
use borrow.Author.Tests.{eqb-true, eq-eqb, not-true}
use Rattle.reuse.specs.Lists.{mem, remove, cleanup, firsts, distinct, outside, beside}
use Rattle.reuse.proofs.Lists.{by-test, clash, both, eqb_same, eqb-sym, mem-append, mem-outside, mem-remove, mem-firsts, mem-cleanup, mem-reverse, remove-outside, remove_absent, mem-head, mem-tail}

-- the head of a distinct list is not in its tail
pub distinct_head : (x : ℕ) (s : List ℕ) → distinct (x ∷ s) ≡ true → mem x s ≡ false
unfolding distinct
distinct_head x s h = not-true (mem x s) (both (not (mem x s)) (distinct s) h).0

-- the tail of a distinct list is distinct
pub distinct_tail : (x : ℕ) (s : List ℕ) → distinct (x ∷ s) ≡ true → distinct s ≡ true
unfolding distinct
distinct_tail x s h = (both (not (mem x s)) (distinct s) h).1

-- a new head before a distinct list
pub distinct_cons : (x : ℕ) (s : List ℕ) → mem x s ≡ false → distinct s ≡ true → distinct (x ∷ s) ≡ true
unfolding distinct
distinct_cons x s m h = simp (m, h)

-- leaving out makes no repeats
pub distinct-outside : (a s : List ℕ) → distinct s ≡ true → distinct (outside a s) ≡ true
unfolding outside
distinct-outside a [] h = h
distinct-outside a (x ∷ s) h =
    let t : distinct (outside a s) ≡ true = distinct-outside a s (distinct_tail x s h) in
    by-test (mem x a) (λ e. simp (e, t))
    (λ e. simp e (distinct_cons x (outside a s) (simp (mem-outside, e, distinct_head x s h)) t))

-- two distinct lists with no common member, end to end
pub distinct_append : (a b : List ℕ) → distinct a ≡ true → distinct b ≡ true → ((x : ℕ) → mem x a ≡ true → mem x b ≡ false) → distinct (a ++ b) ≡ true
distinct_append [] b d e h = e
distinct_append (x ∷ a) b d e h =
    distinct_cons x (a ++ b) (simp (mem-append, distinct_head x a d, h x (mem-head x a)))
    (distinct_append a b (distinct_tail x a d) e (λ z m. h z (mem-tail z x a m)))

-- a distinct list, then what another has besides
pub distinct-beside : (a b : List ℕ) → distinct a ≡ true → distinct b ≡ true → distinct (beside a b) ≡ true
distinct-beside a b d e = distinct_append a (outside a b) d (distinct-outside a b e) (λ x m. simp (mem-outside, m))

-- removal makes no repeats
pub distinct_remove : (x : ℕ) (s : List ℕ) → distinct s ≡ true → distinct (remove x s) ≡ true
distinct_remove x s h = simp remove-outside (distinct-outside (x ∷ []) s h)

-- each member once at its first place: no repeats
pub distinct-firsts : (t : List ℕ) → distinct (firsts t) ≡ true
unfolding firsts distinct
distinct-firsts [] = refl
distinct-firsts (x ∷ t) = simp (mem-remove, eqb_same, distinct_remove x (firsts t) (distinct-firsts t))

-- each member once at its last place: no repeats
pub distinct-cleanup : (t : List ℕ) → distinct (cleanup t) ≡ true
unfolding cleanup distinct
distinct-cleanup [] = refl
distinct-cleanup (x ∷ t) = by-test (mem x t) (λ e. simp (e, distinct-cleanup t)) (λ e. simp (mem-cleanup x t, e, distinct-cleanup t))

-- to remove a member takes one away
pub length-remove : (x : ℕ) (s : List ℕ) → distinct s ≡ true → mem x s ≡ true → suc (length (remove x s)) ≡ length s
unfolding mem remove
length-remove x [] h m = clash m refl
length-remove x (y ∷ s) h m =
    by-test (eqb x y)
    (λ e. simp (e, remove_absent x s (rw (eqb-true x y e) (distinct_head y s h))))
    (λ e. simp (e, length-remove x s (distinct_tail y s h) (simp e at m)))

-- both ways to drop repeats keep as many
pub length-cleanup : (t : List ℕ) → length (cleanup t) ≡ length (firsts t)
unfolding cleanup firsts
length-cleanup [] = refl
length-cleanup (x ∷ t) =
    by-test (mem x t)
    (λ e. simp (e, length-remove x (firsts t) (distinct-firsts t) (simp (mem-firsts, e)), length-cleanup t))
    (λ e. simp (e, remove_absent x (firsts t) (simp (mem-firsts, e)), length-cleanup t))

-- a distinct list is its own first places
pub firsts-distinct : (s : List ℕ) → distinct s ≡ true → firsts s ≡ s
unfolding firsts
firsts-distinct [] h = refl
firsts-distinct (x ∷ s) h = simp (firsts-distinct s (distinct_tail x s h), remove_absent x s (distinct_head x s h))

-- a distinct list is its own cleanup
pub cleanup-distinct : (s : List ℕ) → distinct s ≡ true → cleanup s ≡ s
unfolding cleanup
cleanup-distinct [] h = refl
cleanup-distinct (x ∷ s) h = simp (distinct_head x s h, cleanup-distinct s (distinct_tail x s h))

-- of a distinct list, what stands before a place is not what stands there
pub distinct-middle : (a b : List ℕ) (x : ℕ) → distinct (a ++ (x ∷ b)) ≡ true → mem x a ≡ false
unfolding mem
distinct-middle [] b x h = refl
distinct-middle (y ∷ a) b x h =
    by-test (eqb x y)
    (λ e. clash (mem-append y a (x ∷ b) ∙ simp (eq-eqb y x (sym (eqb-true x y e)), or-true)) (distinct_head y (a ++ (x ∷ b)) h))
    (λ e. simp (e, distinct-middle a b x (distinct_tail y (a ++ (x ∷ b)) h)))

-- one more at the end
pub distinct_snoc : (x : ℕ) (s : List ℕ) → distinct (s ++ (x ∷ [])) ≡ not (mem x s) && distinct s
unfolding distinct mem
distinct_snoc x [] = refl
distinct_snoc x (y ∷ s) =
    rw (mem-append y s (x ∷ []), distinct_snoc x s, eqb-sym y x)
    (by-test (eqb x y)
    (λ e. simp (e, or-true))
    (λ e. by-test (mem y s) (λ m. simp (e, m, and-false)) (λ m. simp (e, m))))

-- to turn a list round keeps its repeats
pub distinct-reverse : (s : List ℕ) → distinct (reverse s) ≡ distinct s
unfolding distinct
distinct-reverse [] = refl
distinct-reverse (x ∷ s) = rw (reverse-cons x s, distinct_snoc x (reverse s), mem-reverse x s, distinct-reverse s)
