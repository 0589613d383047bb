-- Membership, removal and the two ways to drop repeats.
use mathlib.Core.Path.{◌≡◌, refl, sym, ap, ◌∙◌}
use Prim.Native.Nat.{ℕ, zero, suc, ◌≤◌, ◌<◌}
use native.Mathlib.Omega.{arith}
use mathlib.Core.List.{List, [], ◌∷◌, ◌++◌, reverse, append-nil, reverse-cons}
use mathlib.Core.Bool.{Bool, true, false, cond, not, ◌&&◌, ◌||◌, or-true, or-false, or_assoc, or_comm, and-false}
use lib.Dec.{eqb}
use lib.ListN.{length, get_or, length-append}
use borrow.Author.Tests.{eqb-true, eqb-false, eq-eqb, ne_eqb}
use Rattle.reuse.specs.Lists.{mem, remove, cleanup, firsts, inside, outside, beside}

-- a proof by the two answers of a test
pub by-test : {G : Type 0} (b : Bool) → (b ≡ true → G) → (b ≡ false → G) → G
by-test true t f = t refl
by-test false t f = f refl

-- two different answers of one test
pub clash : {G : Type 0} {b : Bool} → b ≡ true → b ≡ false → G
clash {b} t f = let z : ◌≡◌ {A = ℕ} 0 1 = cc in absurd (omega arith)

-- both tests hold where their conjunction does
pub both : (a b : Bool) → a && b ≡ true → (a ≡ true) × (b ≡ true)
both true b h = (refl, h)
both false b h = clash h refl

-- a test that gives the same either way
pub cond_same : {A : Type 0} (b : Bool) (a : A) → cond b a a ≡ a
cond_same true a = refl
cond_same false a = refl

-- a number is equal to itself, as a test
pub eqb_same : (x : ℕ) → eqb x x ≡ true
eqb_same x = eq-eqb x x refl

-- the test of equality, the other way round
pub eqb-sym : (x y : ℕ) → eqb x y ≡ eqb y x
eqb-sym x y =
    by-test (eqb x y) (λ e. e ∙ sym (eq-eqb y x (sym (eqb-true x y e))))
    (λ e. e ∙ sym (ne_eqb y x (λ q. eqb-false x y e (sym q))))

-- the head is a member
pub mem-head : (x : ℕ) (s : List ℕ) → mem x (x ∷ s) ≡ true
unfolding mem
mem-head x s = simp eqb_same

-- a member of the tail is a member
pub mem-tail : (x y : ℕ) (s : List ℕ) → mem x s ≡ true → mem x (y ∷ s) ≡ true
unfolding mem
mem-tail x y s h = simp (h, or-true)

-- the word at a place is a member
pub mem-at : (l : List ℕ) (p x : ℕ) → p < length l → get_or l p 0 ≡ x → mem x l ≡ true
unfolding mem
mem-at [] p x h e = absurd (omega arith)
mem-at (y ∷ l) zero x h e = simp (eq-eqb x y (sym e))
mem-at (y ∷ l) (suc p) x h e = simp (mem-at l p x (omega arith) e, or-true)

-- a member of two lists end to end is one of either
pub mem-append : (x : ℕ) (a b : List ℕ) → mem x (a ++ b) ≡ mem x a || mem x b
unfolding mem
mem-append x [] b = refl
mem-append x (y ∷ a) b = simp (mem-append x a b, or_assoc)

-- a member outside a
pub mem-outside : (x : ℕ) (a s : List ℕ) → mem x (outside a s) ≡ not (mem x a) && mem x s
unfolding mem outside
mem-outside x a [] = simp and-false
mem-outside x a (y ∷ s) =
    by-test (eqb x y)
    (λ e. rw (eqb-true x y e) (by-test (mem y a) (λ m. simp (m, eqb_same, mem-outside y a s)) (λ m. simp (m, eqb_same, mem-outside y a s))))
    (λ e. by-test (mem y a) (λ m. simp (m, e, mem-outside x a s)) (λ m. simp (m, e, mem-outside x a s)))

-- one list, then what another has besides
pub mem-beside : (x : ℕ) (a b : List ℕ) → mem x (beside a b) ≡ mem x a || mem x b
mem-beside x a b = simp (mem-append, mem-outside) (by-test (mem x a) (λ e. simp e) (λ e. simp e))

-- two lists end to end, outside a
pub outside-append : (a s t : List ℕ) → outside a (s ++ t) ≡ outside a s ++ outside a t
unfolding outside
outside-append a [] t = refl
outside-append a (x ∷ s) t = by-test (mem x a) (λ e. simp (e, outside-append a s t)) (λ e. simp (e, outside-append a s t))

-- lists with the same members leave the same outside
pub outside-same : (a b s : List ℕ) → ((x : ℕ) → mem x a ≡ mem x b) → outside a s ≡ outside b s
unfolding outside
outside-same a b [] h = refl
outside-same a b (x ∷ s) h = simp (h x, outside-same a b s h)

-- lists with the same members hold the same inside
pub inside-same : (a b s : List ℕ) → ((x : ℕ) → mem x a ≡ mem x b) → inside a s ≡ inside b s
unfolding inside
inside-same a b [] h = refl
inside-same a b (x ∷ s) h = simp (h x, inside-same a b s h)

-- what is inside a is in a
pub inside-mem : (x : ℕ) (a s : List ℕ) → mem x (inside a s) ≡ true → mem x a ≡ true
unfolding mem inside
inside-mem x a [] h = clash h refl
inside-mem x a (y ∷ s) h =
    by-test (mem y a)
    (λ m. by-test (eqb x y) (λ e. rw (eqb-true x y e) m) (λ e. inside-mem x a s (simp (m, e) at h)))
    (λ m. inside-mem x a s (simp m at h))

-- all is outside the empty list
pub outside-none : (s : List ℕ) → outside [] s ≡ s
unfolding outside mem
outside-none [] = refl
outside-none (x ∷ s) = simp (outside-none s)

-- outside b, then outside a
pub outside-outside : (a b s : List ℕ) → outside a (outside b s) ≡ outside (a ++ b) s
unfolding outside
outside-outside a b [] = refl
outside-outside a b (x ∷ s) =
    by-test (mem x b)
    (λ e. simp (e, mem-append, or-true, outside-outside a b s))
    (λ e. simp (e, mem-append, or-false, outside-outside a b s))

-- to remove x is to stay outside the list of x alone
pub remove-outside : (x : ℕ) (s : List ℕ) → remove x s ≡ outside (x ∷ []) s
unfolding remove outside mem
remove-outside x [] = refl
remove-outside x (y ∷ s) = simp (eqb-sym y x, or-false, remove-outside x s)

-- the place of x among those left out does not tell
pub outside-snoc : (x : ℕ) (a s : List ℕ) → outside (a ++ (x ∷ [])) s ≡ outside (x ∷ a) s
unfolding mem
outside-snoc x a s = outside-same (a ++ (x ∷ [])) (x ∷ a) s (λ z. simp (mem-append, or-false) (or_comm (mem z a) (eqb z x)))

-- without x, then outside a
pub outside-remove : (x : ℕ) (a s : List ℕ) → outside a (remove x s) ≡ outside (x ∷ a) s
outside-remove x a s = simp (remove-outside, outside-outside, outside-snoc)

-- a member after a removal
pub mem-remove : (x y : ℕ) (s : List ℕ) → mem x (remove y s) ≡ not (eqb x y) && mem x s
unfolding mem
mem-remove x y s = simp (remove-outside, mem-outside, or-false)

-- to turn a list round keeps its members
pub mem-reverse : (x : ℕ) (s : List ℕ) → mem x (reverse s) ≡ mem x s
unfolding mem
mem-reverse x [] = refl
mem-reverse x (y ∷ s) =
    rw (reverse-cons y s, mem-append x (reverse s) (y ∷ []), mem-reverse x s, or-false (eqb x y)) (or_comm (mem x s) (eqb x y))

-- to leave out and to turn round, in either order
pub outside-reverse : (a s : List ℕ) → outside a (reverse s) ≡ reverse (outside a s)
unfolding outside
outside-reverse a [] = refl
outside-reverse a (x ∷ s) =
    rw (reverse-cons x s, outside-append a (reverse s) (x ∷ []), outside-reverse a s)
    (by-test (mem x a) (λ e. simp (e, append-nil)) (λ e. simp (e, reverse-cons x (outside a s))))

-- to remove and to turn round, in either order
pub remove-reverse : (x : ℕ) (s : List ℕ) → remove x (reverse s) ≡ reverse (remove x s)
remove-reverse x s = simp (remove-outside, outside-reverse)

-- each member once at its first place: the same members
pub mem-firsts : (x : ℕ) (s : List ℕ) → mem x (firsts s) ≡ mem x s
unfolding mem firsts
mem-firsts x [] = refl
mem-firsts x (y ∷ s) = by-test (eqb x y) (λ e. simp e) (λ e. simp (e, mem-remove, mem-firsts x s))

-- each member once at its last place: the same members
pub mem-cleanup : (x : ℕ) (s : List ℕ) → mem x (cleanup s) ≡ mem x s
unfolding mem cleanup
mem-cleanup x [] = refl
mem-cleanup x (y ∷ s) =
    by-test (mem y s)
    (λ m. by-test (eqb x y) (λ e. simp (m, e, mem-cleanup x s) (rw (eqb-true x y e) m)) (λ e. simp (m, e, mem-cleanup x s)))
    (λ m. simp (m, mem-cleanup x s))

-- what is no member is not removed
pub remove_absent : (x : ℕ) (s : List ℕ) → mem x s ≡ false → remove x s ≡ s
unfolding mem remove
remove_absent x [] h = refl
remove_absent x (y ∷ s) h = by-test (eqb x y) (λ e. clash (simp e) h) (λ e. simp (e, remove_absent x s (simp e at h)))

-- the first reads of a trace and one after it
pub firsts-append : (a b : List ℕ) → firsts (a ++ b) ≡ firsts a ++ outside (firsts a) (firsts b)
unfolding firsts mem
firsts-append [] b = sym (outside-none (firsts b))
firsts-append (x ∷ a) b =
    ap (λ (r : List ℕ). x ∷ r)
    (ap (remove x) (firsts-append a b)
    ∙ simp (remove-outside, outside-append)
    (ap (λ (r : List ℕ). outside (x ∷ []) (firsts a) ++ r)
    (outside-outside (x ∷ []) (firsts a) (firsts b)
    ∙ outside-same (x ∷ firsts a) (x ∷ outside (x ∷ []) (firsts a)) (firsts b)
    (λ z. by-test (eqb z x) (λ e. simp e) (λ e. simp (e, mem-outside))))))

-- a read of what was read adds no first read
pub firsts-known : (x : ℕ) (a : List ℕ) → mem x a ≡ true → firsts (a ++ (x ∷ [])) ≡ firsts a
firsts-known x a h = firsts-append a (x ∷ []) ∙ unfold outside firsts remove in simp (mem-firsts, h, append-nil)

-- a read of a new extent comes last among the first reads
pub firsts-new : (x : ℕ) (a : List ℕ) → mem x a ≡ false → firsts (a ++ (x ∷ [])) ≡ firsts a ++ (x ∷ [])
firsts-new x a h = firsts-append a (x ∷ []) ∙ unfold outside firsts remove in simp (mem-firsts, h)

-- a longer trace has no fewer extents
pub firsts-longer : (u t : List ℕ) → length (firsts t) ≤ length (firsts (t ++ u))
firsts-longer u t = rw (firsts-append t u, length-append) (omega arith)
