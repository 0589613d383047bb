-- Lists with no member twice, compared by their members.
use mathlib.Core.Path.{◌≡◌, refl, sym, ◌∙◌}
use Prim.Native.Nat.{ℕ, suc, ◌+◌, ◌≤◌, ◌<◌}
use native.Mathlib.Omega.{arith}
use mathlib.Core.List.{List, [], ◌∷◌}
use mathlib.Core.Bool.{true}
use lib.Dec.{eqb}
use lib.ListN.{length}
use borrow.Author.Tests.{eqb-true}
use Rattle.reuse.specs.Lists.{mem, all_in, remove, cleanup, distinct, inside, outside}
use Rattle.reuse.proofs.Lists.{by-test, clash, both, mem-head, mem-tail, mem-remove, mem-cleanup}
use Rattle.reuse.proofs.Distinct.{distinct_head, distinct_tail, distinct_cons}

-- removal does not lengthen
pub remove-le : (x : ℕ) (s : List ℕ) → length (remove x s) ≤ length s
unfolding remove
remove-le x [] = omega arith
remove-le x (y ∷ s) = let i : length (remove x s) ≤ length s = remove-le x s in by-test (eqb x y) (λ e. simp e (omega arith)) (λ e. simp e (omega arith))

-- to remove a member shortens
pub remove-lt : (x : ℕ) (s : List ℕ) → mem x s ≡ true → length (remove x s) < length s
unfolding remove mem
remove-lt x [] h = clash h refl
remove-lt x (y ∷ s) h =
    by-test (eqb x y) (λ e. let i : length (remove x s) ≤ length s = remove-le x s in simp e (omega arith))
    (λ e. let i : length (remove x s) < length s = remove-lt x s (simp e at h) in simp e (omega arith))

-- the members of a distinct list fit into no shorter list
pub fewer : (a b : List ℕ) → distinct a ≡ true → ((x : ℕ) → mem x a ≡ true → mem x b ≡ true) → length a ≤ length b
fewer [] b d h = omega arith
fewer (x ∷ a) b d h =
    let s : length (remove x b) < length b = remove-lt x b (h x (mem-head x a)) in
    let i : length a ≤ length (remove x b) = fewer a (remove x b) (distinct_tail x a d)
    (λ z m. by-test (eqb z x)
    (λ e. clash m (rw (eqb-true z x e) (distinct_head x a d)))
    (λ e. simp (mem-remove, e, h z (mem-tail z x a m)))) in
    omega arith

-- distinct lists with the same members have one length
pub same_size : (a b : List ℕ) → distinct a ≡ true → distinct b ≡ true → ((x : ℕ) → mem x a ≡ mem x b) → length a ≡ length b
same_size a b d e h =
    let l : length a ≤ length b = fewer a b d (λ x m. sym (h x) ∙ m) in
    let g : length b ≤ length a = fewer b a e (λ x m. h x ∙ m) in
    omega arith

-- dropping repeats does not lengthen
pub cleanup-le : (s : List ℕ) → length (cleanup s) ≤ length s
unfolding cleanup
cleanup-le [] = omega arith
cleanup-le (x ∷ s) = let i : length (cleanup s) ≤ length s = cleanup-le s in by-test (mem x s) (λ e. simp e (omega arith)) (λ e. simp e (omega arith))

-- a list that dropping repeats does not shorten has none
pub distinct-long : (s : List ℕ) → length s ≤ length (cleanup s) → distinct s ≡ true
unfolding cleanup
distinct-long [] h = unfold distinct in refl
distinct-long (x ∷ s) h =
    let i : length (cleanup s) ≤ length s = cleanup-le s in
    by-test (mem x s)
    (λ e. let k : suc (length s) ≤ length (cleanup s) = simp e at h in absurd (omega arith))
    (λ e. let k : suc (length s) ≤ suc (length (cleanup s)) = simp e at h in
    distinct_cons x s e (distinct-long s (omega arith)))

-- a list as long as a distinct one whose members it has
module _ (f r : List ℕ) (d : distinct f ≡ true) (h : (x : ℕ) → mem x f ≡ true → mem x r ≡ true) (l : length r ≡ length f) where
  -- it is distinct
  pub full-distinct : distinct r ≡ true
  full-distinct =
      let k : length f ≤ length (cleanup r) = fewer f (cleanup r) d (λ x m. mem-cleanup x r ∙ h x m) in
      distinct-long r (omega arith)

  -- it has no other members
  pub full-same : (x : ℕ) → mem x r ≡ mem x f
  unfolding mem
  full-same x =
      by-test (mem x f) (λ m. h x m ∙ sym m)
      (λ m. by-test (mem x r)
      (λ k. let w : length (x ∷ f) ≤ length r = fewer (x ∷ f) r (distinct_cons x f m d)
      (λ z n. by-test (eqb z x) (λ e. rw (eqb-true z x e) k) (λ e. h z (simp e at n))) in
      absurd (omega arith))
      (λ k. k ∙ sym m))

-- the test that all members of one list are in another passes where they are
pub all_in_lem : (a b : List ℕ) → ((x : ℕ) → mem x a ≡ true → mem x b ≡ true) → all_in a b ≡ true
unfolding all_in
all_in_lem [] b h = refl
all_in_lem (x ∷ a) b h = rw (h x (mem-head x a)) (all_in_lem a b (λ z m. h z (mem-tail z x a m)))

-- and only there
pub in_all : (a b : List ℕ) → all_in a b ≡ true → (x : ℕ) → mem x a ≡ true → mem x b ≡ true
unfolding all_in mem
in_all [] b h x m = clash m refl
in_all (y ∷ a) b h x m =
    let p = both (mem y b) (all_in a b) h in
    by-test (eqb x y) (λ e. rw (eqb-true x y e) p.0) (λ e. in_all a b p.1 x (simp e at m))

-- the members of two lists are the same where each is in the other
pub all_same : (a b : List ℕ) → all_in a b ≡ true → all_in b a ≡ true → (y : ℕ) → mem y a ≡ mem y b
all_same a b h g y =
    by-test (mem y a) (λ m. m ∙ sym (in_all a b h y m))
    (λ m. by-test (mem y b) (λ n. clash (in_all b a g y n) m) (λ n. m ∙ sym n))

-- the members inside and those outside make up the list
pub length-split : (a s : List ℕ) → length (inside a s) + length (outside a s) ≡ length s
unfolding inside outside
length-split a [] = refl
length-split a (x ∷ s) =
    let i : length (inside a s) + length (outside a s) ≡ length s = length-split a s in
    by-test (mem x a) (λ e. simp e (omega arith)) (λ e. simp e (omega arith))
