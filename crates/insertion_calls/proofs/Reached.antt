-- Both ends of the range are reached by logs of small numbers, in the call too where the limits allow.
use Rattle.std.specs.Prelude.{Ok}
use mathlib.Core.Path.{◌≡◌, refl, ap, ◌∙◌}
use Prim.Native.Nat.{ℕ, zero, suc, ◌+◌, ◌≤◌, ◌<◌}
use native.Mathlib.Omega.{arith}
use native.Mathlib.Numerals.{add-one}
use mathlib.Core.List.{List, [], ◌∷◌, ◌++◌}
use mathlib.Core.Bool.{true, false, or-true, or-false}
use lib.Dec.{eqb}
use lib.IntN.{ℤ, pos, neg_ℤ}
use lib.ListN.{length, length-append}
use borrow.Author.Tests.{eqb-true, ne_eqb}
use Rattle.reuse.specs.Limits.{max_reads, max_extents}
use Rattle.reuse.specs.Lists.{mem, distinct, firsts, from}
use Rattle.reuse.proofs.Lists.{by-test, mem-append, mem-firsts, eqb_same}
use Rattle.reuse.proofs.Distinct.{distinct_cons, distinct-firsts}
use Rattle.reuse.proofs.Sizes.{fewer}
use Rattle.reuse.proofs.Counts.{length_from, from-snoc}
use Rattle.insertion_calls.specs.Insertion.{put, change_of}
use Rattle.insertion_calls.specs.Ends.{rounds, late_again}
use Rattle.insertion_calls.specs.Calls.{insertion_call}
use Rattle.insertion_calls.proofs.Puts.{length-put, mem-put}
use Rattle.insertion_calls.proofs.Ends.{upper-end, lower-end}
use Rattle.insertion_calls.proofs.Calls.{call-change}

-- a number below k is none of k, k + 1, and so on
mem_below : (x k n : ℕ) → x < k → mem x (from k n) ≡ false
unfolding mem from
mem_below x k zero l = refl
mem_below x k (suc n) l = simp (ne_eqb x k (λ e. omega arith), mem_below x (suc k) n (omega arith))

-- nor is one past them
mem-past : (x k n : ℕ) → k + n ≤ x → mem x (from k n) ≡ false
unfolding mem from
mem-past x k zero l = refl
mem-past x k (suc n) l = simp (ne_eqb x k (λ e. omega arith), mem-past x (suc k) n (omega arith))

-- they differ
once-from : (k n : ℕ) → distinct (from k n) ≡ true
unfolding from
once-from k zero = unfold distinct in refl
once-from k (suc n) = distinct_cons k (from (suc k) n) (mem_below k (suc k) n (omega arith)) (once-from (suc k) n)

-- at every size c, c + 1 put in between the rounds adds c + 1 misses
pub upper-reached : (c : ℕ) → change_of c c (suc c) (rounds c) ≡ pos (c + 1)
unfolding rounds
upper-reached c = rw (length_from 1 c) at (upper-end (from 1 c) (suc c) (once-from 1 c) (mem-past (suc c) 1 c (omega arith)))

-- at every size from 2 up, 1 put in after 2 spares a miss
pub lower-reached : (c : ℕ) → 2 ≤ c → change_of c 2 1 (late_again c) ≡ neg_ℤ (pos 1)
unfolding late_again from
lower-reached zero l = absurd (omega arith)
lower-reached (suc zero) l = absurd (omega arith)
lower-reached (suc (suc m)) l =
    rw (length_from 3 (suc m), add-one (suc m)) at (lower-end 1 2 (from 3 (suc m)) (once-from 1 (suc (suc (suc m)))) (omega arith))

-- the longer log has no more extents than 1 to n, where it reads none but these
module _ (p x n : ℕ) (t : List ℕ) (these : (z : ℕ) → mem z (t ++ (x ∷ [])) ≡ true → mem z (from 1 n) ≡ true) where
  extents-most : length (firsts (put p x t)) ≤ n
  extents-most =
      omega (
        arith,
        length_from 1 n,
        fewer (firsts (put p x t)) (from 1 n) (distinct-firsts (put p x t)) (λ z m. these z (rw (mem-firsts z (put p x t), mem-put p x t z) at m)),
      )

  -- so the call answers, where the log is short and n within the limit
  call-answers : p ≤ length t → length t < max_reads → n ≤ max_extents → (c : ℕ) (d : ℤ) → change_of c p x t ≡ d → insertion_call t p x c ≡ Ok d
  call-answers l s f c d e =
      call-change t p x c l (record { reads = omega (arith, length-put p x t); extents = omega (arith, extents-most) })
      ∙ ap Ok e

-- what a log and one read more read, by a list that is known
last-known : (z x : ℕ) (a b : List ℕ) → (mem z a ≡ true → mem z b ≡ true) → mem x b ≡ true → mem z (a ++ (x ∷ [])) ≡ true → mem z b ≡ true
unfolding mem
last-known z x a b h k m =
    by-test (eqb z x) (λ e. rw (eqb-true z x e) k)
    (λ e. h (simp (e, or-false) at (rw (mem-append z a (x ∷ [])) at m)))

-- c + 1 is one of 1 to c + 1
last-in : (c : ℕ) → mem (suc c) (from 1 (suc c)) ≡ true
unfolding mem
last-in c =
    let s : 1 + c ≡ suc c = omega arith in
    rw (from-snoc 1 c, s) (rw (mem-append (suc c) (from 1 c) (suc c ∷ [])) (simp (eqb_same, or-true)))

-- and 1 to c are
earlier-in : (z c : ℕ) → mem z (from 1 c) ≡ true → mem z (from 1 (suc c)) ≡ true
earlier-in z c m = rw (from-snoc 1 c) (rw (mem-append z (from 1 c) ((1 + c) ∷ [])) (simp m))

-- within the limit of extents
module _ (c : ℕ) (few : c < max_extents) where
  -- the call reaches the upper end
  pub upper-called : insertion_call (rounds c) c (suc c) c ≡ Ok (pos (c + 1))
  unfolding rounds
  upper-called =
      let n : length (from 1 c) ≡ c = length_from 1 c in
      call-answers c (suc c) (suc c) (rounds c)
      (λ z. last-known z (suc c) (rounds c) (from 1 (suc c))
      (λ m. earlier-in z c (by-test (mem z (from 1 c)) (λ e. e) (λ e. e ∙ (simp e at (rw (mem-append z (from 1 c) (from 1 c)) at m))))) (last-in c))
      (omega (arith, length-append (from 1 c) (from 1 c))) (omega (arith, length-append (from 1 c) (from 1 c))) (omega arith)
      c (pos (c + 1)) (upper-reached c)

  -- and from size 2 up the lower one
  pub lower-called : 2 ≤ c → insertion_call (late_again c) 2 1 c ≡ Ok (neg_ℤ (pos 1))
  unfolding late_again mem from
  lower-called l =
      let n : length (from 1 (suc c)) ≡ suc c = length_from 1 (suc c) in
      call-answers 2 1 (suc c) (late_again c)
      (λ z. let first : mem 1 (from 1 (suc c)) ≡ true = refl in
      last-known z 1 (late_again c) (from 1 (suc c)) (last-known z 1 (from 1 (suc c)) (from 1 (suc c)) (λ m. m) first) first)
      (omega (arith, length-append (from 1 (suc c)) (1 ∷ []))) (omega (arith, length-append (from 1 (suc c)) (1 ∷ []))) (omega arith)
      c (neg_ℤ (pos 1)) (lower-reached c l)
