-- Both ends of the range are reached: c + 1 at every size c, −1 at every size from 2 up.
use mathlib.Core.Path.{◌≡◌, sym, ap, ◌∙◌}
use Prim.Native.Nat.{ℕ, suc, ◌+◌, ◌≤◌}
use native.Mathlib.Omega.{arith}
use native.Mathlib.Nat.{suc-add, add-suc}
use mathlib.Core.List.{List, [], ◌∷◌, ◌++◌, reverse, reverse-cons, append_assoc, append-nil}
use mathlib.Core.Bool.{true, false, cond, not}
use lib.Dec.{eqb, leb}
use lib.IntN.{pos, negsuc, neg_ℤ}
use lib.ListN.{length, length-append, length-reverse}
use lib.Seq.{take-append_seam, drop-append_seam}
use borrow.Author.Tests.{eqb-true, le-leb, lt-leb, not-true}
use Rattle.reuse.specs.Lists.{mem, remove, before, distinct, outside}
use Rattle.reuse.specs.Lru.{depth, touch, stack}
use Rattle.reuse.proofs.Lists.{by-test, clash, both, cond_same, mem-head, mem-tail, mem-remove, mem-reverse, eqb_same, eqb-sym, remove_absent}
use Rattle.reuse.proofs.Distinct.{distinct_head, distinct_tail, distinct_cons, distinct_snoc, distinct-reverse, cleanup-distinct}
use Rattle.reuse.proofs.Stack.{stack-law, stack-over}
use Rattle.reuse.proofs.Depth.{depth-last, depth-absent, depth-under}
use Rattle.insertion_calls.specs.Insertion.{change_of}
use Rattle.insertion_calls.specs.Misses.{miss_of, misses_from, misses_with}
use Rattle.insertion_calls.proofs.Steps.{misses-none, misses-step, misses-snoc}
use Rattle.insertion_calls.proofs.Moved.{remove-append}
use Rattle.insertion_calls.proofs.Integers.{gap_is, gap_down}
use Rattle.insertion_calls.proofs.Changes.{change-rest}

-- a read of what lies undermost alone
module _ (c : ℕ) (u : List ℕ) (y : ℕ) (new : mem y u ≡ false) where
  -- its distance is the number of extents
  last-miss : miss_of c (u ++ (y ∷ [])) y ≡ cond (leb (suc (length u)) c) 0 1
  unfolding miss_of
  last-miss = rw (depth-last y u new)

  -- it comes to the top
  last-touch : touch (u ++ (y ∷ [])) y ≡ y ∷ u
  unfolding touch remove
  last-touch = simp (remove-append, eqb_same, append-nil, remove_absent y u new)

-- to read a stack's lower part from below: each read has the number of all its extents as its distance
round-misses : (c : ℕ) (a l : List ℕ) → distinct (a ++ reverse l) ≡ true
    → misses_from c (a ++ reverse l) l ≡ cond (leb (length a + length l) c) 0 (length l)
unfolding misses_with
round-misses c a [] d = misses-none c (a ++ []) ∙ sym (cond_same (leb (length a + 0) c) 0)
round-misses c a (y ∷ l) d =
    let u : List ℕ = a ++ reverse l in
    let low : a ++ reverse (y ∷ l) ≡ u ++ (y ∷ []) = rw (reverse-cons y l, append_assoc a (reverse l) (y ∷ [])) in
    let h : (not (mem y u) ≡ true) × (distinct u ≡ true) = both (not (mem y u)) (distinct u) (sym (distinct_snoc y u) ∙ rw low at d) in
    let new : mem y u ≡ false = not-true (mem y u) h.0 in
    let n : length u ≡ length a + length l = simp (length-append, length-reverse) in
    let i : misses_from c (y ∷ u) l ≡ cond (leb (suc (length a) + length l) c) 0 (length l) =
    round-misses c (y ∷ a) l (distinct_cons y u new h.1) in
    ap (λ (r : List ℕ). misses_from c r (y ∷ l)) low
    ∙ misses-step c (u ++ (y ∷ [])) y l
    ∙ rw (last-miss c u y new, last-touch c u y new, i, n, suc-add (length a) (length l), add-suc (length a) (length l))
    (by-test (leb (suc (length a + length l)) c) (λ e. simp e) (λ e. simp e (omega arith)))

-- the stack after different extents
stack-once : (l : List ℕ) → distinct l ≡ true → stack l ≡ reverse l
stack-once l d = stack-law l ∙ ap reverse (cleanup-distinct l d)

-- the extents l, read twice over, and one more
module _ (l : List ℕ) (x : ℕ) (d : distinct l ≡ true) (new : mem x l ≡ false) where
  -- each stands once in the stack
  once : distinct (reverse l) ≡ true
  once = distinct-reverse l ∙ d

  -- not the one more
  fresh : mem x (reverse l) ≡ false
  fresh = mem-reverse x l ∙ new

  -- c different extents read twice over, with a new one between, at size c: c + 1 more misses
  pub upper-end : change_of (length l) (length l) x (l ++ l) ≡ pos (length l + 1)
  unfolding misses_with miss_of touch
  upper-end =
      let c : ℕ = length l in
      change-rest c c x (l ++ l)
      ∙ rw (take-append_seam l l, drop-append_seam l l, stack-once l d, depth-absent x (reverse l) fresh, remove_absent x (reverse l) fresh)
      (gap_is (1 + misses_from c (x ∷ reverse l) l) (misses_from c (reverse l) l) (c + 1)
      (omega (arith, alone, beside)))
    where
      -- without it each read of the second round hits
      alone : misses_from (length l) (reverse l) l ≡ 0
      alone = round-misses (length l) [] l once ∙ rw (le-leb (0 + length l) (length l) (omega arith))

      -- with it none does
      beside : misses_from (length l) (x ∷ reverse l) l ≡ length l
      beside =
          round-misses (length l) (x ∷ []) l (distinct_cons x (reverse l) fresh once)
          ∙ rw (lt-leb (1 + length l) (length l) (omega arith))

-- reads of different extents that are not in the stack all miss
new-misses : (c : ℕ) (s l : List ℕ) → distinct l ≡ true → ((z : ℕ) → mem z l ≡ true → mem z s ≡ false) → misses_from c s l ≡ length l
unfolding misses_with miss_of touch mem
new-misses c s [] d h = misses-none c s
new-misses c s (y ∷ l) d h =
    misses-step c s y l
    ∙ rw (
      depth-absent y s (h y (mem-head y l)),
      new-misses c (touch s y) l (distinct_tail y l d)
          (λ z m. by-test (eqb z y)
          (λ e. clash m (rw (eqb-true z y e) (distinct_head y l d)))
          (λ e. simp (e, mem-remove, h z (mem-tail z y l m)))),
    )
    (omega arith)

-- the extents l read from a stack of two others, and then x
over-two : (c p q : ℕ) (l : List ℕ) (x : ℕ) → distinct l ≡ true → mem p l ≡ false → mem q l ≡ false
    → misses_from c (p ∷ q ∷ []) (l ++ (x ∷ [])) ≡ length l + miss_of c (reverse l ++ (p ∷ q ∷ [])) x
unfolding outside mem
over-two c p q l x d pl ql =
    misses-snoc c (p ∷ q ∷ []) l x
    ∙ rw (new-misses c (p ∷ q ∷ []) l d apart, stack-over (p ∷ q ∷ []) l, stack-once l d, pl, ql)
  where
    -- none of l is one of the two
    apart : (z : ℕ) → mem z l ≡ true → mem z (p ∷ q ∷ []) ≡ false
    apart z m =
        by-test (eqb z p) (λ e. clash m (rw (eqb-true z p e) pl))
        (λ e. by-test (eqb z q) (λ f. clash m (rw (eqb-true z q f) ql)) (λ f. simp (e, f)))

-- x and y, then the extents l, then x
module _ (x y : ℕ) (l : List ℕ) (d : distinct (x ∷ y ∷ l) ≡ true) (some : 1 ≤ length l) where
  -- they differ
  apart : (eqb x y ≡ false) × (mem x l ≡ false)
  unfolding mem
  apart =
      let h : mem x (y ∷ l) ≡ false = distinct_head x (y ∷ l) d in
      by-test (eqb x y) (λ e. clash (simp e) h) (λ e. (e, simp e at h))

  -- after l, x under y is too deep for that size
  too-deep : miss_of (length l + 1) (reverse l ++ (y ∷ x ∷ [])) x ≡ 1
  unfolding miss_of mem before
  too-deep =
      rw (depth-under x (reverse l) (y ∷ x ∷ []) (mem-reverse x l ∙ apart.1))
      (simp (apart.0, eqb_same, length-reverse, lt-leb (suc (length l + 1)) (length l + 1) (omega arith)))

  -- and x over y is not
  held : miss_of (length l + 1) (reverse l ++ (x ∷ y ∷ [])) x ≡ 0
  unfolding miss_of mem before
  held =
      rw (depth-under x (reverse l) (x ∷ y ∷ []) (mem-reverse x l ∙ apart.1))
      (simp (eqb_same, length-reverse, le-leb (suc (length l + 0)) (length l + 1) (omega arith)))

  -- a read of x put in before l, at the size that is one more than their number: one miss less
  pub lower-end : change_of (length l + 1) 2 x (x ∷ y ∷ (l ++ (x ∷ []))) ≡ neg_ℤ (pos 1)
  unfolding misses_with miss_of touch stack remove depth
  lower-end =
      let c : ℕ = length l + 1 in
      let e : eqb x y ≡ false = apart.0 in
      let xl : mem x l ≡ false = apart.1 in
      let yl : mem y l ≡ false = distinct_head y l (distinct_tail x (y ∷ l) d) in
      let dl : distinct l ≡ true = distinct_tail y l (distinct_tail x (y ∷ l) d) in
      change-rest c 2 x (x ∷ y ∷ (l ++ (x ∷ [])))
      ∙ simp (eqb-sym y x, e, eqb_same, le-leb 2 c (omega arith), over-two c y x l x dl yl xl, over-two c x y l x dl xl yl, held, too-deep)
      (gap_down (0 + (length l + 0)) (length l + 1) (omega arith) ∙ ap negsuc (omega arith))
