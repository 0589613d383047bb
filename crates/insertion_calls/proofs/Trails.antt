-- A trail goes on with a read of another extent, by its depth in the stack without the read put in.
use mathlib.Core.Path.{◌≡◌, refl, sym, ap, ◌∙◌}
use mathlib.Core.Logic.{◌⊎◌, inl, inr, ⊎_elim}
use Prim.Native.Nat.{ℕ, suc, ◌+◌, ◌≤◌, ◌<◌}
use native.Mathlib.Omega.{arith}
use mathlib.Core.List.{List, [], ◌∷◌, ◌++◌, foldl, foldl-append}
use mathlib.Core.Bool.{Bool, true, false, cond, ◌||◌, or-false}
use lib.Dec.{eqb, leb}
use lib.ListN.{length}
use borrow.Author.Tests.{eqb-true, eqb-false, leb-true, leb-false, le-leb, lt-leb}
use Rattle.reuse.specs.Lists.{mem, remove, before, distinct}
use Rattle.reuse.specs.Lru.{at, cold, depth, touch}
use Rattle.reuse.proofs.Lists.{by-test, clash, eqb-sym, mem-append, mem-remove, remove_absent, remove-outside}
use Rattle.reuse.proofs.Distinct.{distinct_remove, length-remove}
use Rattle.reuse.proofs.Stack.{distinct-touch, length-known, length-new}
use Rattle.reuse.proofs.Depth.{depth-top, depth-under, depth-within, depth-absent, before-outside, distinct-before, mem-before}
use Rattle.insertion_calls.specs.Misses.{miss_of, misses_from}
use Rattle.insertion_calls.specs.Trails.{Trail}
use Rattle.insertion_calls.proofs.Steps.{misses-snoc, misses-none}
use Rattle.insertion_calls.proofs.Moved.{touch_plain, touch-moved, moved-top}

-- y stands above x in b, or x does not stand there
record Above (x y : ℕ) (b : List ℕ) : Type 0 where
  found : mem y (before x b) ≡ true
  clear : mem x (before y b) ≡ false
  less : length (before y b) < length (before x b)

-- y stands below x
record Below (x y : ℕ) (b : List ℕ) : Type 0 where
  clear : mem y (before x b) ≡ false
  found : mem x (before y b) ≡ true
  less : length (before x b) < length (before y b)

-- one or the other
order : (x y : ℕ) (b : List ℕ) → eqb y x ≡ false → mem y b ≡ true → Above x y b ⊎ Below x y b
unfolding mem before
order x y [] o m = clash m refl
order x y (z ∷ b) o m =
    by-test (eqb y z)
    (λ e. let n : eqb x z ≡ false = rw (eqb-true y z e) at (eqb-sym x y ∙ o) in
    inl (record { found = simp (e, n); clear = simp e; less = simp (e, n) (omega arith) }))
    (λ e. by-test (eqb x z)
    (λ f. inr (record { clear = simp (e, f); found = simp (e, f); less = simp (e, f) (omega arith) }))
    (λ f. ⊎_elim
    (λ h. inl (record { found = simp (e, f, h.found); clear = simp (e, f, h.clear); less = simp (e, f) (omega (arith, h.less)) }))
    (λ h. inr (record { clear = simp (e, f, h.clear); found = simp (e, f, h.found); less = simp (e, f) (omega (arith, h.less)) }))
    (order x y b o (simp e at m))))

-- where neither holds, each fails
neither : (p q : Bool) → (p || q) ≡ false → (p ≡ false) × (q ≡ false)
neither true q h = clash refl h
neither false q h = (refl, h)

-- to remove before a member, and after it
before-remove : (x y : ℕ) (b : List ℕ) → eqb x y ≡ false → before x (remove y b) ≡ remove y (before x b)
unfolding mem
before-remove x y b o = rw (remove-outside y b, before-outside x (y ∷ []) b (simp (o, or-false)), ← remove-outside y (before x b))

-- at the place no read has come
pub trail-start : (here : List ℕ) (x c : ℕ) → distinct here ≡ true → Trail here x c [] 0 (suc (length (before x here))) 0
unfolding touch distinct mem
trail-start here x c d = record {
  newer = [];
  older = here;
  plain = refl;
  moved = refl;
  newer-once = refl;
  older-once = d;
  apart = λ z m. clash m refl;
  unread = refl;
  known = refl;
  since-is = refl;
  depth_is = omega arith;
  spoiled-is = rw (misses-none c (x ∷ remove x here), misses-none c here);
}

-- one more read, of another extent y
module _ (here : List ℕ) (x c : ℕ) (reads : List ℕ) (since depth' spoiled : ℕ) (h : Trail here x c reads since depth' spoiled) (y : ℕ) (other : eqb y x ≡ false) where
  -- the two stacks
  abbrev a : List ℕ
  a = h.newer

  abbrev b : List ℕ
  b = h.older

  abbrev plainly : List ℕ
  plainly = a ++ b

  abbrev movedly : List ℕ
  movedly = a ++ (x ∷ remove x b)

  -- the numbers afterwards, by what the read does to the misses of both
  next : (since'' depth'' spoiled'' : ℕ) → since'' ≡ length (touch a y) → depth'' ≡ suc (length (touch a y) + length (remove y (before x b)))
      → miss_of c movedly y + spoiled ≡ miss_of c plainly y + spoiled'' → Trail here x c (reads ++ (y ∷ [])) since'' depth'' spoiled''
  unfolding mem
  next since'' depth'' spoiled'' s d m = record {
    newer = touch a y;
    older = remove y b;
    plain = foldl-append touch here reads (y ∷ []) ∙ rw h.plain (touch_plain x a b y);
    moved = foldl-append touch (touch here x) reads (y ∷ []) ∙ rw h.moved (touch-moved x a b y other);
    newer-once = distinct-touch a y h.newer-once;
    older-once = distinct_remove y b h.older-once;
    apart = λ z k. by-test (eqb z y)
        (λ e. simp (mem-remove, e))
        (λ e. let i : mem z a ≡ true = unfold touch in simp (e, mem-remove) at k in simp (mem-remove, e, h.apart z i));
    unread = unfold touch in simp (eqb-sym x y, other, mem-remove, h.unread);
    known = simp (mem-remove, eqb-sym x y, other) h.known;
    since-is = s;
    depth_is = rw (before-remove x y b (eqb-sym x y ∙ other)) d;
    spoiled-is =
        let p : misses_from c here (reads ++ (y ∷ [])) ≡ misses_from c here reads + miss_of c plainly y = misses-snoc c here reads y ∙ rw h.plain in
        let q : misses_from c (touch here x) (reads ++ (y ∷ [])) ≡ misses_from c (touch here x) reads + miss_of c movedly y = misses-snoc c (touch here x) reads y ∙ rw h.moved in
        omega (arith, h.spoiled-is);
  }

  -- y was not read before: it misses both times
  pub trail-cold : mem y (foldl touch here reads) ≡ false → Trail here x c (reads ++ (y ∷ [])) (since + 1) (depth' + 1) spoiled
  unfolding miss_of mem
  trail-cold m =
      let k : (mem y a ≡ false) × (mem y b ≡ false) = neither (mem y a) (mem y b) (sym (mem-append y a b) ∙ rw h.plain at m) in
      next (since + 1) (depth' + 1) spoiled
      (omega (arith, h.since-is, length-new a y k.0))
      (rw (remove_absent y (before x b) (mem-before x y b k.1)) (omega (arith, h.depth_is, length-new a y k.0)))
      (rw (
        depth-absent y plainly (simp (mem-append, k.0, k.1)),
        depth-absent y movedly (simp (mem-append, k.0, k.1, other, mem-remove)),
      ))

  -- y stands at a depth
  module _ (d : ℕ) (e : depth (foldl touch here reads) y ≡ at d) where
    -- in the stack of both parts
    at-d : depth plainly y ≡ at d
    at-d = rw h.plain at e

    -- among the newer
    top : mem y a ≡ true → d ≤ since
    top m = omega (arith, h.since-is, (depth-within y a d (sym (depth-top y a b m) ∙ at-d)).1)

    -- or the older
    under : mem y a ≡ false → (mem y b ≡ true) × (d ≡ suc (length a + length (before y b)))
    under m =
        by-test (mem y b)
        (λ k. (k, let q : at (suc (length a + length (before y b))) ≡ at d = sym (depth-under y a b m ∙ rw k) ∙ at-d in cc))
        (λ k. let q : cold (suc (length a + length b)) ≡ at d = sym (depth-under y a b m ∙ rw k) ∙ at-d in let z : ◌≡◌ {A = ℕ} 0 1 = cc in absurd (omega arith))

    -- among the newer: nothing changes
    pub trail-top : d ≤ since → Trail here x c (reads ++ (y ∷ [])) since depth' spoiled
    trail-top l =
        by-test (mem y a)
        (λ m. next since depth' spoiled
        (omega (arith, h.since-is, length-known a y h.newer-once m))
        (rw (remove_absent y (before x b) (mem-before x y b (h.apart y m))) (omega (arith, h.depth_is, length-known a y h.newer-once m)))
        (rw (moved-top x a b c y m)))
        (λ m. absurd (omega (arith, h.since-is, (under m).1)))

    -- among the older
    module _ (l : since < d) where
      -- not the newer
      older : mem y a ≡ false
      older = by-test (mem y a) (λ m. absurd (omega (arith, top m))) (λ m. m)

      -- its depth with the read put in
      moved-depth : depth movedly y ≡ at (suc (length a + suc (length (remove x (before y b)))))
      unfolding mem before
      moved-depth =
          depth-under y a (x ∷ remove x b) older
          ∙ simp (other, mem-remove, (under older).0, before-remove y x b other)

      -- below x: as deep with the read put in, and x one deeper without it
      pub trail-below : depth' < d → Trail here x c (reads ++ (y ∷ [])) (since + 1) (depth' + 1) spoiled
      unfolding miss_of
      trail-below g =
          ⊎_elim
          (λ o. absurd (omega (arith, h.depth_is, (under older).1, o.less)))
          (λ o. let n : suc (length (remove x (before y b))) ≡ length (before y b) = length-remove x (before y b) (distinct-before y b h.older-once) o.found in
          let same : depth movedly y ≡ at d = moved-depth ∙ ap at (omega (arith, (under older).1)) in
          next (since + 1) (depth' + 1) spoiled
          (omega (arith, h.since-is, length-new a y older))
          (rw (remove_absent y (before x b) o.clear) (omega (arith, h.depth_is, length-new a y older)))
          (rw (same, at-d)))
          (order x y b other (under older).0)

      -- above x: one deeper with the read put in
      pub trail-above : d ≤ depth' → Trail here x c (reads ++ (y ∷ [])) (since + 1) depth' (spoiled + cond (eqb d c) 1 0)
      unfolding miss_of
      trail-above g =
          ⊎_elim
          (λ o. let n : suc (length (remove y (before x b))) ≡ length (before x b) = length-remove y (before x b) (distinct-before x b h.older-once) o.found in
          let deeper : depth movedly y ≡ at (suc d) =
          moved-depth ∙ ap at (let k : remove x (before y b) ≡ before y b = remove_absent x (before y b) o.clear in rw k (omega (arith, (under older).1))) in
          next (since + 1) depth' (spoiled + cond (eqb d c) 1 0)
          (omega (arith, h.since-is, length-new a y older))
          (omega (arith, h.depth_is, length-new a y older))
          (rw (deeper, at-d) one_deeper))
          (λ o. absurd (omega (arith, h.depth_is, (under older).1, o.less)))
          (order x y b other (under older).0)
        where
          -- that is a miss more at the depth of the size alone
          one_deeper : cond (leb (suc d) c) 0 1 + spoiled ≡ cond (leb d c) 0 1 + (spoiled + cond (eqb d c) 1 0)
          one_deeper =
              by-test (eqb d c)
              (λ q. let z : d ≡ c = eqb-true d c q in simp (q, lt-leb (suc d) c (omega arith), le-leb d c (omega arith)) (omega arith))
              (λ q. by-test (leb d c)
              (λ k. let u : d < c = omega (arith, leb-true d c k, eqb-false d c q) in simp (q, k, le-leb (suc d) c (omega arith)) (omega arith))
              (λ k. simp (q, k, lt-leb (suc d) c (omega (arith, leb-false d c k))) (omega arith)))
