-- The slots that a search looks at: from the newest down to the extent's own mark, or all below next.
use Prim.Native.Nat.{ℕ, zero, suc, ◌+◌, ◌-◌, ◌<◌}
use mathlib.Core.Path.{◌≡◌, refl, sym, ap, ◌∙◌}
use mathlib.Core.List.{List, [], ◌∷◌, reverse, reverse-append}
use mathlib.Core.Bool.{true, false}
use native.Mathlib.Omega.{arith}
use native.Mathlib.Decide.{ℕ_discrete}
use lib.ListN.{length, length-reverse}
use Rattle.reuse.specs.Lists.{mem, from}
use Rattle.session_marks.specs.Marks.{marked, slot_from, is_mark_of, looked_of, looked_below, Searched}
use Rattle.reuse.proofs.Lists.{clash, by-test}
use Rattle.reuse.proofs.Counts.{length_from, from-snoc}
use Rattle.session_marks.proofs.Marks.{mem-marked, slot-found, slot-marked, out_below}
use Rattle.session_marks.proofs.Search.{searched-row, mark_of, of-mark}

-- a run of numbers, the largest first
run_down : (k n : ℕ) → reverse (from k (suc n)) ≡ (k + n) ∷ reverse (from k n)
run_down k n = ap reverse (from-snoc k n) ∙ reverse-append (from k n) ((k + n) ∷ [])

-- it has its length
length-down : (k n : ℕ) → length (reverse (from k n)) ≡ n
length-down k n = length-reverse (from k n) ∙ length_from k n

module _ (xs ms : List ℕ) (x : ℕ) where
  -- at the slot with the mark of x the search ends
  looked-here : (i : ℕ) → is_mark_of xs ms x i ≡ true → looked_below xs ms x (suc i) ≡ i ∷ []
  unfolding looked_of
  looked-here i t = rw t

  -- past a slot without it the search goes on
  looked-on : (i : ℕ) → is_mark_of xs ms x i ≡ false → looked_below xs ms x (suc i) ≡ i ∷ looked_below xs ms x i
  unfolding looked_of
  looked-on i f = rw f

  -- where the search below suc k ends at slot k, and no slot between k and n has the mark of x, the search below n goes down to k
  looked-down : (k n : ℕ) → looked_below xs ms x (suc k) ≡ k ∷ [] → ((i : ℕ) → k < i → i < n → is_mark_of xs ms x i ≡ false) → k < n
      → looked_below xs ms x n ≡ reverse (from k (n - k))
  looked-down k zero here free l = absurd (omega arith)
  looked-down k (suc n) here free l = by (ℕ_discrete k n) (λ b. looked-down k n here (λ i a c. free i a (omega arith)) b)
    where
      by : Dec (k ≡ n) → (k < n → looked_below xs ms x n ≡ reverse (from k (n - k))) → looked_below xs ms x (suc n) ≡ reverse (from k (suc n - k))
      by (yes e) below =
          let one : suc n - k ≡ 1 = omega arith in
          ap (λ (m : ℕ). looked_below xs ms x (suc m)) (sym e) ∙ here ∙ sym (ap (λ (m : ℕ). reverse (from k m)) one ∙ (unfold from in refl))
      by (no e) below =
          let more : suc n - k ≡ suc (n - k) = omega arith in
          let top : k + (n - k) ≡ n = omega arith in
          looked-on n (free n (omega arith) (omega arith))
          ∙ ap {B = List ℕ} (λ r. n ∷ r) (below (omega arith))
          ∙ sym (ap (λ (m : ℕ). reverse (from k m)) more ∙ run_down k (n - k) ∙ ap (λ (m : ℕ). m ∷ reverse (from k (n - k))) top)

module _ (xs ms : List ℕ) (next x : ℕ) (s : Searched xs ms next) where
  module _ (old : mem x (marked ms xs) ≡ true) where
    -- the slot of x
    abbrev slot : ℕ
    slot = slot_from ms xs x

    -- it stands below next
    below : slot < next
    below = out_below (searched-row xs ms next x s) x next old s.free

    -- of a marked extent: from the newest slot down to its own
    pub looked-known : looked_below xs ms x next ≡ reverse (from (slot_from ms xs x) (next - slot_from ms xs x))
    looked-known =
        let r = searched-row xs ms next x s in
        let m = slot-marked r x old in
        let here : is_mark_of xs ms x slot ≡ true = of-mark xs ms next x s slot (omega (arith, below, s.low)) m.0 m.1 in
        looked-down xs ms x slot next (looked-here xs ms x slot here)
        (λ i a b. by-test (is_mark_of xs ms x i)
        (λ t. let p = mark_of xs ms next x s i (omega (arith, s.low)) t in absurd (omega (arith, slot-found r i x s.apart p.0 p.1)))
        (λ f. f))
        below

    -- as many as next less that slot
    pub count-known : length (looked_below xs ms x next) ≡ next - slot_from ms xs x
    count-known = ap length looked-known ∙ length-down slot (next - slot)

  module _ (new : mem x (marked ms xs) ≡ false) where
    -- of any other: all below next
    pub looked-new : looked_below xs ms x next ≡ reverse (from 0 next)
    looked-new = by next refl
      where
        none : (i : ℕ) → i < next → is_mark_of xs ms x i ≡ false
        none i l =
            by-test (is_mark_of xs ms x i)
            (λ t. let p = mark_of xs ms next x s i (omega (arith, s.low)) t in clash (mem-marked (searched-row xs ms next x s) i x p.0 p.1) new)
            (λ f. f)

        by : (n : ℕ) → n ≡ next → looked_below xs ms x n ≡ reverse (from 0 n)
        by zero e = unfold looked_of from in refl
        by (suc n) e =
            let b : suc n - 0 ≡ suc n = omega arith in
            looked-down xs ms x 0 (suc n) (unfold looked_of in rw (none 0 (omega arith))) (λ i a l. none i (omega arith)) (omega arith)
            ∙ ap (λ (m : ℕ). reverse (from 0 m)) b

    -- as many as next
    pub count-new : length (looked_below xs ms x next) ≡ next
    count-new = ap length looked-new ∙ length-down 0 next
