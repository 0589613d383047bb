-- A search from the newest slot down finds the slot of an extent.
use mathlib.Core.Path.{◌≡◌, refl, sym, ap, ◌∙◌}
use mathlib.Core.List.{List}
use mathlib.Core.Bool.{Bool, true, false, cond, and-false}
use mathlib.Core.Logic.{◌≢◌, ◌⊎◌, inl, inr}
use Prim.Native.Nat.{ℕ, zero, suc, ◌+◌, ◌-◌, ◌≤◌, ◌<◌}
use native.Mathlib.Omega.{arith}
use native.Mathlib.Nat.{zero-add}
use native.Mathlib.Decide.{ℕ_discrete}
use Rattle.std.specs.Prelude.{Option, Some, None}
use lib.Dec.{eqb}
use lib.ListN.{length, get_or}
use borrow.Author.Tests.{eq-eqb, ne_eqb, eqb-true, eqb-false, le-leb, lt-leb}
use Rattle.reuse.specs.Limits.{slot_count, right_count, levels}
use Rattle.session_rights.specs.Rights.{marks_from}
use Rattle.session_marks.specs.declared.Found.{Found}
use Rattle.session_marks.specs.Marks.{slot_from, slot_at, paired, is_mark_of, last_of, looked_of, looked_below, holds, found_in, Searched}
use Rattle.reuse.proofs.Lists.{clash, by-test, both}
use Rattle.reuse.proofs.Sums.{free-at}
use Rattle.session_marks.proofs.Marks.{Row, tidy-row, row-held, slot-found, slot-none}

-- rows of a session's lengths
pub pair_of : (xs ms : List ℕ) → length xs ≡ slot_count → length ms ≡ slot_count → paired xs ms ≡ true
unfolding paired
pair_of xs ms w v = simp (eq-eqb (length xs) slot_count w, eq-eqb (length ms) slot_count v)

-- their lengths
pub pair-wide : (xs ms : List ℕ) → paired xs ms ≡ true → (length xs ≡ slot_count) × (length ms ≡ slot_count)
unfolding paired
pair-wide xs ms h =
    let p = both (eqb (length xs) slot_count) (eqb (length ms) slot_count) h in
    (eqb-true (length xs) slot_count p.0, eqb-true (length ms) slot_count p.1)

-- what stands for none is the number of slots
pub slot-nothing : (n : ℕ) → slot_at n ≡ None → n ≡ slot_count
slot-nothing n e =
    by-test (eqb n slot_count) (λ t. eqb-true n slot_count t) (λ f. let q : ◌≡◌ {A = Option ℕ} (Some n) None = simp f at e in absurd (cc))

-- and any other number is a slot
pub slot_other : (n : ℕ) → (n ≡ slot_count → ⊥) → slot_at n ≡ Some n
slot_other n h = simp (ne_eqb n slot_count h)

-- what stands for a slot is that one
pub slot-is : (n k : ℕ) → slot_at n ≡ Some k → (n ≡ k) × (n ≡ slot_count → ⊥)
slot-is n k e =
    by-test (eqb n slot_count)
    (λ t. let q : ◌≡◌ {A = Option ℕ} None (Some k) = simp t at e in absurd (cc))
    (λ f. let q : ◌≡◌ {A = Option ℕ} (Some n) (Some k) = simp f at e in (cc, eqb-false n slot_count f))

-- what a search comes to that has looked at n slots and goes on below i
abbrev pub going_on : (ℕ → Bool) → ℕ → ℕ → Found
going_on test i n = record { slot = slot_at (last_of test i); looked = n + length (looked_of test i) }

-- nothing found, after so many slots
abbrev pub nothing : ℕ → Found
nothing n = record { slot = None; looked = n }

module _ (test : ℕ → Bool) where
  module _ (i n : ℕ) (l : 0 < i) where
    -- the slot below i passes, or the search goes on below it
    step : going_on test i n ≡ cond (test (i - 1)) (record { slot = slot_at (i - 1); looked = n + 1 }) (going_on test (i - 1) (n + 1))
    unfolding last_of looked_of
    step = by i refl
      where
        by : (j : ℕ) → j ≡ i → going_on test j n ≡ cond (test (j - 1)) (record { slot = slot_at (j - 1); looked = n + 1 }) (going_on test (j - 1) (n + 1))
        by zero e = absurd (omega arith)
        by (suc j) e =
            let b : suc j - 1 ≡ j = omega arith in
            let m : n + suc (length (looked_of test j)) ≡ n + 1 + length (looked_of test j) = omega arith in
            rw b (by-test (test j) (λ t. simp t) (λ f. simp (f, m)))

    -- it is the one
    pub search-hit : i ≤ slot_count → test (i - 1) ≡ true → going_on test i n ≡ record { slot = Some (i - 1); looked = n + 1 }
    search-hit h t = step ∙ simp t (ap (λ (o : Option ℕ). record { slot = o; looked = n + 1 }) (slot_other (i - 1) (λ e. omega arith)))

    -- it is not
    pub search-miss : test (i - 1) ≡ false → going_on test i n ≡ going_on test (i - 1) (n + 1)
    search-miss f = step ∙ simp f

  -- below the first slot there is none
  pub search-none : (i n : ℕ) → i ≤ 0 → going_on test i n ≡ nothing n
  unfolding last_of looked_of
  search-none zero n l = let e : n + 0 ≡ n = omega arith in rw e
  search-none (suc j) n l = absurd (omega arith)

-- two tests that agree below n find the same slot on the same way
pub search-same : (p q : ℕ → Bool) (n : ℕ) → ((i : ℕ) → i < n → p i ≡ q i) → (last_of p n ≡ last_of q n) × (looked_of p n ≡ looked_of q n)
unfolding last_of looked_of
search-same p q zero h = (refl, refl)
search-same p q (suc i) h =
    let r = search-same p q i (λ k l. h k (omega arith)) in
    let e = h i (omega arith) in
    (rw (e, r.0), rw (e, r.1))

-- whether a slot holds x and is marked, by its words
module _ (xs ms : List ℕ) (x i : ℕ) where
  -- it holds another extent
  pub holds-other : (get_or xs i 0 ≡ x → ⊥) → holds xs ms x i ≡ false
  holds-other n = simp (ne_eqb (get_or xs i 0) x n)

  -- it holds an extent that unmarked slots do not
  pub holds-some : get_or xs i 0 ≡ x → (x ≡ 0 → ⊥) → holds xs ms x i ≡ true
  holds-some e n = simp (eq-eqb (get_or xs i 0) x e, ne_eqb x 0 n)

  -- it holds 0, and its mark tells
  pub holds-zero : get_or xs i 0 ≡ x → x ≡ 0 → holds xs ms x i ≡ eqb (get_or ms i 0) 1
  holds-zero e z = simp (eq-eqb (get_or xs i 0) x e, eq-eqb x 0 z)

module _ (xs : List ℕ) (count : ℕ) (R : List ℕ) (next x : ℕ) where
  -- the test that the search makes
  abbrev pub test_of : ℕ → Bool
  test_of = holds xs (marks_from levels count R) x

  -- in a session's rows
  found-walk : length xs ≡ slot_count → length R ≡ right_count → next ≤ slot_count
      → found_in xs count R next x ≡ record { slot = slot_at (last_of test_of next); looked = length (looked_of test_of next) }
  unfolding found_in
  found-walk w v l = simp (eq-eqb (length xs) slot_count w, eq-eqb (length R) right_count v, le-leb next slot_count l)

  -- the search goes on from there, with no slot looked at
  pub found-pair : length xs ≡ slot_count → length R ≡ right_count → next ≤ slot_count → found_in xs count R next x ≡ going_on (holds xs (marks_from levels count R) x) next 0
  found-pair w v l = found-walk w v l ∙ ap (λ (n : ℕ). record { slot = slot_at (last_of test_of next); looked = n }) (sym (zero-add (length (looked_of test_of next))))

  -- in slots of another length, over right-hand sums of another, or below a slot that there is not
  pub found_none : (length xs ≡ slot_count → ⊥) ⊎ ((length xs ≡ slot_count) × (length R ≡ right_count → ⊥)) ⊎ ((length xs ≡ slot_count) × (length R ≡ right_count) × (slot_count < next))
      → found_in xs count R next x ≡ nothing 0
  unfolding found_in
  found_none (inl n) = simp (ne_eqb (length xs) slot_count n)
  found_none (inr (inl (w, n))) = simp (ne_eqb (length R) right_count n, and-false)
  found_none (inr (inr (w, v, l))) = simp (lt-leb next slot_count l, and-false)

module _ (xs ms : List ℕ) (next x : ℕ) where
  module _ (s : Searched xs ms next) where
    -- the slots beside their marks
    pub searched-row : Row ms xs
    searched-row = tidy-row ms xs (s.slots-wide ∙ sym s.marks-wide) s.neat

    -- a slot with the mark of x has a mark and x
    pub mark_of : (i : ℕ) → i < slot_count → is_mark_of xs ms x i ≡ true → (get_or ms i 0 ≡ 1) × (get_or xs i 0 ≡ x)
    mark_of i l t =
        let p = both (eqb (get_or xs i 0) x) (eqb (get_or ms i 0) 1) t in
        (eqb-true (get_or ms i 0) 1 p.1, eqb-true (get_or xs i 0) x p.0)

    -- and one with a mark and x has the mark of x
    pub of-mark : (i : ℕ) → i < slot_count → get_or ms i 0 ≡ 1 → get_or xs i 0 ≡ x → is_mark_of xs ms x i ≡ true
    of-mark i l m e = simp (eq-eqb (get_or xs i 0) x e, eq-eqb (get_or ms i 0) 1 m)

    -- no slot from i on holds x beside a mark
    abbrev Beyond : ℕ → Type 0
    Beyond i = (k : ℕ) → i ≤ k → get_or ms k 0 ≡ 1 → get_or xs k 0 ≡ x → ⊥

    -- one slot more
    beyond : (i : ℕ) → i < slot_count → is_mark_of xs ms x i ≡ false → Beyond (suc i) → Beyond i
    beyond i l f all k h m e = by (ℕ_discrete k i)
      where
        by : Dec (k ≡ i) → ⊥
        by (yes q) = clash (of-mark i l (ap (λ (n : ℕ). get_or ms n 0) (sym q) ∙ m) (ap (λ (n : ℕ). get_or xs n 0) (sym q) ∙ e)) f
        by (no q) = all k (omega arith) m e

    -- where no slot from i on does, the search below i finds the slot
    last-slot : (i : ℕ) → i ≤ slot_count → Beyond i → last_of (is_mark_of xs ms x) i ≡ slot_from ms xs x
    unfolding last_of
    last-slot zero l all = sym (slot-none searched-row x (λ k m e. all k (omega arith) m e) ∙ s.marks-wide)
    last-slot (suc i) l all =
        by-test (is_mark_of xs ms x i)
        (λ t. let p = mark_of i (omega arith) t in simp t (sym (slot-found searched-row i x s.apart p.0 p.1)))
        (λ f. simp f (last-slot i (omega arith) (beyond i (omega arith) f all)))

    -- the test by the slots' words is the test of the mark
    same_test : (i : ℕ) → i < slot_count → holds xs ms x i ≡ is_mark_of xs ms x i
    same_test i l =
        by-test (eqb (get_or xs i 0) x)
        (λ e. by-test (eqb x 0)
        (λ z. simp (e, z))
        (λ n. let held : get_or xs i 0 ≢ 0 = λ q. eqb-false x 0 n (sym (eqb-true (get_or xs i 0) x e) ∙ q) in
        simp (e, n, eq-eqb (get_or ms i 0) 1 (row-held searched-row i held))))
        (λ n. simp n)

-- in the rows of a session whose marks are these, it finds the slot of x, and looks at the slots on the way there
pub found-slot : (xs : List ℕ) (count : ℕ) (R : List ℕ) (next x : ℕ) → length R ≡ right_count → Searched xs (marks_from levels count R) next
    → found_in xs count R next x
    ≡ record { slot = slot_at (slot_from (marks_from levels count R) xs x); looked = length (looked_below xs (marks_from levels count R) x next) }
found-slot xs count R next x w s =
    let ms = marks_from levels count R in
    let e = search-same (holds xs ms x) (is_mark_of xs ms x) next (λ i l. same_test xs ms next x s i (omega (arith, s.low))) in
    let at : last_of (is_mark_of xs ms x) next ≡ slot_from ms xs x =
    last-slot xs ms next x s next s.low (λ k h m q. omega (arith, free-at ms next k s.free h)) in
    found-walk xs count R next x s.slots-wide w s.low ∙ rw (e.0, e.1, at)
