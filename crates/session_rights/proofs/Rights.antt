-- Marks and their right-hand sums: each gives the other.
use Prim.Native.Nat.{ℕ, zero, suc, ◌+◌, ◌^◌}
use mathlib.Core.Path.{◌≡◌, refl, sym, ap, ◌∙◌}
use mathlib.Core.List.{List, [], ◌∷◌}
use mathlib.Core.Bool.{true}
use mathlib.Core.Logic.{◌↔◌}
use native.Mathlib.Omega.{arith}
use lib.ListN.{length, take, drop, length-append, length-drop, take-append-drop}
use lib.Seq.{take_at, drop_at, length-take-le}
use Rattle.reuse.specs.Lists.{sum}
use Rattle.session_sums.specs.Sums.{pairs}
use Rattle.reuse.proofs.Lists.{both}
use Rattle.session_sums.proofs.Tree.{sum-pairs}
use Rattle.session_rights.specs.Rights.{odds, rights_of, children, marks_from, none_above, in_totals, zero_one, rightly, Gives}
use Rattle.session_rights.proofs.Levels.{twice, full-odds, full-pairs, children-of, odds-in-pairs, odds-children, pairs-children, length-children}

-- there is one right-hand sum fewer than marks
pub rights-length : (d : ℕ) (marks : List ℕ) → length marks ≡ 2 ^ d → length (rights_of d marks) + 1 ≡ 2 ^ d
unfolding rights_of
rights-length zero marks e = omega arith
rights-length (suc d) marks e =
    simp length-append (omega (arith, full-odds d marks e, rights-length d (pairs marks) (full-pairs d marks e)))

module _ (d : ℕ) (marks : List ℕ) (e : length marks ≡ 2 ^ suc d) where
  -- the sums of the lowest points
  pub lowest : take (2 ^ d) (rights_of (suc d) marks) ≡ odds marks
  unfolding rights_of
  lowest = take_at (odds marks) (rights_of d (pairs marks)) (2 ^ d) (full-odds d marks e)

  -- the sums of the points above them
  pub higher : drop (2 ^ d) (rights_of (suc d) marks) ≡ rights_of d (pairs marks)
  unfolding rights_of
  higher = drop_at (odds marks) (rights_of d (pairs marks)) (2 ^ d) (full-odds d marks e)

-- the marks worked out from a row's count and right-hand sums are the row
pub marks-back : (d : ℕ) (marks : List ℕ) → length marks ≡ 2 ^ d → marks_from d (sum marks) (rights_of d marks) ≡ marks
unfolding marks_from sum
marks-back zero [] e = absurd (omega arith)
marks-back zero (a ∷ []) e = ap {B = List ℕ} (λ k. k ∷ []) (omega arith)
marks-back zero (a ∷ (b ∷ l)) e = absurd (omega arith)
marks-back (suc d) marks e =
    rw (lowest d marks e, higher d marks e, ← sum-pairs marks, marks-back d (pairs marks) (full-pairs d marks e))
    (children-of (2 ^ d) marks (twice d (length marks) e))

-- no right-hand sum of a row is above its point's total
pub rights-in-totals : (d : ℕ) (marks : List ℕ) → length marks ≡ 2 ^ d → in_totals d (sum marks) (rights_of d marks) ≡ true
unfolding in_totals
rights-in-totals zero marks e = refl
rights-in-totals (suc d) marks e =
    let up = full-pairs d marks e in
    rw (lowest d marks e, higher d marks e, ← sum-pairs marks, marks-back d (pairs marks) up, rights-in-totals d (pairs marks) up)
    (odds-in-pairs marks)

-- the right-hand sums and the count of a row of marks, each 0 or 1, pass the test
pub marks-rightly : (d : ℕ) (marks : List ℕ) → length marks ≡ 2 ^ d → zero_one marks ≡ true → rightly d (sum marks) (rights_of d marks) ≡ true
unfolding rightly
marks-rightly d marks e h = simp (rights-in-totals d marks e, marks-back d marks e, h)

-- one level below totals that their right-hand sums give
module _ (d count : ℕ) (rights totals : List ℕ) (e : length rights + 1 ≡ 2 ^ suc d) (above : Gives d count (drop (2 ^ d) rights) totals) where
  -- as many of its right-hand sums as totals
  wide : length (take (2 ^ d) rights) ≡ length totals
  wide = length-take-le (2 ^ d) rights (omega arith) ∙ sym above.full

  -- its right-hand sums and those above are given by its children
  level-below : none_above (take (2 ^ d) rights) totals ≡ true → Gives (suc d) count rights (children totals (take (2 ^ d) rights))
  unfolding rights_of
  level-below h =
      let lower = take (2 ^ d) rights in
      let back = pairs-children totals lower wide h in
      record {
        full = length-children totals lower wide ∙ (omega (arith, above.full));
        counted = sym (sum-pairs (children totals lower)) ∙ ap sum back ∙ above.counted;
        summed = rw (odds-children totals lower wide, back, above.summed) (take-append-drop (2 ^ d) rights);
      }

-- right-hand sums within their totals are given by the marks worked out from them
pub worked-out : (d count : ℕ) (rights : List ℕ) → length rights + 1 ≡ 2 ^ d → in_totals d count rights ≡ true → Gives d count rights (marks_from d count rights)
unfolding in_totals marks_from rights_of sum
worked-out zero count [] e h = record { full = refl; counted = omega arith; summed = refl }
worked-out zero count (r ∷ rights) e h = absurd (omega arith)
worked-out (suc d) count rights e h =
    let upper = drop (2 ^ d) rights in
    let tests = both (in_totals d count upper) (none_above (take (2 ^ d) rights) (marks_from d count upper)) h in
    level-below d count rights (marks_from d count upper) e
    (worked-out d count upper (simp length-drop (omega arith)) tests.0) tests.1

-- the row that gives a count and right-hand sums is the one worked out from them: there is no other
pub only_row : {d count : ℕ} {rights marks : List ℕ} → Gives d count rights marks → marks ≡ marks_from d count rights
only_row {d} {count} {rights} {marks} g =
    sym (marks-back d marks g.full) ∙ ap (λ (n : ℕ). marks_from d n (rights_of d marks)) g.counted ∙ ap (marks_from d count) g.summed

-- right-hand sums that pass the test are given by the marks worked out, each 0 or 1
pub rightly-marks : (d count : ℕ) (rights : List ℕ) → length rights + 1 ≡ 2 ^ d → rightly d count rights ≡ true
    → Gives d count rights (marks_from d count rights) × (zero_one (marks_from d count rights) ≡ true)
unfolding rightly
rightly-marks d count rights e h =
    let tests = both (in_totals d count rights) (zero_one (marks_from d count rights)) h in
    (worked-out d count rights e tests.0, tests.1)

-- what a row of marks, each 0 or 1, gives passes the test
pub gives-rightly : {d count : ℕ} {rights marks : List ℕ} → Gives d count rights marks → zero_one marks ≡ true → rightly d count rights ≡ true
gives-rightly {d} {marks} g h = rw (← g.counted, ← g.summed) (marks-rightly d marks g.full h)

-- the test passes exactly if some row of marks, each 0 or 1, has this count and these right-hand sums
pub rightly-exactly : (d count : ℕ) (rights : List ℕ) → length rights + 1 ≡ 2 ^ d
    → (rightly d count rights ≡ true) ↔ ((marks : List ℕ) × Gives d count rights marks × (zero_one marks ≡ true))
rightly-exactly d count rights e = (
  λ h. let p = rightly-marks d count rights e h in (marks_from d count rights, p.0, p.1),
  λ p. gives-rightly p.1 p.2,
)
