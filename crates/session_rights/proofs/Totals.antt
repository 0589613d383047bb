-- The totals worked out from above: level by level, and by their places.
use Prim.Native.Nat.{ℕ, zero, suc, ◌+◌, ◌/◌, ◌%◌, ◌^◌, ◌≤◌, ◌<◌}
use mathlib.Core.Path.{◌≡◌, refl, sym, ap, ◌∙◌}
use mathlib.Core.List.{List}
use mathlib.Core.Bool.{◌&&◌}
use native.Mathlib.Omega.{arith}
use lib.Dec.{eqb}
use lib.ListN.{length, take, drop, get_or, length-drop}
use lib.Seq.{drop-drop, get_or-drop, get_or-take, length-take-le}
use borrow.Author.Tests.{eqb-true, eqb-false}
use Rattle.reuse.proofs.Lists.{by-test}
use Rattle.session_sums.proofs.Tree.{even, odd}
use Rattle.session_rights.specs.Rights.{children, marks_from, none_above, in_totals, Gives}
use Rattle.session_rights.specs.Ways.{total_at}
use Rattle.session_rights.proofs.Levels.{power_pos, length-children, child-left, child-right}
use Rattle.session_rights.proofs.Rights.{rights-length, only_row}

module _ (d b count : ℕ) (rights : List ℕ) where
  -- one level down: its sums stand from place b on, those above it behind them
  pub level-down : marks_from (suc d) count (drop b rights) ≡ children (marks_from d count (drop (b + 2 ^ d) rights)) (take (2 ^ d) (drop b rights))
  unfolding marks_from
  level-down = simp drop-drop

  -- its test
  pub test-down : in_totals (suc d) count (drop b rights)
      ≡ in_totals d count (drop (b + 2 ^ d) rights) && none_above (take (2 ^ d) (drop b rights)) (marks_from d count (drop (b + 2 ^ d) rights))
  unfolding in_totals
  test-down = simp drop-drop

-- a level of full totals has 2 ^ d
pub totals-length : (d count : ℕ) (rights : List ℕ) → 2 ^ d ≤ length rights + 1 → length (marks_from d count rights) ≡ 2 ^ d
unfolding marks_from
totals-length zero count rights e = refl
totals-length (suc d) count rights e =
    let up = totals-length d count (drop (2 ^ d) rights) (simp length-drop (omega arith)) in
    let wide : length (take (2 ^ d) rights) ≡ 2 ^ d = length-take-le (2 ^ d) rights (omega (arith, power_pos d)) in
    length-children (marks_from d count (drop (2 ^ d) rights)) (take (2 ^ d) rights) (wide ∙ sym up) ∙ (omega arith)

-- a total is worked out along its way alone
pub total-at : (d b count : ℕ) (rights : List ℕ) (s : ℕ) → b + 2 ^ d ≤ length rights + 1 → s < 2 ^ d
    → get_or (marks_from d count (drop b rights)) s 0 ≡ total_at d b count rights s
unfolding total_at marks_from
total-at zero b count rights zero e h = refl
total-at zero b count rights (suc s) e h = absurd (omega arith)
total-at (suc d) b count rights s e h =
    ap (λ (l : List ℕ). get_or l s 0) (level-down d b count rights)
    ∙ by-test (eqb (s % 2) 0)
    (λ t. simp t
    (ap (λ (k : ℕ). get_or (children ts rs) k 0) (even s (eqb-true (s % 2) 0 t))
    ∙ child-left q ts rs (omega (arith, full)) (wide ∙ sym full)
    ∙ (omega (arith, here, total-at d (b + 2 ^ d) count rights q (omega arith) (omega arith)))))
    (λ t. simp t
    (ap (λ (k : ℕ). get_or (children ts rs) k 0) (odd s (eqb-false (s % 2) 0 t))
    ∙ child-right q ts rs (omega (arith, full)) (wide ∙ sym full)
    ∙ here))
  where
    q : ℕ
    q = s / 2

    ts : List ℕ
    ts = marks_from d count (drop (b + 2 ^ d) rights)

    rs : List ℕ
    rs = take (2 ^ d) (drop b rights)

    full : length ts ≡ 2 ^ d
    full = totals-length d count (drop (b + 2 ^ d) rights) (simp length-drop (omega arith))

    wide : length rs ≡ 2 ^ d
    wide = length-take-le (2 ^ d) (drop b rights) (simp length-drop (omega (arith, power_pos d)))

    here : get_or rs q 0 ≡ get_or rights (b + q) 0
    here = get_or-take (2 ^ d) (drop b rights) q 0 (omega arith) ∙ get_or-drop b rights q 0

-- the mark of slot s, where these marks give the right-hand sums and the count
pub mark-at : {d count : ℕ} {rights marks : List ℕ} → Gives d count rights marks → (s : ℕ) → s < 2 ^ d → get_or marks s 0 ≡ total_at d 0 count rights s
mark-at {d} {count} {rights} {marks} g s h =
    ap (λ (l : List ℕ). get_or l s 0) (only_row g)
    ∙ total-at d 0 count rights s (omega (arith, ap length g.summed, rights-length d marks g.full)) h
