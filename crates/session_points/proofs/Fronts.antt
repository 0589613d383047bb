-- Marks in the first slots, set one after the other.
use Rattle.std.proofs.Common.{◌≡◌, ℕ, ◌+◌, ◌-◌, ◌<◌, ◌≤◌, min, List, length, get_or, replicate, sym, refl, ap, ◌∙◌, arith}
use lib.ListN.{length-replicate}
use Rattle.reuse.specs.Limits.{slot_count, right_count, levels}
use Rattle.session_sums.specs.Sums.{filled, first_marks}
use Rattle.session_rights.specs.Rights.{rights_of}
use Rattle.session_points.specs.Points.{changed_by}
use Rattle.reuse.proofs.Sums.{get_or-blank-row}
use Rattle.session_sums.proofs.Tree.{after}
use Rattle.session_sums.proofs.Filled.{length-filled, sum-filled, sum_ones, filled_none, most-marks, ones-turn}
use Rattle.session_rights.proofs.Trees.{rights-none}
use Rattle.session_points.proofs.Changing.{mark_set}

-- i marks in the first slots
abbrev ones : ℕ → List ℕ
ones i = filled slot_count (replicate i 1)

-- before the first
pub front-start : replicate right_count 0 ≡ rights_of levels (filled slot_count (replicate 0 1))
front-start = sym (ap (rights_of levels) (sym (filled_none slot_count)) ∙ rights-none levels)

module _ (i : ℕ) (h : i < slot_count) where
  -- the slot behind them is free
  next-free : get_or (ones i) i 0 ≡ 0
  unfolding filled
  next-free =
      after (replicate i 1) (replicate (slot_count - length {A = ℕ} (replicate i 1)) 0) i 0 (omega (arith, length-replicate {A = ℕ} i 1))
      ∙ get_or-blank-row (slot_count - length {A = ℕ} (replicate i 1)) 0

  -- one mark more
  pub front-turn : (R : List ℕ) → R ≡ rights_of levels (filled slot_count (replicate i 1)) → changed_by 1 R i ≡ rights_of levels (filled slot_count (replicate (i + 1) 1))
  front-turn R e =
      let long : length {A = ℕ} (replicate i 1) ≤ slot_count = omega (arith, length-replicate {A = ℕ} i 1) in
      ap (λ (r : List ℕ). changed_by 1 r i) e
      ∙ mark_set (ones i) i (length-filled slot_count (replicate i 1) long) h (omega (arith, sum-filled slot_count (replicate i 1), sum_ones i)) next-free
      ∙ ap (rights_of levels) (ones-turn slot_count (ones i) i refl h)

-- all of them
pub front-end : (i v : ℕ) (R : List ℕ) → R ≡ rights_of levels (filled slot_count (replicate i 1)) → i ≡ min v slot_count → R ≡ rights_of levels (first_marks v)
front-end i v R e m = e ∙ ap (rights_of levels) (most-marks i v m)
