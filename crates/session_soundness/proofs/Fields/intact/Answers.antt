-- `session_soundness::Fields::intact` meets its contract. A row of another width is not sound, nor is a right-hand sum above its point's total; the others are tested.
use mathlib.Core.Path.{◌≡◌, sym, ap, ◌∙◌}
use mathlib.Core.List.{List}
use Prim.Native.Nat.{ℕ}
use mathlib.Core.Bool.{and-false}
use native.Mathlib.Omega.{arith}
use borrow.Author.Tests.{ne_eqb}
use Rattle.reuse.specs.Lists.{sum}
use Rattle.reuse.specs.Limits.{max_extents, slot_count, right_count, levels}
use lib.ListN.{length-replicate}
use Rattle.session_rights.specs.Rights.{marks_from, in_totals}
use Rattle.session_points.specs.Points.{Worked}
use Rattle.session_soundness.specs.Soundness.{sound_rows, intact_rows}
use Rattle.session_rights.proofs.Rights.{worked-out}
use Rattle.session_points.proofs.Downs.{worked-some}
use Rattle.session_soundness.proofs.Sound.{Widths, kept-wide, intact-above, intact-within}
use Rattle.session_soundness.proofs.Fields.intact.Goals as goal
use Rattle.session_soundness.proofs.Fields.intact.Goals.{After-work_out, Else-self-ne-RIGHTS, then-self-ne-MAX_EXTENTS-via-then-self-ne-MAX_EXTENTS, then-self-ne-MAX_EXTENTS-via-else-self-ne-MAX_EXTENTS+then-self-ne-MAX_EXTENTS-2, then-self-ne-SLOTS-via-then-self-ne-SLOTS, then-self-ne-SLOTS-via-else-self-ne-SLOTS+then-self-ne-RIGHTS}

-- the widths of the rows
kept : (c : Else-self-ne-RIGHTS) → Widths c.args.self.first.now c.args.self.hist.now c.args.self.slots.now c.args.self.rights.now
kept c = record { first-wide = c.if-self-ne-MAX_EXTENTS.false; hist-wide = c.if-self-ne-MAX_EXTENTS-2.false; slots-wide = c.if-self-ne-SLOTS.false; rights-wide = c.if-self-ne-RIGHTS.false }

-- what was worked out
told : (c : After-work_out)
    → let a = c.args.self in
    (c.work_out.result ≡ in_totals levels a.count a.rights.now) × (c.work_out.new.marks ≡ marks_from levels a.count a.rights.now)
told c =
    let e = worked-some _ _ _ c.if-self-ne-RIGHTS.false (length-replicate {A = ℕ} slot_count 0) in
    (c.work_out.ensures.0 ∙ ap (λ (w : Worked). w.within) e, c.work_out.ensures.1 ∙ ap (λ (w : Worked). w.marks) e)

pub returns-then-self-ne-MAX_EXTENTS : goal.returns-then-self-ne-MAX_EXTENTS
unfolding intact_rows
returns-then-self-ne-MAX_EXTENTS c =
    elim c.then-self-ne-MAX_EXTENTS.branch [
      | then-self-ne-MAX_EXTENTS-via-then-self-ne-MAX_EXTENTS w ↦ sym (simp (ne_eqb _ max_extents w.if-self-ne-MAX_EXTENTS.true))
      | then-self-ne-MAX_EXTENTS-via-else-self-ne-MAX_EXTENTS+then-self-ne-MAX_EXTENTS-2 w ↦ sym (simp (ne_eqb _ max_extents w.if-self-ne-MAX_EXTENTS-2.true, and-false))
    ]

pub returns-then-self-ne-SLOTS : goal.returns-then-self-ne-SLOTS
unfolding intact_rows
returns-then-self-ne-SLOTS c =
    elim c.then-self-ne-SLOTS.branch [
      | then-self-ne-SLOTS-via-then-self-ne-SLOTS w ↦ sym (simp (ne_eqb _ slot_count w.if-self-ne-SLOTS.true, and-false))
      | then-self-ne-SLOTS-via-else-self-ne-SLOTS+then-self-ne-RIGHTS w ↦ sym (simp (ne_eqb _ right_count w.if-self-ne-RIGHTS.true, and-false))
    ]

pub returns-then-not-work_out : goal.returns-then-not-work_out
returns-then-not-work_out c = sym (intact-above _ _ _ _ _ (kept (goal.at.returns-then-not-work_out c).Else-self-ne-RIGHTS) _ _ (sym (told (goal.at.returns-then-not-work_out c).After-work_out).0 ∙ c.if-not-work_out.true))

pub rows_hold-requires : goal.rows_hold-requires
rows_hold-requires c =
    let k = kept (goal.at.rows_hold-requires c).Else-self-ne-RIGHTS in
    let n = sym (told (goal.at.rows_hold-requires c).After-work_out).0 ∙ c.if-not-work_out.false in
    (rw (told (goal.at.rows_hold-requires c).After-work_out).1 (kept-wide _ _ _ _ _ k), ap sum (told (goal.at.rows_hold-requires c).After-work_out).1 ∙ (worked-out levels _ _ (omega (arith, k.rights-wide)) n).counted)

pub returns : goal.returns
returns c =
    let a = c.args.self in
    let n = sym (told (goal.at.returns c).After-work_out).0 ∙ c.if-not-work_out.false in
    c.rows_hold.ensures
    ∙ ap (λ (l : List ℕ). sound_rows a.reads a.first.now a.hist.now a.slots.now l a.next) (told (goal.at.returns c).After-work_out).1
    ∙ sym (intact-within _ _ _ _ _ (kept (goal.at.returns c).Else-self-ne-RIGHTS) _ _ n)
