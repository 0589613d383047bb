-- `session_soundness::marks_hold` meets its contract. Each return is one test of `marks_hold`.
use Rattle.std.proofs.Common.{sym, ap, ◌∙◌, le-leb}
use Rattle.reuse_rows.specs.Rows.{blank}
use Rattle.session_soundness.specs.Soundness.{marks_hold}
use Rattle.reuse.proofs.Lists.{clash}
use Rattle.reuse_rows.proofs.Slices.{part-rest}
use borrow.Author.Tests.{lt-leb}
use Rattle.session_soundness.proofs.marks_hold.Goals as goal
use Rattle.session_soundness.proofs.marks_hold.Goals.{then-next-le-SLOTS, else-next-le-SLOTS}

pub returns-then-neat : goal.returns-then-neat
unfolding marks_hold
returns-then-neat c =
    elim c.if-next-le-SLOTS.branch [
      | then-next-le-SLOTS w ↦ c.all_zero.ensures ∙ ap blank (part-rest c.args.marks.now c.args.next) ∙ sym (simp (le-leb _ _ w.if-next-le-SLOTS.true, sym w.neat.ensures ∙ sym w.value-is ∙ c.if-neat.true))
      | else-next-le-SLOTS w ↦ clash c.if-neat.true (w.value-is ∙ lt-leb _ _ w.if-next-le-SLOTS.false)
    ]

pub returns-else-neat : goal.returns-else-neat
unfolding marks_hold
returns-else-neat c =
    elim c.if-next-le-SLOTS.branch [
      | then-next-le-SLOTS w ↦ c.if-neat.false ∙ sym (simp (le-leb _ _ w.if-next-le-SLOTS.true, sym w.neat.ensures ∙ sym w.value-is ∙ c.if-neat.false))
      | else-next-le-SLOTS w ↦ c.if-neat.false ∙ sym (simp (lt-leb _ _ w.if-next-le-SLOTS.false))
    ]
