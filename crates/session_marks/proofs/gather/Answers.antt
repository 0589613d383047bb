use Rattle.std.proofs.Common.{sym, ◌∙◌, arith}
use Rattle.reuse.specs.Limits.{slot_count}
use Rattle.session_marks.proofs.Search.{pair-wide}
use Rattle.session_marks.proofs.Passes.{moved-start, moved-some, moved_none, moved-end, gathered-pair, gathered-other}
use Rattle.session_marks.proofs.gather.Goals as goal
use Rattle.session_marks.proofs.gather.Goals.{else-mark-eq1, then-mark-eq1}

pub returns-then-not-paired : goal.returns-then-not-paired
returns-then-not-paired c = sym (gathered-other _ _ (sym c.paired.ensures ∙ c.if-not-paired.true))

pub loop-i-init : goal.loop-i-init
loop-i-init c = let w = pair-wide _ _ (sym c.paired.ensures ∙ c.if-not-paired.false) in moved-start slot_count _ _ w.1 w.0

pub loop-i-preserved : goal.loop-i-preserved
loop-i-preserved c =
    let b = c.loop-i.invariant in
    elim c.if-mark-eq1.branch [
      | then-mark-eq1 w ↦ rw (w.out-is, w.n-is) (moved-some _ _ _ _ _ _ b (omega (arith, b.long)) w.if-mark-eq1.true)
      | else-mark-eq1 w ↦ rw (w.out-is, w.n-is) (moved_none _ _ _ _ _ _ b (omega (arith, b.long)) w.if-mark-eq1.false)
    ]

pub returns : goal.returns
returns c =
    let b = c.loop-i.invariant in
    moved-end slot_count _ _ _ _ _ b (omega (arith, b.long)) ∙ sym (gathered-pair _ _ (sym c.paired.ensures ∙ c.if-not-paired.false))
