use mathlib.Core.Path.{◌≡◌, sym, ap, ◌∙◌}
use Prim.Native.Nat.{ℕ, ◌-◌}
use native.Mathlib.Omega.{arith}
use lib.Dec.{eqb}
use borrow.Author.Tests.{eq-eqb, ne_eqb}
use Rattle.reuse.specs.Limits.{levels}
use Rattle.session_rights.specs.Rights.{marks_from}
use Rattle.session_points.proofs.Marking.{mark-worked}
use Rattle.session_marks.specs.Marks.{holds}
use Rattle.session_marks.proofs.Search.{holds-other, holds-some, holds-zero, search-hit, search-miss, search-none, found-pair, found_none}
use Rattle.session_marks.proofs.find.Goals as goal
use Rattle.session_marks.proofs.find.Goals.{After-mark_at-marked}

-- where the slot holds 0, its mark worked out tells
tested : (c : After-mark_at-marked)
    → let l = c.loop-i in
    let a = c.args in
    holds a.slots.now (marks_from levels a.count a.rights.now) a.x (l.i - 1) ≡ eqb c.mark_at-marked.result 1
tested c =
    let l = c.loop-i in
    let a = c.args in
    holds-zero a.slots.now (marks_from levels a.count a.rights.now) a.x (l.i - 1) c.if-slots-i.true c.if-other.false
    ∙ ap (λ (n : ℕ). eqb n 1) (sym (c.mark_at-marked.ensures ∙ mark-worked _ _ _ c.if-rights-ne-RIGHTS.false (omega arith)))

pub returns-then-slots-ne-SLOTS : goal.returns-then-slots-ne-SLOTS
returns-then-slots-ne-SLOTS c = sym (found_none _ _ _ _ _ c.then-slots-ne-SLOTS.either)

pub loop-i-init : goal.loop-i-init
loop-i-init c = (sym (found-pair _ _ _ _ _ c.if-slots-ne-SLOTS.false c.if-rights-ne-RIGHTS.false c.if-next-gt-SLOTS.false), omega arith)

pub returns-then-other : goal.returns-then-other
returns-then-other c =
    let l = c.loop-i in
    let a = c.args in
    sym (search-hit _ l.i l.looked (omega arith) (omega (arith, l.invariant.1)) (holds-some a.slots.now (marks_from levels a.count a.rights.now) a.x (l.i - 1) c.if-slots-i.true c.if-other.true)) ∙ l.invariant.0

pub returns-then-marked : goal.returns-then-marked
returns-then-marked c =
    let l = c.loop-i in
    sym (search-hit _ l.i l.looked (omega arith) (omega (arith, l.invariant.1)) (tested (goal.at.returns-then-marked c).After-mark_at-marked ∙ eq-eqb _ 1 c.if-marked.true)) ∙ l.invariant.0

pub loop-i-preserved-else-marked : goal.loop-i-preserved-else-marked
loop-i-preserved-else-marked c =
    let l = c.loop-i in
    (sym (search-miss _ l.i l.looked (omega arith) (tested (goal.at.loop-i-preserved-else-marked c).After-mark_at-marked ∙ ne_eqb _ 1 c.if-marked.false)) ∙ l.invariant.0, omega arith)

pub loop-i-preserved : goal.loop-i-preserved
loop-i-preserved c =
    let l = c.loop-i in
    let a = c.args in
    (sym (search-miss _ l.i l.looked (omega arith) (holds-other a.slots.now (marks_from levels a.count a.rights.now) a.x (l.i - 1) c.if-slots-i.false)) ∙ l.invariant.0, omega arith)

pub returns : goal.returns
returns c = let l = c.loop-i in sym (search-none _ l.i l.looked (omega arith)) ∙ l.invariant.0
