-- `plan_lines::form_at` meets its contract.
use mathlib.Core.Path.{sym, ◌∙◌}
use Rattle.texts.specs.Plans.{seg_word}
use Rattle.texts.proofs.Positions.{word_fits}
use Rattle.plan_lines.proofs.Places.{form-join, form-seg, join-ends}
use Rattle.plan_lines.proofs.form_at.Goals as goal

pub returns-then-word_at-clause-is : goal.returns-then-word_at-clause-is
returns-then-word_at-clause-is c =
    let a = c.args in
    form-join a.s.now a.at (sym c.if-word_at.true ∙ c.word_at.ensures) _ (join-ends _ _ _ c.in_ok-next.ensures)

pub seg_at-requires : goal.seg_at-requires
seg_at-requires c = let a = c.args in word_fits a.s.now a.at seg_word c.requires (sym c.word_at-2.ensures ∙ c.if-word_at-2.true)

pub returns-then-word_at-2-clause-is : goal.returns-then-word_at-2-clause-is
returns-then-word_at-2-clause-is c =
    let a = c.args in
    form-seg a.s.now a.at (sym c.if-word_at.false ∙ c.word_at.ensures) (sym c.if-word_at-2.true ∙ c.word_at-2.ensures) _ c.seg_at.ensures.is
