-- `plan_reader::read` meets its contract.
use mathlib.Core.Path.{subst, ◌∙◌}
use native.Mathlib.Omega.{arith}
use lib.ListN.{length}
use Rattle.texts.specs.Limits.{max_joins}
use Rattle.std.specs.Prelude.{Ok}
use Rattle.reuse.proofs.Told.{handed_on}
use Rattle.plan_reader.specs.Answers.{FormWithin, FormIs}
use Rattle.plan_reader.proofs.Whole.{too_long_lem, refused, followed, whole}
use Rattle.plan_reader.proofs.read.Goals as goal
use Rattle.plan_reader.proofs.read.Goals.{In_ok-form}

-- the form that was read
formed : (c : In_ok-form) →
    let a = c.args in
    let g = c.in_ok-form.form in
    FormWithin 0 (length a.text.now) 0 0 max_joins 0 (Ok g)
    × FormIs a.text.now 0 0 0 0 (Ok g)
formed c =
    let a = c.args in
    let e = c.form.ensures in
    (subst (FormWithin 0 (length a.text.now) 0 0 max_joins 0) c.in_ok-form.was e.within, subst (FormIs a.text.now 0 0 0 0) c.in_ok-form.was e.is)

pub returns-then-text-gt-MAX_BYTES : goal.returns-then-text-gt-MAX_BYTES
returns-then-text-gt-MAX_BYTES c = too_long_lem c.args.text.now c.if-text-gt-MAX_BYTES.true

pub returns-then-form-text : goal.returns-then-form-text
returns-then-form-text c =
    let a = c.args in
    let g = c.in_ok-form.form in
    let f = formed (goal.at.returns-then-form-text c).In_ok-form in
    let w = f.0.2 in
    followed a.text.now c.if-text-gt-MAX_BYTES.false g.reads g.depth g.closes g.next (omega arith) f.1 c.if-form-text.true

pub returns-in_err-form : goal.returns-in_err-form
returns-in_err-form c =
    let a = c.args in
    handed_on _ _ c.from_residual.ensures.1
    ∙ refused a.text.now c.if-text-gt-MAX_BYTES.false _ (subst (FormIs a.text.now 0 0 0 0) c.in_err-form.was c.form.ensures.is)

pub returns : goal.returns
returns c =
    let a = c.args in
    let g = c.in_ok-form.form in
    let f = formed (goal.at.returns c).In_ok-form in
    let w = f.0.2 in
    whole a.text.now c.if-text-gt-MAX_BYTES.false g.reads g.depth g.closes g.next (omega arith) f.1 c.if-form-text.false
