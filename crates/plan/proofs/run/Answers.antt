-- `plan::run` meets its contract.
use mathlib.Core.Path.{◌≡◌, sym, ◌∙◌}
use native.Mathlib.Omega.{arith}
use Rattle.reuse.proofs.Told.{handed_on}
use Rattle.texts.specs.Lines.{got}
use Rattle.texts.specs.Plans.{Plan, reads, depth}
use Rattle.texts.specs.PlanTexts.{plan_of}
use Rattle.plan_calls.proofs.Carrying.{segs-differ}
use Rattle.plan.proofs.Reading.{text-refused, text-read}
use Rattle.plan.proofs.run.Goals as goal
use Rattle.plan.proofs.run.Goals.{In_ok-plan}

-- the plan that was read
plan-is : (c : In_ok-plan) →
    let a = c.args in
    let g = c.in_ok-plan.plan in
    (t : Plan) × (plan_of a.text.now ≡ got t) × (reads t ≡ g.reads) × (depth t ≡ g.depth)
plan-is c =
    let a = c.args in
    let g = c.in_ok-plan.plan in
    text-read a.text.now a.log.now a.work.now a.out.now g.reads g.depth (sym c.in_ok-plan.was ∙ c.read.ensures)

pub returns-then-plan-log : goal.returns-then-plan-log
returns-then-plan-log c =
    let p = plan-is (goal.at.returns-then-plan-log c).In_ok-plan in
    let d = segs-differ c.args.text.now c.args.log.now c.args.work.now c.args.out.now p.0 p.1 (λ e. omega (arith, e, p.2)) in record { is = d.0; work = d.1.0; out = d.1.1 }

pub carry_out-requires : goal.carry_out-requires
carry_out-requires c =
    let p = plan-is (goal.at.carry_out-requires c).In_ok-plan in
    record { plan = p.0; read = p.1; covers = let w = p.2 in omega (arith, w); deepens = p.3 }

pub returns-in_err-plan : goal.returns-in_err-plan
returns-in_err-plan c =
    let a = c.args in
    let d = text-refused a.text.now a.log.now a.work.now a.out.now _ (sym c.in_err-plan.was ∙ c.read.ensures) in
    record { is = handed_on _ _ c.from_residual.ensures.1 ∙ d.0; work = d.1.0; out = d.1.1 }
