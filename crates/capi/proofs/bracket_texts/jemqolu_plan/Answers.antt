-- `capi::bracket_texts::jemqolu_plan` meets its contract.
use native.Mathlib.Omega.{arith}
use Rattle.capi_answers.proofs.Signed.{read_count}
use Rattle.capi_sizes.proofs.Small.{small-run}
use Rattle.capi.proofs.bracket_texts.jemqolu_plan.Goals as goal

pub returns-clause-is : goal.returns-clause-is
returns-clause-is c =
    let h = c.run.ensures in
    read_count c.count.result _ _ c.count.type_inv c.count.ensures h.is (small-run c.args.out.now (omega (arith, c.well_formed.1.1.1.0.1)) _ _ _)
