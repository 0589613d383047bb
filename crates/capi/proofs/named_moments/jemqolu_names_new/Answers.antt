-- `capi::named_moments::jemqolu_names_new` meets its contract.
use native.Mathlib.Omega.{arith}
use Rattle.capi_answers.proofs.Signed.{read_count}
use Rattle.capi_sizes.proofs.Small.{small-names}
use Rattle.capi.proofs.named_moments.jemqolu_names_new.Goals as goal

pub returns : goal.returns
returns c =
    let h = c.new_names.ensures in
    (read_count c.count.result _ _ c.count.type_inv c.count.ensures h.0 (small-names c.args.names.now (omega (arith, c.well_formed.0.1))), h.1)
