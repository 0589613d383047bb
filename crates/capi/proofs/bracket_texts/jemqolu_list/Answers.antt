-- `capi::bracket_texts::jemqolu_list` meets its contract.
use native.Mathlib.Omega.{arith}
use Rattle.capi_answers.proofs.Signed.{read_count}
use Rattle.capi_sizes.proofs.Small.{small-list}
use Rattle.capi.proofs.bracket_texts.jemqolu_list.Goals as goal

pub returns : goal.returns
returns c =
    let h = c.list.ensures in
    (read_count c.count.result _ _ c.count.type_inv c.count.ensures h.0 (small-list c.args.out.now (omega (arith, c.well_formed.1.0.1)) _), h.1)
