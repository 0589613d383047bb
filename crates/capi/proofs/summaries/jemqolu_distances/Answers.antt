-- `capi::summaries::jemqolu_distances` meets its contract.
use native.Mathlib.Omega.{arith}
use Rattle.capi_answers.proofs.Signed.{read_count}
use Rattle.capi_sizes.proofs.Small.{small-after}
use Rattle.capi.proofs.summaries.jemqolu_distances.Goals as goal

pub returns : goal.returns
returns c =
    let h = c.distances.ensures in
    (read_count c.count.result _ _ c.count.type_inv c.count.ensures h.0 (small-after c.args.out.now (omega (arith, c.well_formed.1.1.0.1)) _ _), h.1)
