-- `capi::sessions::jemqolu_session_summary` meets its contract.
use native.Mathlib.Omega.{arith}
use Rattle.capi_answers.proofs.Signed.{read_count}
use Rattle.capi_sizes.proofs.Small.{small-summary}
use Rattle.capi.proofs.sessions.jemqolu_session_summary.Goals as goal

pub returns : goal.returns
returns c =
    let h = c.summary.ensures in
    (read_count c.count.result _ _ c.count.type_inv c.count.ensures h.0 (small-summary c.args.out.now (omega (arith, c.well_formed.1.0.1)) _), h.1)
