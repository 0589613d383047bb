-- `capi::sessions::jemqolu_session_new` meets its contract.
use native.Mathlib.Omega.{arith}
use Rattle.capi_answers.proofs.Signed.{read_count}
use Rattle.capi_sizes.proofs.Small.{small-session}
use Rattle.capi.proofs.sessions.jemqolu_session_new.Goals as goal

pub returns : goal.returns
returns c =
    let h = c.new_session.ensures in
    (read_count c.count.result _ _ c.count.type_inv c.count.ensures h.0 (small-session c.args.session.now (omega (arith, c.well_formed.0.1))), h.1)
