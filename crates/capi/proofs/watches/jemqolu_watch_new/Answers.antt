-- `capi::watches::jemqolu_watch_new` meets its contract.
use native.Mathlib.Omega.{arith}
use Rattle.capi_answers.proofs.Signed.{read_count}
use Rattle.capi_sizes.proofs.Small.{small-watch}
use Rattle.capi.proofs.watches.jemqolu_watch_new.Goals as goal

pub returns : goal.returns
returns c =
    let h = c.new_watch.ensures in
    (read_count c.count.result _ _ c.count.type_inv c.count.ensures h.0 (small-watch c.args.words.now (omega (arith, c.well_formed.1.0.1)) _), h.1)
