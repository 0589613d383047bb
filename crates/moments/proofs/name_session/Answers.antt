-- `moments::name_session` meets its contract.
use mathlib.Core.Path.{sym, ◌∙◌}
use native.Mathlib.Omega.{arith}
use Rattle.session.specs.Sessions.{Wide}
use Rattle.moments.proofs.Places.{named_put}
use Rattle.moments.proofs.Calls.{name_done, apart, lies_within}
use borrow.Author.Rules.{rules}
use Rattle.moments.proofs.name_session.Goals as goal

pub returns : goal.returns
returns c =
    let named = sym c.is_name-named.ensures ∙ c.if-not-named.false in
    let wide : Wide c.args.s = search rules in
    let fits = lies_within _ _ (omega (arith, c.place_start-start.ensures, c.if-names-end.false)) in
    let e = apart _ _ (name_done _ _ _ named (sym c.sound-ok.ensures ∙ c.if-unsound.false) fits) in
    (e.0, named_put _ _ named fits _ wide _ _ c.place_start-start.ensures c.put_session.ensures ∙ e.1)
