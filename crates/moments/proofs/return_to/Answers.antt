-- `moments::return_to` meets its contract.
use Rattle.std.specs.Prelude.{Some}
use mathlib.Core.Path.{◌≡◌, sym, ap, ◌∙◌}
use Rattle.session.specs.Sessions.{sound}
use Rattle.moments.specs.Names.{session_under}
use Rattle.moments.proofs.Places.{set-lies, set-name, kept_under}
use Rattle.moments.proofs.Calls.{return-unsound, return-done}
use Rattle.moments.proofs.return_to.Goals as goal
use Rattle.moments.proofs.return_to.Goals.{After-session_in-kept}

-- the session taken from the words is the one under the name
under : (c : After-session_in-kept) → c.session_in-kept.result ≡ Some (session_under c.args.names.now c.args.name)
under c =
    c.session_in-kept.ensures
    ∙ kept_under _ _ c.place_start-start.result c.place_start-start.ensures (set-lies _ _ (sym c.is_set-set.ensures ∙ c.if-unset.false))

pub returns-in_default : goal.returns-in_default
returns-in_default c = absurd (c.in_default.not-Some _ (under (goal.at.returns-in_default c).After-session_in-kept))

pub returns-then-not-whole : goal.returns-then-not-whole
returns-then-not-whole c =
    let kept = under (goal.at.returns-then-not-whole c).After-session_in-kept in
    let e : c.in-Some.remembered ≡ session_under c.args.names.now c.args.name = cc in
    let set = sym c.is_set-set.ensures ∙ c.if-unset.false in
    c.stays-then-not-whole.ensures
    ∙ sym (return-unsound _ _ _ (set-name _ _ set) set (sym (c.sound-whole.ensures ∙ ap sound e) ∙ c.if-not-whole.true))

pub returns : goal.returns
returns c =
    let kept = under (goal.at.returns c).After-session_in-kept in
    let e : c.in-Some.remembered ≡ session_under c.args.names.now c.args.name = cc in
    let set = sym c.is_set-set.ensures ∙ c.if-unset.false in
    let ok = sym (c.sound-whole.ensures ∙ ap sound e) ∙ c.if-not-whole.false in
    rw e (sym (return-done _ _ _ (set-name _ _ set) set ok))
