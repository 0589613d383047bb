-- `session::Session::read` meets its contract. Each return is one way of `read_of`.
use mathlib.Core.Path.{◌≡◌, sym, subst, ◌∙◌}
use native.Mathlib.Omega.{arith}
use Rattle.session.specs.declared.Session.{Session}
use Rattle.session.specs.Sessions.{Wide}
use Rattle.session.proofs.Corresponds.{Facts, sound-facts}
use Rattle.session.proofs.Ways.{Ready, ready_made, ready-there, search_of, found, Accepted, gatherable, lent-refusal, refused-way, accepts, moves, known-way, enters, cold-way}
use borrow.Author.Rules.{rules}
use Rattle.session.proofs.Session.read.Goals as goal
use Rattle.session.proofs.Session.read.Goals.{After-find-found, In_default, Joined-filled, Start, then-filled, else-filled}

-- the widths of the session's arrays
wide : (c : Start) → Wide c.args.self
wide c = record { first-wide = search rules; hist-wide = search rules; slots-wide = search rules; rights-wide = search rules }

-- the read is accepted
accepted : (c : In_default) → Wide c.args.self → Accepted c.args.self c.args.extent
accepted c w = accepts _ w _ (sym (lent-refusal _ _ c.fields.ensures _) ∙ sym c.refusal-refusal.ensures ∙ c.in_default.is)

-- what the test of the session says
facts : (c : In_default) → Wide c.args.self → Facts c.args.self
facts c w = sound-facts _ w (accepted c w).ok

-- room is made
made : (c : Joined-filled) → Facts c.args.self → Ready c.args.self c.if-filled.self
made c f =
    let s = c.args.self in
    elim c.if-filled.branch [
      | then-filled b ↦ subst (λ (σ : Session). Ready s σ) (sym (b.self-is ∙ b.gathered-self.ensures)) (ready_made s f b.if-filled.true)
      | else-filled b ↦ subst (λ (σ : Session). Ready s σ) (sym b.self-is) (ready-there s f b.if-filled.false)
    ]

-- the search finds the extent's slot
searched : (c : After-find-found) → Ready c.args.self c.if-filled.self → c.find-found.result ≡ search_of c.if-filled.self c.args.extent
searched c r = c.find-found.ensures ∙ found c.args.self c.if-filled.self r c.args.extent

pub returns-in-Some : goal.returns-in-Some
returns-in-Some c = c.refused.ensures ∙ refused-way _ (wide (goal.at.returns-in-Some c).Start) _ _ (sym c.in-Some.is ∙ c.refusal-refusal.ensures ∙ lent-refusal _ _ c.fields.ensures _)

pub gathered-self-requires : goal.gathered-self-requires
gathered-self-requires c =
    let b = goal.at.gathered-self-requires c in
    gatherable _ (facts b.In_default (wide b.Start))

pub overflow_cast-below : goal.overflow_cast-below
overflow_cast-below c =
    let b = goal.at.overflow_cast-below c in
    omega (arith, (made b.Joined-filled (facts b.In_default (wide b.Start))).roomed.room)

pub entered-requires : goal.entered-requires
entered-requires c =
    let b = goal.at.entered-requires c in
    let w = wide b.Start in
    let r = made b.Joined-filled (facts b.In_default w) in
    enters _ w _ (accepted b.In_default w) _ _ r (searched b.After-find-found r) c.in_default-slot.is

pub returns-in_default-slot : goal.returns-in_default-slot
returns-in_default-slot c =
    let b = goal.at.returns-in_default-slot c in
    let w = wide b.Start in
    let r = made b.Joined-filled (facts b.In_default w) in
    c.entered.ensures ∙ cold-way _ w _ (accepted b.In_default w) _ _ r (searched b.After-find-found r) c.in_default-slot.is

pub moved-requires : goal.moved-requires
moved-requires c =
    let b = goal.at.moved-requires c in
    let w = wide b.Start in
    let r = made b.Joined-filled (facts b.In_default w) in
    moves _ w _ (accepted b.In_default w) _ _ r (searched b.After-find-found r) _ c.in-Some-slot.is

pub returns : goal.returns
returns c =
    let b = goal.at.returns c in
    let w = wide b.Start in
    let r = made b.Joined-filled (facts b.In_default w) in
    c.moved.ensures ∙ known-way _ w _ (accepted b.In_default w) _ _ r (searched b.After-find-found r) _ c.in-Some-slot.is
