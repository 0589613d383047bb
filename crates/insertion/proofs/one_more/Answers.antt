-- `insertion::one_more` meets its contract.
use Rattle.std.proofs.Common.{Ok, ℕ, length, take, arith, ◌≡◌, sym, ap, ◌∙◌}
use lib.ListN.{length-replicate}
use mir.Syntax.{w64}
use mir.ValLaws.{to_z-of_z}
use Rattle.reuse.specs.Limits.{max_extents}
use Rattle.reuse.specs.Lists.{mem, before}
use Rattle.insertion_calls.proofs.Calls.{call-past, call-reads}
use Rattle.insertion.proofs.Following.{ahead_small}
use Rattle.insertion.proofs.Inserting.{front-ready, first-over, above-found, follow-ready, second-over, far-ready, since-small, third-over, longer-over, change-told}
use Rattle.insertion.proofs.one_more.Goals as goal
use Rattle.insertion.proofs.one_more.Goals.{After-unwrap_or-ahead}

-- so many extents stand above the one put in
above : (c : After-unwrap_or-ahead) → c.unwrap_or-ahead.result ≡ length (before c.args.extent (take c.in-Some.before c.hold.new.stack))
above c = c.unwrap_or-ahead.ensures ∙ above-found c.args.trace.now _ c.if-reads-place.false (omega (arith, c.if-reads.false)) c.args.extent c.args.size c.if-reads.false _ _ _ c.hold.ensures _ c.in-Some.is c.ahead-found.result c.ahead-found.ensures.above

-- and it is known where it stands
seen : (c : After-unwrap_or-ahead) → c.is_some-known.result ≡ mem c.args.extent (take c.in-Some.before c.hold.new.stack)
seen c = c.is_some-known.ensures ∙ c.ahead-found.ensures.known

pub returns-then-reads-place : goal.returns-then-reads-place
returns-then-reads-place c = sym (call-past _ _ _ _ c.if-reads-place.true)

pub returns-then-reads : goal.returns-then-reads
returns-then-reads c = sym (call-reads c.args.trace.now _ _ _ c.if-reads-place.false (omega (arith, c.if-reads.true)))

pub hold-requires : goal.hold-requires
hold-requires c = front-ready c.args.trace.now _ c.if-reads-place.false (omega (arith, c.if-reads.false)) _ (length-replicate {A = ℕ} max_extents 0)

pub returns-in_default : goal.returns-in_default
returns-in_default c = first-over c.args.trace.now _ c.if-reads-place.false (omega (arith, c.if-reads.false)) c.args.extent c.args.size c.if-reads.false _ _ _ c.hold.ensures c.in_default.is

pub follow-requires : goal.follow-requires
follow-requires c = follow-ready c.args.trace.now _ c.if-reads-place.false (omega (arith, c.if-reads.false)) c.args.extent c.args.size c.if-reads.false _ _ _ c.hold.ensures _ c.in-Some.is _ (above (goal.at.follow-requires c).After-unwrap_or-ahead) _ (seen (goal.at.follow-requires c).After-unwrap_or-ahead)

pub returns-in_default-follow : goal.returns-in_default-follow
returns-in_default-follow c = second-over c.args.trace.now _ c.if-reads-place.false (omega (arith, c.if-reads.false)) c.args.extent c.args.size c.if-reads.false _ _ _ c.hold.ensures _ c.in-Some.is _ (above (goal.at.returns-in_default-follow c).After-unwrap_or-ahead) _ (seen (goal.at.returns-in_default-follow c).After-unwrap_or-ahead) _ _ c.follow.ensures c.in_default-follow.is

pub hold-requires-2 : goal.hold-requires-2
hold-requires-2 c = far-ready c.args.trace.now _ c.if-reads-place.false (omega (arith, c.if-reads.false)) c.args.extent c.args.size c.if-reads.false _ _ _ c.hold.ensures _ c.in-Some.is _ (above (goal.at.hold-requires-2 c).After-unwrap_or-ahead) _ (seen (goal.at.hold-requires-2 c).After-unwrap_or-ahead) _ _ c.follow.ensures _ c.in-Some-follow.is

pub returns-in_default-hold : goal.returns-in_default-hold
returns-in_default-hold c = third-over c.args.trace.now _ c.if-reads-place.false (omega (arith, c.if-reads.false)) c.args.extent c.args.size c.if-reads.false _ _ _ c.hold.ensures _ c.in-Some.is _ (above (goal.at.returns-in_default-hold c).After-unwrap_or-ahead) _ (seen (goal.at.returns-in_default-hold c).After-unwrap_or-ahead) _ _ c.follow.ensures _ c.in-Some-follow.is _ _ c.hold-2.ensures c.in_default-hold.is

pub returns-then-over : goal.returns-then-over
returns-then-over c = longer-over c.args.trace.now _ c.if-reads-place.false (omega (arith, c.if-reads.false)) c.args.extent c.args.size c.if-reads.false _ _ _ c.hold.ensures _ c.in-Some.is _ (above (goal.at.returns-then-over c).After-unwrap_or-ahead) _ (seen (goal.at.returns-then-over c).After-unwrap_or-ahead) _ _ c.follow.ensures _ c.in-Some-follow.is _ _ c.hold-2.ensures _ c.in-Some-hold.is (rw c.extents_with-over.ensures at c.if-over.true)

pub overflow_add-ahead : goal.overflow_add-ahead
overflow_add-ahead c = omega (arith, ahead_small _ _ _ _ _ (follow-ready c.args.trace.now _ c.if-reads-place.false (omega (arith, c.if-reads.false)) c.args.extent c.args.size c.if-reads.false _ _ _ c.hold.ensures _ c.in-Some.is _ (above (goal.at.overflow_add-ahead c).After-unwrap_or-ahead) _ (seen (goal.at.overflow_add-ahead c).After-unwrap_or-ahead)))

pub change-requires : goal.change-requires
change-requires c = since-small c.args.trace.now _ c.if-reads-place.false (omega (arith, c.if-reads.false)) c.args.extent c.args.size c.if-reads.false _ _ _ c.hold.ensures _ c.in-Some.is _ (above (goal.at.change-requires c).After-unwrap_or-ahead) _ (seen (goal.at.change-requires c).After-unwrap_or-ahead) _ _ c.follow.ensures _ c.in-Some-follow.is

pub returns : goal.returns
returns c =
    ap Ok (to_z-of_z w64 c.change.result (record { sfits = c.change.type_inv }) ∙ c.change.ensures)
    ∙ change-told c.args.trace.now _ c.if-reads-place.false (omega (arith, c.if-reads.false)) c.args.extent c.args.size c.if-reads.false _ _ _ c.hold.ensures _ c.in-Some.is _ (above (goal.at.returns c).After-unwrap_or-ahead) _ (seen (goal.at.returns c).After-unwrap_or-ahead) _ _ c.follow.ensures _ c.in-Some-follow.is _ _ c.hold-2.ensures _ c.in-Some-hold.is (rw c.extents_with-over.ensures at c.if-over.false)
