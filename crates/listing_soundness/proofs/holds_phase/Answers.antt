-- `listing_soundness::holds_phase` meets its contract.
use borrow.Author.Tests.{eq-eqb, ne_eqb}
use Rattle.listing_soundness.specs.Soundness.{holds_phase}
use Rattle.listing_soundness.proofs.holds_phase.Goals as goal

pub returns-then-held-ne0 : goal.returns-then-held-ne0
unfolding holds_phase
returns-then-held-ne0 c = rw (c.in-Stopped.is, ne_eqb _ 0 c.if-held-ne0.true)

pub returns-then-reads-ne0 : goal.returns-then-reads-ne0
unfolding holds_phase
returns-then-reads-ne0 c = rw (c.in-Stopped.is, eq-eqb _ 0 c.if-held-ne0.false, ne_eqb _ 0 c.if-reads-ne0.true)

pub returns-in-Empty : goal.returns-in-Empty
unfolding holds_phase
returns-in-Empty c = rw c.in-Empty.is

pub returns-in-Inside : goal.returns-in-Inside
unfolding holds_phase
returns-in-Inside c = rw c.in-Inside.is

pub returns-in-Whole : goal.returns-in-Whole
unfolding holds_phase
returns-in-Whole c = rw c.in-Whole.is

pub returns-else-reads-ne0 : goal.returns-else-reads-ne0
unfolding holds_phase
returns-else-reads-ne0 c = rw (c.in-Stopped.is, eq-eqb _ 0 c.if-held-ne0.false, eq-eqb _ 0 c.if-reads-ne0.false) c.refuses_text.ensures
