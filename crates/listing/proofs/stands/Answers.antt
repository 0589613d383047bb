-- `listing::stands` meets its contract.
use mathlib.Core.Path.{◌∙◌}
use Rattle.listing.proofs.Listers.{stands-empty, stands-inside, stands-whole, stands-stopped}
use Rattle.listing.proofs.stands.Goals as goal

pub returns-in-Empty : goal.returns-in-Empty
returns-in-Empty c = let a = c.args in c.laid.ensures ∙ stands-empty a.turn.line a.turn.held a.turn.progress.phase a.turn.progress.reads a.turn.progress.extents a.stack a.counts c.in-Empty.is

pub returns-in-Inside : goal.returns-in-Inside
returns-in-Inside c = let a = c.args in c.laid-in-Inside.ensures ∙ stands-inside a.turn.line a.turn.held a.turn.progress.phase a.turn.progress.reads a.turn.progress.extents a.stack a.counts c.in-Inside.is

pub returns-in-Whole : goal.returns-in-Whole
returns-in-Whole c = let a = c.args in c.laid-in-Whole.ensures ∙ stands-whole a.turn.line a.turn.held a.turn.progress.phase a.turn.progress.reads a.turn.progress.extents a.stack a.counts c.in-Whole.is

pub returns-in-Stopped : goal.returns-in-Stopped
returns-in-Stopped c = let a = c.args in c.laid-in-Stopped.ensures ∙ stands-stopped a.turn.line a.turn.held a.turn.progress.phase a.turn.progress.reads a.turn.progress.extents a.stack a.counts _ c.in-Stopped.is
