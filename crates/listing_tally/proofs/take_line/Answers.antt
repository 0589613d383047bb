-- `listing_tally::take_line` meets its contract.
use Rattle.std.proofs.Common.{ap}
use Rattle.std.specs.Prelude.{None, Some}
use Rattle.listing_tally.specs.declared.Progress.{Progress}
use Rattle.listing_tally.specs.Standings.{stands_at}
use Rattle.listing_tally.proofs.Answers.{line-head, line_row, line-end, line-stop}
use Rattle.listing_tally.proofs.take_line.Goals as goal

pub returns-in_default : goal.returns-in_default
returns-in_default c =
    let a = c.args in
    line_row a.progress.reads a.progress.extents a.stack.now a.counts.now a.progress.phase a.line.now c.in-Inside.is None c.in_default.ensures (stands_at c.refused.result a.stack.now a.counts.now) (ap (λ (p : Progress). stands_at p a.stack.now a.counts.now) c.refused.ensures)

pub returns-in-Empty : goal.returns-in-Empty
returns-in-Empty c =
    let a = c.args in
    line-head a.progress.reads a.progress.extents a.stack.now a.counts.now a.progress.phase a.line.now c.in-Empty.is c.take_head.result c.take_head.ensures

pub returns-in-Some : goal.returns-in-Some
returns-in-Some c =
    let a = c.args in
    line_row a.progress.reads a.progress.extents a.stack.now a.counts.now a.progress.phase a.line.now c.in-Inside.is (Some (c.in-Some.x, c.in-Some.ends)) c.in-Some.ensures _ c.take_read.ensures

pub returns-in-Whole : goal.returns-in-Whole
returns-in-Whole c =
    let a = c.args in
    line-end a.progress.reads a.progress.extents a.stack.now a.counts.now a.progress.phase a.line.now c.in-Whole.is c.refused-in-Whole.result c.refused-in-Whole.ensures

pub returns-in-Stopped : goal.returns-in-Stopped
returns-in-Stopped c =
    let a = c.args in
    line-stop a.progress.reads a.progress.extents a.stack.now a.counts.now a.progress.phase a.line.now c.in-Stopped.field-0 c.in-Stopped.is
