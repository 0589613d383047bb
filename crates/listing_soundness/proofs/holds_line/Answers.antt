-- `listing_soundness::holds_line` meets its contract.
use Rattle.listing_soundness.proofs.Soundness.{line-over, line-ends, line-left}
use borrow.Author.Rules.{rules}
use Rattle.listing_soundness.proofs.holds_line.Goals as goal

pub returns-then-over : goal.returns-then-over
returns-then-over c = line-over c.args.line c.args.held c.if-over.true

pub returns-then-line_length-held : goal.returns-then-line_length-held
returns-then-line_length-held c =
    line-ends c.args.line c.args.held c.if-over.false (search rules) c.line_length.result c.line_length.ensures c.if-line_length-held.true

pub returns : goal.returns
returns c =
    let n = c.line_length in
    line-left c.args.line c.args.held c.if-over.false (search rules) n.result n.ensures c.if-line_length-held.false c.run_of.result c.run_of.ensures
