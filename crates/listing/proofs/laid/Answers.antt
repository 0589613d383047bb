-- `listing::laid` meets its contract.
use Rattle.listing.specs.Listers.{blank_line}
use Rattle.listing.proofs.Listers.{laid-is}
use borrow.Author.Rules.{rules}
use Rattle.listing.proofs.laid.Goals as goal

pub returns : goal.returns
unfolding blank_line
returns c =
    let a = c.args in
    laid-is a.line a.held a.progress.phase a.progress.reads a.progress.extents a.stack a.counts c.requires.0 (search rules) c.requires.1 (search rules) _ c.put.ensures _ c.padded-recent.ensures _ c.padded-counted.ensures
