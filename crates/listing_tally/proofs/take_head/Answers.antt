-- `listing_tally::take_head` meets its contract.
use Rattle.std.proofs.Common.{ap, ◌∙◌}
use Rattle.listing_tally.specs.Standings.{head_taken}
use Rattle.listing_tally.proofs.take_head.Goals as goal

pub returns-in_default : goal.returns-in_default
returns-in_default c =
    let a = c.args in
    c.refused.ensures ∙ ap (head_taken a.progress.reads a.progress.extents) c.in_default.ensures

pub returns : goal.returns
returns c =
    let a = c.args in
    c.gone_on.ensures ∙ ap (head_taken a.progress.reads a.progress.extents) c.in-Some.ensures
