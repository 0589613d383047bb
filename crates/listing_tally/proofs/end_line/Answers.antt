-- `listing_tally::end_line` meets its contract.
use Rattle.std.proofs.Common.{◌≡◌, length, sym, arith, length-take-le, rules}
use Rattle.texts.specs.Logs.{longest_line}
use Rattle.listing_tally.proofs.Answers.{end-long, end-taken, none-held, rest_put}
use Rattle.listing_tally.proofs.end_line.Goals as goal
use Rattle.listing_tally.proofs.end_line.Goals.{Start}

-- the row has its length
line-wide : (c : Start) → length c.args.line ≡ longest_line
line-wide c = search rules

pub returns-then-held-gt-LONGEST : goal.returns-then-held-gt-LONGEST
returns-then-held-gt-LONGEST c = let a = c.args in end-long a.progress.reads a.progress.extents a.stack.now a.counts.now a.progress.phase a.line a.held a.rest.now (omega arith) c.refused.result c.refused.ensures

pub returns-then-none : goal.returns-then-none
returns-then-none c =
    let a = c.args in
    end-taken a.progress.reads a.progress.extents a.stack.now a.counts.now a.progress.phase a.line a.held a.rest.now (omega arith) a.rest.now (none-held a.line a.held a.rest.now (omega arith)) _ c.take_line.ensures

pub slice_bounds-take_line-end : goal.slice_bounds-take_line-end
slice_bounds-take_line-end c = sym (length-take-le _ _ (omega (arith, c.put.auto.out, line-wide (goal.at.slice_bounds-take_line-end c).Start)))

pub returns : goal.returns
returns c =
    let a = c.args in
    let k = c.put in
    end-taken a.progress.reads a.progress.extents a.stack.now a.counts.now a.progress.phase a.line a.held a.rest.now (omega arith) _ (rest_put a.line a.held a.rest.now (omega (arith, line-wide (goal.at.returns c).Start)) k.new.out k.ensures) _ c.take_line-2.ensures
