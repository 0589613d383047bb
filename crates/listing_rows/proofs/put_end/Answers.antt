-- `listing_rows::put_end` meets its contract.
use Rattle.listing_rows.proofs.Laying.{end-last, end-inner}
use Rattle.listing_rows.proofs.put_end.Goals as goal

pub returns-then-last : goal.returns-then-last
returns-then-last c = end-last _ _ c.if-last.true c.put.ensures

pub returns : goal.returns
returns c = end-inner _ _ c.if-last.false c.put-2.ensures
