-- `listing_rows::put_at` meets its contract.
use Rattle.listing_rows.proofs.Laying.{row-then}
use Rattle.listing_rows.proofs.put_at.Goals as goal

pub returns : goal.returns
returns c = row-then _ _ _ c.args.rows c.put_named-sized.ensures c.put_named-missed.ensures c.put_end.ensures
