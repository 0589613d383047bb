-- `listing_rows::put_named` meets its contract.
use Rattle.listing_rows.proofs.Laying.{lay-then}
use Rattle.listing_rows.proofs.put_named.Goals as goal

pub returns : goal.returns
returns c = lay-then _ _ _ c.put-named.ensures c.put_number.ensures
