-- `listing_rows::put` meets its contract.
use native.Mathlib.Omega.{arith}
use Rattle.listing_rows.proofs.Laying.{placed_laid}
use Rattle.listing_rows.proofs.put.Goals as goal

pub returns : goal.returns
returns c = placed_laid _ _ _ _ (omega arith) c.put.ensures
