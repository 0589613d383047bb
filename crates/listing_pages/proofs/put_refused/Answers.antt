-- `listing_pages::put_refused` meets its contract.
use Rattle.listing_pages.proofs.Pieces.{refusal-then}
use Rattle.listing_pages.proofs.put_refused.Goals as goal

pub returns : goal.returns
returns c = refusal-then _ _ c.put_named-numbered.ensures c.put_end.ensures
