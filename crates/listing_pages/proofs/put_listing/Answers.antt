-- `listing_pages::put_listing` meets its contract.
use lib.ListN.{length}
use Rattle.listing_texts.specs.Tallies.{misses_by}
use Rattle.listing_pages.proofs.Pieces.{listing-then}
use Rattle.listing_pages.proofs.put_listing.Goals as goal

pub returns : goal.returns
returns c =
    let a = c.args in
    listing-then _ a.reads (length a.counts.now) (misses_by a.counts.now) c.put_named-read.ensures c.put_named-counted.ensures c.put_end-closed.ensures c.put_rows.ensures
