-- `listing_pages::put_rows` meets its contract. The invariant is `Rows`.
use Rattle.listing_pages.proofs.Rows.{Rows}
use Rattle.listing_pages.proofs.put_rows.Given as goal

abbrev pub invariant-loop-i : goal.invariant-loop-i
invariant-loop-i l = Rows l.initial.page l.at l.counts l.page l.next l.misses l.i
