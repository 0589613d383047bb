-- `listing_rows::put_number` meets its contract. The invariant is `Digits`.
use Rattle.listing_rows.proofs.Digits.{Digits}
use Rattle.listing_rows.proofs.put_number.Given as goal

abbrev pub invariant-loop-left : goal.invariant-loop-left
invariant-loop-left l = Digits l.n l.digits l.first l.left

abbrev pub decreases-loop-left : goal.decreases-loop-left
decreases-loop-left l = l.left
