-- `split::search::lay` meets its contract. It calls itself with one customer less.
use lib.ListN.{length}
use Rattle.split.proofs.search.+lay.Given as goal

abbrev pub decreases-lay : goal.decreases-lay
decreases-lay l = length l.leasts.now
