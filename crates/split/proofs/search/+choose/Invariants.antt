-- `split::search::choose` meets its contract. It calls itself with one customer less.
use lib.ListN.{length}
use Rattle.split.proofs.search.+choose.Given as goal

abbrev pub decreases-choose : goal.decreases-choose
decreases-choose l = length l.leasts.now
