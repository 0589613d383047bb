-- `reuse_rows::all_zero` meets its contract: no fault yet, and none in the rest, is what the test says.
use lib.ListN.{drop}
use Rattle.reuse_rows.specs.Rows.{blank}
use Rattle.reuse_rows.proofs.Slices.{Passing}
use Rattle.reuse_rows.proofs.all_zero.Given as goal

abbrev pub invariant-loop-x : goal.invariant-loop-x
invariant-loop-x l = Passing l.clear (blank (drop l.x-index l.row)) (blank l.row)
