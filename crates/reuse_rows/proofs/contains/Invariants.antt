-- `reuse_rows::contains` meets its contract: x was found, or it is in the slice where it is in what is left.
use Rattle.reuse_rows.proofs.Slices.{Looked}
use Rattle.reuse_rows.proofs.contains.Given as goal

abbrev pub invariant-loop-y : goal.invariant-loop-y
invariant-loop-y l = Looked l.s l.x l.found l.y-index
