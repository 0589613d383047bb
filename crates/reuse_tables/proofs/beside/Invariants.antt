-- `reuse_tables::beside` meets its contract. The invariant is `Besides`.
use Rattle.reuse_tables.proofs.Besides.{Besides}
use Rattle.reuse_tables.proofs.beside.Given as goal

abbrev pub invariant-loop-x : goal.invariant-loop-x
invariant-loop-x l = Besides l.words l.more l.row l.n l.x-index
