-- `reuse_tables::hold` meets its contract. The invariant is `Counting`: the different words passed are held.
use lib.ListN.{take}
use Rattle.reuse_tables.proofs.Counting.{Counting}
use Rattle.reuse_tables.proofs.hold.Given as goal

abbrev pub invariant-loop-x : goal.invariant-loop-x
invariant-loop-x l = Counting (take l.n l.initial.held) l.words l.held l.table l.count l.x-index
