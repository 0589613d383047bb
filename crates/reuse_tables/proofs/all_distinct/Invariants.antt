-- `reuse_tables::all_distinct` meets its contract. The invariant is `Apart`: the words passed are apart, and each is noted in the table.
use Rattle.reuse_tables.proofs.Lookups.{Apart}
use Rattle.reuse_tables.proofs.all_distinct.Given as goal

abbrev pub invariant-loop-i : goal.invariant-loop-i
invariant-loop-i l = Apart l.words l.seen l.i
