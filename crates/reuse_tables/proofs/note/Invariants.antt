-- `reuse_tables::note` meets its contract. The invariant is `Noting`.
use Rattle.reuse_tables.proofs.Lookups.{Noting}
use Rattle.reuse_tables.proofs.note.Given as goal

abbrev pub invariant-loop-i : goal.invariant-loop-i
invariant-loop-i l = Noting l.words l.noted l.table l.i
