-- `split_rows::misses_row` meets its contract. The invariant is `Counted`: the misses at the sizes from s on stand in the row.
use Rattle.split_rows.proofs.Counting.{Counted}
use Rattle.split_rows.proofs.misses_row.Given as goal

abbrev pub invariant-loop-s : goal.invariant-loop-s
invariant-loop-s l = Counted l.words l.row l.s
