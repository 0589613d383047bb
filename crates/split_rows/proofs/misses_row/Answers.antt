use Rattle.split_rows.proofs.Counting.{counted_start, counted-turn, counted-end}
use Rattle.std.proofs.Common.{refl, arith}
use Rattle.split_rows.proofs.misses_row.Goals as goal

pub loop-s-init : goal.loop-s-init
loop-s-init c = counted_start _ c.requires

pub loop-s-preserved : goal.loop-s-preserved
loop-s-preserved c = counted-turn _ c.requires _ _ c.loop-s.invariant (omega arith) _ refl

pub returns : goal.returns
returns c = counted-end _ _ _ c.loop-s.invariant (omega arith)
