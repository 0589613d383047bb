use native.Mathlib.Omega.{arith}
use Rattle.listing_pages.proofs.Rows.{rows_start, rows_left, rows-turn, rows_end}
use borrow.Author.Rules.{rules}
use Rattle.listing_pages.proofs.put_rows.Goals as goal

pub loop-i-init : goal.loop-i-init
loop-i-init c = rows_start _ _ _ _ c.requires

pub overflow_sub-misses : goal.overflow_sub-misses
overflow_sub-misses c = omega (arith, rows_left _ _ _ _ _ _ _ c.loop-i.invariant)

pub loop-i-preserved : goal.loop-i-preserved
loop-i-preserved c = rows-turn _ _ _ _ _ _ _ c.loop-i.invariant (omega arith) (search rules) c.put_at-next.ensures

pub returns : goal.returns
returns c = rows_end _ _ _ _ _ _ _ c.loop-i.invariant (omega arith)
