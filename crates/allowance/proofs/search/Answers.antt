-- `allowance::search` meets its contract.
use mathlib.Core.Path.{refl}
use native.Mathlib.Omega.{arith}
use Rattle.allowance.proofs.Searching.{search-start, search-takes, search-turn, search-enough, search-end}
use Rattle.allowance.proofs.search.Goals as goal

pub loop-count-init : goal.loop-count-init
loop-count-init c = (refl, search-start _ _ _ c.requires)

pub overflow_sub-left : goal.overflow_sub-left
overflow_sub-left c = rw (← c.loop-count.invariant.0) (search-takes _ _ _ _ _ _ c.loop-count.invariant.1)

pub loop-count-preserved : goal.loop-count-preserved
loop-count-preserved c =
    (omega arith, rw (← c.loop-count.invariant.0) (search-turn _ _ _ _ _ _ c.loop-count.invariant.1 (omega arith) (omega arith)))

pub returns-after-loop-count : goal.returns-after-loop-count
returns-after-loop-count c = search-end _ _ _ _ _ _ c.loop-count.invariant.1 (omega arith)

pub returns-then-left-misses : goal.returns-then-left-misses
returns-then-left-misses c = search-enough _ _ _ _ _ _ c.loop-count.invariant.1 (omega arith)
