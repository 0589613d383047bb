use mathlib.Core.Path.{sym}
use native.Mathlib.Omega.{arith}
use borrow.Author.Rules.{rules}
use Rattle.reuse_copies.proofs.Puts.{placed-not, copy_start, copy-turn, copy-end}
use Rattle.reuse_copies.proofs.put.Goals as goal
use Rattle.reuse_copies.proofs.put.Goals.{then-out-at-via-then-out-at, then-out-at-via-else-out-at+then-out-at-2}

pub returns-then-out-at : goal.returns-then-out-at
returns-then-out-at g c =
    sym (placed-not _ _ _ (elim c.then-out-at.branch [
      | then-out-at-via-then-out-at w ↦ omega arith
      | then-out-at-via-else-out-at+then-out-at-2 w ↦ omega arith
    ]))

pub loop-i-init : goal.loop-i-init
loop-i-init g c = copy_start _ _ _ (omega arith)

pub loop-i-preserved : goal.loop-i-preserved
loop-i-preserved g c = copy-turn _ _ _ _ _ c.loop-i.invariant _ (search rules) (omega arith)

pub returns : goal.returns
returns g c = copy-end _ _ _ _ _ c.loop-i.invariant (omega arith)
