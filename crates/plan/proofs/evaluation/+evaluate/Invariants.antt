-- `plan::evaluation::evaluate` meets its contract. It calls itself with the depth left falling.
use mathlib.Core.Path.{◌≡◌}
use Prim.Native.Nat.{◌-◌}
use lib.ListN.{length}
use Rattle.plan_calls.specs.Standing.{Ready}
use Rattle.plan.proofs.Evaluating.{Halfway}
use Rattle.plan.proofs.evaluation.+evaluate.Given as goal

abbrev pub decreases-evaluate : goal.decreases-evaluate
decreases-evaluate l = l.left

abbrev pub invariant-loop-done : goal.invariant-loop-done
invariant-loop-done l =
    (length l.work ≡ length l.initial.work)
    × (length l.out ≡ length l.initial.out)
    × ((g : Ready l.s l.at l.under l.log l.from l.left) → Halfway l.s l.at l.under l.log l.from l.left l.initial.work l.initial.out g.plan g.closes g.rest l.done l.work l.out)

abbrev pub decreases-loop-done : goal.decreases-loop-done
decreases-loop-done l = length l.s - l.done.next
