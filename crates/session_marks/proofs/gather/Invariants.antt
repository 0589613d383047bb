-- `session_marks::gather` meets its contract. The invariant is `Moved`.
use Rattle.reuse.specs.Limits.{slot_count}
use Rattle.session_marks.proofs.Passes.{Moved}
use Rattle.session_marks.proofs.gather.Given as goal

abbrev pub invariant-loop-i : goal.invariant-loop-i
invariant-loop-i l = Moved slot_count l.marks l.slots l.out l.n l.i
