-- `session_soundness::neat` meets its contract. The invariant: no fault yet, and none in the rest, is what the test says.
use Rattle.std.proofs.Common.{drop}
use Rattle.session_marks.specs.Marks.{tidy}
use Rattle.reuse_rows.proofs.Slices.{Passing}
use Rattle.session_soundness.proofs.neat.Given as goal

abbrev pub invariant-loop-i : goal.invariant-loop-i
invariant-loop-i l = Passing l.good (tidy (drop l.i l.marks) (drop l.i l.slots)) (tidy l.marks l.slots)
