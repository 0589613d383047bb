-- `session_points::work_out` meets its contract. The invariant is `Down`: the first words are the totals of a level.
use Rattle.session_points.proofs.Downs.{Down}
use Rattle.session_points.proofs.work_out.Given as goal

abbrev pub invariant-loop-level : goal.invariant-loop-level
invariant-loop-level l = Down l.count l.rights l.marks l.within l.level
