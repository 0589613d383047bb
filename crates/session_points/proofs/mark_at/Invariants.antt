-- `session_points::mark_at` meets its contract. The invariant is `Marking`: the total of the node that the way has come to, less what is to be taken off, is the mark.
use Rattle.std.proofs.Common.{◌-◌}
use Rattle.reuse.specs.Limits.{slot_count, levels}
use Rattle.session_points.specs.Points.{mark_at}
use Rattle.session_points.proofs.Marking.{Marking}
use Rattle.session_points.proofs.mark_at.Given as goal

abbrev pub invariant-loop-level : goal.invariant-loop-level
invariant-loop-level l = Marking (levels - l._level) slot_count l.count l.rights (mark_at l.count l.rights l.s) l.node l.less
