-- `session_points::change` meets its contract. The invariant is `Changing`, how far up the change has come.
use Rattle.std.proofs.Common.{◌+◌, ◌-◌, ◌%◌, ◌^◌}
use Rattle.reuse.specs.Limits.{slot_count, levels}
use Rattle.session_points.specs.Points.{changed_by}
use Rattle.session_points.proofs.Changing.{Changing}
use Rattle.session_points.proofs.change.Given as goal

abbrev pub invariant-loop-level : goal.invariant-loop-level
invariant-loop-level l = Changing (levels - l._level) slot_count (λ n. (n + l.c) % 2 ^ 32) (changed_by l.c l.initial.rights l.s) l.rights l.node
