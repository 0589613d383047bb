-- `session_points::front` meets its contract. The invariant: i marks are set.
use Rattle.std.proofs.Common.{◌≡◌, replicate}
use Rattle.reuse.specs.Limits.{slot_count, levels}
use Rattle.session_sums.specs.Sums.{filled}
use Rattle.session_rights.specs.Rights.{rights_of}
use Rattle.session_points.proofs.front.Given as goal

abbrev pub invariant-loop-i : goal.invariant-loop-i
invariant-loop-i l = l.out ≡ rights_of levels (filled slot_count (replicate l.i 1))
