-- `session_points::above` meets its contract. The invariant is `Up`, where the way up from the slot has come.
use Rattle.std.proofs.Common.{◌-◌, map, length, get_or}
use Rattle.reuse.specs.Limits.{slot_count, levels}
use Rattle.reuse.specs.Lists.{sum}
use Rattle.session_rights.specs.Ways.{from_left}
use Rattle.session_points.proofs.Ups.{Up}
use Rattle.session_points.proofs.above.Given as goal

abbrev pub invariant-loop-level : goal.invariant-loop-level
invariant-loop-level l =
    Up (levels - l._level) slot_count l.rights (sum (map (λ k. get_or l.rights k 0) (from_left levels 0 l.s))) (length (from_left levels 0 l.s)) l.node l.total l.count
