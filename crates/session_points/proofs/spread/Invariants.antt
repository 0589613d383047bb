-- `session_points::spread` meets its contract. The invariant is `Spread`: the points from i on are worked out.
use Rattle.session_points.proofs.Spreads.{Spread}
use Rattle.session_points.proofs.spread.Given as goal

abbrev pub invariant-loop-i : goal.invariant-loop-i
invariant-loop-i l = Spread l.m l.initial.marks l.rights l.marks l.good l.i
