-- `split_rows::fill` meets its contract. The invariant is `Filling`: the rooms before t have their entries.
use Rattle.split_rows.proofs.Filling.{Filling}
use Rattle.split_rows.proofs.fill.Given as goal

abbrev pub invariant-loop-t : goal.invariant-loop-t
invariant-loop-t l = Filling l.own l.span l.rooms.least l.rooms.low l.rooms.store l.initial.table l.table l.t
