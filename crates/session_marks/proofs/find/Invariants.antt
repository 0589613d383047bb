-- `session_marks::find` meets its contract. The invariant: the search that goes on below i comes to what the whole search does.
use mathlib.Core.Path.{◌≡◌}
use Prim.Native.Nat.{◌+◌, ◌≤◌}
use Rattle.reuse.specs.Limits.{slot_count, levels}
use Rattle.session_rights.specs.Rights.{marks_from}
use Rattle.session_marks.specs.Marks.{holds, found_in}
use Rattle.session_marks.proofs.Search.{going_on}
use Rattle.session_marks.proofs.find.Given as goal

abbrev pub invariant-loop-i : goal.invariant-loop-i
invariant-loop-i l =
    (going_on (holds l.slots (marks_from levels l.count l.rights) l.x) l.i l.looked ≡ found_in l.slots l.count l.rights l.next l.x)
    × (l.looked + l.i ≤ slot_count)
