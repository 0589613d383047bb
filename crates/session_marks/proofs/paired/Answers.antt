-- `session_marks::paired` meets its contract.
use Rattle.std.proofs.Common.{sym, eq-eqb, ne_eqb}
use Rattle.reuse.specs.Limits.{slot_count}
use Rattle.session_marks.specs.Marks.{paired}
use Rattle.session_marks.proofs.paired.Goals as goal

pub returns-then-slots-eq-SLOTS : goal.returns-then-slots-eq-SLOTS
unfolding paired
returns-then-slots-eq-SLOTS c = sym (simp (eq-eqb _ slot_count c.if-slots-eq-SLOTS.true))

pub returns-else-slots-eq-SLOTS : goal.returns-else-slots-eq-SLOTS
unfolding paired
returns-else-slots-eq-SLOTS c = let e = ne_eqb _ slot_count c.if-slots-eq-SLOTS.false in simp e
