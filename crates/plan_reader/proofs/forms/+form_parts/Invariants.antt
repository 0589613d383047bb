-- `plan_reader::forms::form` and `plan_reader::forms::parts` meet their contracts. The bytes left fall from the one to the other.
use Prim.Native.Nat.{◌+◌, ◌-◌, ◌*◌}
use lib.ListN.{length}
use Rattle.plan_reader.proofs.forms.+form_parts.Given as goal

abbrev pub decreases-form : goal.decreases-form
decreases-form l = 2 * (length l.s.now - l.at)

abbrev pub decreases-parts : goal.decreases-parts
decreases-parts l = 2 * (length l.s.now - l.at) + 1
