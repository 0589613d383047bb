-- `moments::new_names` meets its contract.
use mathlib.Core.Path.{refl}
use Rattle.moments.proofs.Calls.{new-short, new-all}
use Rattle.moments.proofs.new_names.Goals as goal

pub returns-then-names-lt-NAMES : goal.returns-then-names-lt-NAMES
returns-then-names-lt-NAMES c = rw (new-short _ c.if-names-lt-NAMES.true) (refl, refl)

pub returns : goal.returns
returns c = rw (new-all _ c.if-names-lt-NAMES.false _ c.clear.ensures) (refl, refl)
