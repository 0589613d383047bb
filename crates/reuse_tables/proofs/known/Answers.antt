-- `reuse_tables::known` meets its contract.
use mathlib.Core.Path.{◌∙◌}
use Rattle.reuse_tables.specs.Tables.{looked_up}
use Rattle.reuse_tables.proofs.known.Goals as goal

pub returns : goal.returns
unfolding looked_up
returns c = c.stands.ensures ∙ rw c.bucket.ensures.0
