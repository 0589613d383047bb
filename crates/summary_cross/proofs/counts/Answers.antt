use Rattle.std.proofs.Common.{◌∙◌}
use Rattle.summary_cross.proofs.counts.Goals as goal

pub returns : goal.returns
returns c = c.cross.ensures ∙ rw (c.padded-stack.ensures, c.add.ensures, c.padded-hist.ensures)
