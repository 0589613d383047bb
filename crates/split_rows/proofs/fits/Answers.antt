-- `split_rows::fits` meets its contract.
use Rattle.std.proofs.Common.{arith}
use Rattle.std.proofs.lemmas.Grind.{common_steps}
use Rattle.reuse.specs.Summary.{extents_of}
use Rattle.split_rows.specs.Rows.{enterable}
use Rattle.split_rows.proofs.fits.Goals as goal

pub returns-then-words-lt2 : goal.returns-then-words-lt2
unfolding enterable extents_of
returns-then-words-lt2 c = grind (arith, common_steps)

pub returns-then-costs-ge-SIZES : goal.returns-then-costs-ge-SIZES
unfolding enterable extents_of
returns-then-costs-ge-SIZES c = grind (arith, common_steps)

pub returns-else-costs-ge-SIZES : goal.returns-else-costs-ge-SIZES
unfolding enterable extents_of
returns-else-costs-ge-SIZES c = grind (arith, common_steps)
