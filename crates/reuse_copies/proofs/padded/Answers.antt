use native.Mathlib.Omega.{arith}
use Rattle.reuse_copies.proofs.Padding.{laid-over}
use Rattle.reuse_copies.proofs.padded.Goals as goal

pub returns : goal.returns
returns c = rw c.copy_from_slice.ensures.after (laid-over c.args.words.now _ (omega arith))
