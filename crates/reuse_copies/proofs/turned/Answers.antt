use native.Mathlib.Omega.{arith}
use Rattle.reuse_copies.proofs.Turning.{turned-row}
use Rattle.reuse_copies.proofs.turned.Goals as goal

pub returns : goal.returns
returns c = turned-row c.args.words.now _ (omega arith) _ _ c.padded-back.ensures c.reverse.ensures.after
