-- `summary_words::put_parts` meets its contract.
use native.Mathlib.Omega.{arith}
use lib.ListN.{length-set}
use Rattle.summary_words.proofs.Filling.{parts-length, parts-put}
use Rattle.summary_words.proofs.put_parts.Goals as goal

pub bounds-out-1 : goal.bounds-out-1
bounds-out-1 c = simp length-set (omega (arith, c.requires.room))

pub shape_of-out : goal.shape_of-out
shape_of-out c =
    parts-length c.args.reads c.args.first.now c.args.recent.now c.args.counts.now c.args.out.now c.requires _ _ _ c.put.ensures c.put-2.ensures c.put-3.ensures

pub returns : goal.returns
returns c =
    parts-put c.args.reads c.args.first.now c.args.recent.now c.args.counts.now c.args.out.now c.requires _ _ _ c.put.ensures c.put-2.ensures c.put-3.ensures
