use Rattle.reuse_copies.proofs.Puts.{Copying}
use Rattle.reuse_copies.proofs.put.Given as goal

abbrev pub invariant-loop-i : goal.invariant-loop-i
invariant-loop-i g l = Copying l.initial.out l.at l.words l.out l.i
