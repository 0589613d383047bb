-- `summary_cross::add` meets its contract. The invariant is `Adding`.
use Rattle.summary_cross.proofs.Turns.{Adding}
use Rattle.summary_cross.proofs.add.Given as goal

abbrev pub invariant-loop-i : goal.invariant-loop-i
invariant-loop-i l = Adding l.initial.row l.more l.row l.i
