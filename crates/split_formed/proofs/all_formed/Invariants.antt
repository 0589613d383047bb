-- `split_formed::all_formed` meets its contract. The invariant is `Remaining`: what is left of the words decides.
use Rattle.split_formed.proofs.Testing.{Remaining}
use Rattle.split_formed.proofs.all_formed.Given as goal

abbrev pub invariant-loop : goal.invariant-loop
invariant-loop l = Remaining l.words l.customers l.rest l.counter
