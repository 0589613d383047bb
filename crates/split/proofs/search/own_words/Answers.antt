-- `split::search::own_words` meets its contract.
use Rattle.split_calls.proofs.Cuts.{own-fits}
use Rattle.reuse.specs.Summary.{extents_of}
use Rattle.reuse.specs.Limits.{max_extents}
use borrow.Author.Tests.{ne_eqb}
use lib.ListN.{length, get_or}
use native.Mathlib.Omega.{arith}
use Prim.Native.Nat.{◌+◌, ◌*◌, ◌≤◌}
use mathlib.Core.Path.{sym}
use Rattle.split.proofs.search.own_words.Goals as goal
use Rattle.split.proofs.search.own_words.Goals.{Else-customers-eq1}

-- the first of more customers than one does not reach past the words
fits : (c : Else-customers-eq1) →
    let w = c.args.words.now in
    (2 + 3 * get_or w 1 0 ≤ length w) × (get_or w 1 0 ≤ max_extents)
unfolding extents_of
fits c = own-fits _ _ (omega (arith, c.requires.some)) c.requires.formed

pub bounds-words-1 : goal.bounds-words-1
bounds-words-1 c = omega (arith, (fits (goal.at.bounds-words-1 c).Else-customers-eq1).0)

pub returns : goal.returns
unfolding extents_of
returns c = sym (simp (ne_eqb c.args.customers 1 (λ e. omega arith)))
