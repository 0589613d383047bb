-- `summary_counts::share` meets its contract: the reads less the misses are the hits.
use Rattle.std.proofs.Common.{◌≡◌, ◌-◌, ◌≤◌, true, Ok, get_or, sym, ap, arith}
use Rattle.reuse.specs.Summary.{well_formed, reads_of, extents_of, hits_of, misses_of, servable_of}
use Rattle.reuse.proofs.Formed.{formed}
use Rattle.reuse.proofs.Lists.{by-test}
use Rattle.std.proofs.lemmas.Grind.{common_steps}
use Rattle.summary_calls.specs.Calls.{misses_call, share_call}
use Rattle.summary_calls.proofs.Fields.{shaped, reads-split}
use Rattle.summary_counts.proofs.share.Goals as goal
use Rattle.summary_counts.proofs.share.Goals.{In_ok-missed}

-- the words are well formed, and these are their misses
given : (c : In_ok-missed) → (well_formed c.args.words.now ≡ true) × (c.in_ok-missed.missed ≡ misses_of c.args.words.now c.args.size)
unfolding misses_call
given c =
    by-test (well_formed c.args.words.now)
    (λ t. let m = rw t at c.misses.ensures in (t, grind (arith, common_steps)))
    (λ f. let m = rw f at c.misses.ensures in absurd (grind (arith, common_steps)))

-- the hits are what is left of the reads
hits : (c : In_ok-missed) → (c.in_ok-missed.missed ≤ get_or c.args.words.now 0 0) × (get_or c.args.words.now 0 0 - c.in_ok-missed.missed ≡ hits_of c.args.words.now c.args.size)
hits c = let g = given c in let s = reads-split c.args.words.now g.0 c.args.size in (omega (arith, g.1, s), omega (arith, g.1, s))

pub returns-in_err-missed : goal.returns-in_err-missed
unfolding misses_call share_call
returns-in_err-missed c =
    by-test (well_formed c.args.words.now)
    (λ t. let m = rw t at c.misses.ensures in absurd (grind (arith, common_steps)))
    (λ f. let m = rw f at c.misses.ensures in rw f (grind (arith, common_steps)))

pub bounds-words-0 : goal.bounds-words-0
bounds-words-0 c = omega (arith, (shaped _ (given (goal.at.bounds-words-0 c).In_ok-missed).0).long)

pub overflow_sub-hits : goal.overflow_sub-hits
overflow_sub-hits c = (hits (goal.at.overflow_sub-hits c).In_ok-missed).0

pub bounds-words-1 : goal.bounds-words-1
bounds-words-1 c = omega (arith, (shaped _ (given (goal.at.bounds-words-1 c).In_ok-missed).0).long)

-- each extent has a cold read, which is a read
pub overflow_sub-servable : goal.overflow_sub-servable
unfolding reads_of extents_of
overflow_sub-servable c = omega (arith, (formed _ (given (goal.at.overflow_sub-servable c).In_ok-missed).0).total)

pub returns : goal.returns
unfolding share_call servable_of reads_of extents_of
returns c =
    let at = (goal.at.returns c).In_ok-missed in
    sym (simp ((given at).0, ← (hits at).1) (ap Ok (sym c.share_of.ensures)))
