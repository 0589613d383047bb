-- `allowance::smallest` meets its contract.
use Rattle.std.proofs.Common.{ℕ, Ok, List, sym, ap, ◌∙◌, arith}
use Rattle.reuse.specs.Summary.{reads_of}
use Rattle.summary_formed.specs.Parting.{PartsOf}
use Rattle.summary_formed.proofs.Parting.{extents-size}
use Rattle.allowance_calls.specs.Search.{searched, words_searched}
use Rattle.allowance_calls.proofs.Calls.{call-bad, call_below, call-searched}
use Rattle.allowance.specs.Searching.{found_by}
use Rattle.allowance.proofs.Searching.{searchable}
use Rattle.allowance.proofs.smallest.Goals as goal
use Rattle.allowance.proofs.smallest.Goals.{In-Some}

-- the parts are the words'
parted : (c : In-Some) → PartsOf c.args.words.now c.in-Some.parts
parted c = c.of.ensures.1 _ c.in-Some.is

pub returns-in_default : goal.returns-in_default
returns-in_default c = sym (call-bad _ _ (c.of.ensures.0 c.in_default.is))

pub overflow_cast-cold : goal.overflow_cast-cold
overflow_cast-cold c = omega (arith, (extents-size _ _ (parted c)).1)

pub returns-then-below : goal.returns-then-below
returns-then-below c =
    let h = parted (goal.at.returns-then-below c).In-Some in
    sym (call_below _ _ h.formed (omega (arith, (extents-size _ _ h).0, c.if-below.true)))

pub search-requires : goal.search-requires
search-requires c = searchable _ _ (parted (goal.at.search-requires c).In-Some)

pub returns : goal.returns
unfolding words_searched
returns c =
    let h = parted (goal.at.returns c).In-Some in
    ap Ok (c.search.ensures
    ∙ ap (λ (n : ℕ). found_by (searched c.args.misses n c.in-Some.parts.counts.now)) h.reads
    ∙ ap (λ (hs : List ℕ). found_by (searched c.args.misses (reads_of c.args.words.now) hs)) h.counts)
    ∙ sym (call-searched _ _ h.formed (omega (arith, (extents-size _ _ h).0, c.if-below.false)))
