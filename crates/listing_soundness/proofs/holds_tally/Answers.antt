-- `listing_soundness::holds_tally` meets its contract.
use mathlib.Core.Path.{◌≡◌, refl, sym, ap, ◌∙◌}
use Prim.Native.Nat.{ℕ, ◌-◌}
use native.Mathlib.Omega.{arith}
use mathlib.Core.Bool.{true, false}
use mathlib.Core.List.{List}
use lib.ListN.{length, take, drop, length-take, length-drop}
use lib.Seq.{length-take-le, take_all}
use Rattle.reuse.specs.Limits.{max_extents}
use Rattle.reuse.specs.Lists.{distinct, sum}
use Rattle.reuse_rows.specs.Rows.{blank}
use Rattle.listing_soundness.proofs.Soundness.{tally-extents, tally-reads, tally-twice, tally-other, tally-left}
use borrow.Author.Rules.{rules}
use Rattle.listing_soundness.proofs.holds_tally.Goals as goal
use Rattle.listing_soundness.proofs.holds_tally.Goals.{After-total, Else-not-all_distinct, Start}

-- the row of the stack has its length
stack-wide : (c : Start) → length c.args.stack ≡ max_extents
stack-wide c = search rules

-- so has the row of the counts
counts-wide : (c : Start) → length c.args.counts ≡ max_extents
counts-wide c = search rules

-- what is left of a row
rest : (v : ℕ) (l : List ℕ) → length l ≡ max_extents → take (max_extents - v) (drop v l) ≡ drop v l
rest v l w = take_all (max_extents - v) (drop v l) (omega (arith, length-drop v l))

-- no extent stands twice
once : (c : Else-not-all_distinct) → distinct (take c.args.extents c.args.stack) ≡ true
once c = sym c.all_distinct.ensures ∙ c.if-not-all_distinct.false

-- the sum of the counts in use
total-is : (c : After-total) → c.total.result ≡ sum (take c.args.extents c.args.counts)
total-is c =
    c.total.ensures.0 ∙ ap sum (take_all max_extents (take c.args.extents c.args.counts) (omega (arith, length-take c.args.extents c.args.counts, c.if-extents-gt-MAX_EXTENTS.false)))

pub returns-then-extents-gt-MAX_EXTENTS : goal.returns-then-extents-gt-MAX_EXTENTS
returns-then-extents-gt-MAX_EXTENTS c = tally-extents c.args.reads c.args.extents c.args.stack c.args.counts c.if-extents-gt-MAX_EXTENTS.true

pub returns-then-many : goal.returns-then-many
returns-then-many c = tally-reads c.args.reads c.args.extents c.args.stack c.args.counts c.if-extents-gt-MAX_EXTENTS.false c.if-many.true

pub slice_bounds-stack-end : goal.slice_bounds-stack-end
slice_bounds-stack-end c = omega (arith, stack-wide (goal.at.slice_bounds-stack-end c).Start, c.if-extents-gt-MAX_EXTENTS.false)

pub slice_bounds-all_distinct-end : goal.slice_bounds-all_distinct-end
slice_bounds-all_distinct-end c = sym (length-take-le c.args.extents c.args.stack (omega (arith, stack-wide (goal.at.slice_bounds-all_distinct-end c).Start, c.if-extents-gt-MAX_EXTENTS.false)))

pub returns-then-not-all_distinct : goal.returns-then-not-all_distinct
returns-then-not-all_distinct c = tally-twice c.args.reads c.args.extents c.args.stack c.args.counts c.if-extents-gt-MAX_EXTENTS.false c.if-many.false (sym c.all_distinct.ensures ∙ c.if-not-all_distinct.true)

pub slice_bounds-counts-end : goal.slice_bounds-counts-end
slice_bounds-counts-end c = omega (arith, counts-wide (goal.at.slice_bounds-counts-end c).Start, c.if-extents-gt-MAX_EXTENTS.false)

pub slice_bounds-total-end : goal.slice_bounds-total-end
slice_bounds-total-end c = sym (length-take-le c.args.extents c.args.counts (omega (arith, counts-wide (goal.at.slice_bounds-total-end c).Start, c.if-extents-gt-MAX_EXTENTS.false)))

pub returns-then-extents-total : goal.returns-then-extents-total
returns-then-extents-total c =
    tally-other c.args.reads c.args.extents c.args.stack c.args.counts c.if-extents-gt-MAX_EXTENTS.false c.if-many.false (once (goal.at.returns-then-extents-total c).Else-not-all_distinct) c.total.result (total-is (goal.at.returns-then-extents-total c).After-total) (rw c.from.ensures at c.if-extents-total.true)

pub slice_bounds-all_zero-end : goal.slice_bounds-all_zero-end
slice_bounds-all_zero-end c = omega (arith, stack-wide (goal.at.slice_bounds-all_zero-end c).Start, c.if-extents-gt-MAX_EXTENTS.false)

pub returns-then-not-all_zero : goal.returns-then-not-all_zero
returns-then-not-all_zero c =
    let f : c.all_zero.result ≡ false = c.if-not-all_zero.true in
    let z : c.all_zero.result ≡ blank (drop c.args.extents c.args.stack) = c.all_zero.ensures ∙ ap blank (rest c.args.extents c.args.stack (stack-wide (goal.at.returns-then-not-all_zero c).Start)) in
    tally-left c.args.reads c.args.extents c.args.stack c.args.counts c.if-extents-gt-MAX_EXTENTS.false c.if-many.false (once (goal.at.returns-then-not-all_zero c).Else-not-all_distinct) c.total.result (total-is (goal.at.returns-then-not-all_zero c).After-total) (rw c.from.ensures at c.if-extents-total.false) false _ (sym f ∙ z) refl

pub slice_bounds-all_zero-end-2 : goal.slice_bounds-all_zero-end-2
slice_bounds-all_zero-end-2 c = omega (arith, counts-wide (goal.at.slice_bounds-all_zero-end-2 c).Start, c.if-extents-gt-MAX_EXTENTS.false)

pub returns : goal.returns
returns c =
    let f : c.all_zero.result ≡ true = c.if-not-all_zero.false in
    let z : c.all_zero.result ≡ blank (drop c.args.extents c.args.stack) = c.all_zero.ensures ∙ ap blank (rest c.args.extents c.args.stack (stack-wide (goal.at.returns c).Start)) in
    tally-left c.args.reads c.args.extents c.args.stack c.args.counts c.if-extents-gt-MAX_EXTENTS.false c.if-many.false (once (goal.at.returns c).Else-not-all_distinct) c.total.result (total-is (goal.at.returns c).After-total) (rw c.from.ensures at c.if-extents-total.false) true _ (sym f ∙ z) (c.all_zero-2.ensures ∙ ap blank (rest c.args.extents c.args.counts (counts-wide (goal.at.returns c).Start)))
