-- `split_rows::enter` meets its contract.
use Rattle.split_rows.proofs.Entering.{Fit, fit, entered-not, fit-fillable, fit-entered, fit-costs}
use Rattle.split_rows.specs.Rows.{Rows}
use Rattle.reuse_copies.proofs.Puts.{placed-fits}
use Rattle.std.proofs.Common.{length, sym, ap, ◌∙◌, arith}
use Rattle.split_rows.proofs.enter.Goals as goal
use Rattle.split_rows.proofs.enter.Goals.{Else-not-fits}

-- what fits
known : (c : Else-not-fits) →
    let a = c.args in Fit a.words.now a.rooms.least a.rooms.low a.rooms.store (length a.costs.now) (length a.table.now)
known c = fit _ _ _ _ _ _ (sym c.fits.ensures ∙ c.if-not-fits.false)

pub returns-then-not-fits : goal.returns-then-not-fits
returns-then-not-fits c =
    let a = c.args in
    let e = entered-not a.words.now a.rooms.least a.rooms.low a.rooms.store a.costs.now a.table.now (sym c.fits.ensures ∙ c.if-not-fits.true) in
    record { costs = ap (λ (r : Rows). r.costs) (sym e); table = ap (λ (r : Rows). r.table) (sym e) }

pub misses_row-own-requires : goal.misses_row-own-requires
misses_row-own-requires c = record { few = (known c).few; long = (known c).long }

pub bounds-words-1 : goal.bounds-words-1
bounds-words-1 c = omega (arith, (known (goal.at.bounds-words-1 c).Else-not-fits).long)

pub slice_bounds-fill-count : goal.slice_bounds-fill-count
slice_bounds-fill-count c = omega (arith, c.min-base.ensures, (known (goal.at.slice_bounds-fill-count c).Else-not-fits).few)

pub slice_bounds-fill-start : goal.slice_bounds-fill-start
slice_bounds-fill-start c = omega (arith, c.min-base.ensures, (known (goal.at.slice_bounds-fill-start c).Else-not-fits).few)

pub fill-requires : goal.fill-requires
fill-requires c =
    let a = c.args in
    rw c.misses_row-own.ensures (fit-fillable _ _ _ _ a.costs.now _ (known (goal.at.fill-requires c).Else-not-fits) _ c.min-base.ensures)

pub returns : goal.returns
returns c =
    let a = c.args in
    let f = known (goal.at.returns c).Else-not-fits in
    let b = c.min-base.ensures in
    let e = fit-entered a.words.now a.rooms.least a.rooms.low a.rooms.store a.costs.now a.table.now f _ b in
    let m = c.misses_row-own.ensures in record { costs = rw m at c.put.ensures ∙ placed-fits _ _ _ (fit-costs a.words.now a.rooms.least a.rooms.low a.rooms.store a.costs.now a.table.now f _ b) ∙ ap (λ (r : Rows). r.costs) (sym e); table = rw m at c.fill.ensures ∙ ap (λ (r : Rows). r.table) (sym e) }
