use Rattle.split.specs.Search.{TableLaid}
use Rattle.split_rows.specs.Rows.{sizes, rooms}
use Rattle.split_calls.specs.Cuts.{own_words}
use Rattle.reuse_rows.proofs.Parts.{back-length}
use lib.Seq.{length-take-le}
use mathlib.Core.Path.{◌≡◌, sym, ◌∙◌}
use borrow.Rule.Slice.PartMut.{mid_of, mid_len}
use Rattle.split_calls.proofs.Cuts.{own-inside}
use Rattle.split.proofs.Laying.{laid_none, rest-laying, laid-fits, laid_done}
use lib.ListN.{length, get_or}
use native.Mathlib.Omega.{arith}
use Prim.Native.Nat.{ℕ, ◌+◌, ◌-◌, ◌≤◌}
use Rattle.split.proofs.search.+lay.Goals as goal
use Rattle.split.proofs.search.+lay.Goals.{After-own_words-own, After-shared_slice_known-3-1}

-- its words do not reach past all
inside : (t : ℕ) (c : After-own_words-own t) → c.own_words-own.result ≤ length c.args.words.now
inside t c = rw c.own_words-own.ensures (own-inside _ _ (omega arith) c.requires.formed)

-- the rows lent to the others come back as long
back : (t : ℕ) (c : After-shared_slice_known-3-1 t) →
    let a = c.args in
    let e = c.lay-others in
    (length e.new.costs ≡ length a.costs.now - sizes) × (length e.new.table ≡ length a.table.now - rooms)
back t c =
    let e = c.lay-others in (
      e.auto.costs ∙ mid_len sizes (length c.args.costs.now) c.args.costs.now (omega arith),
      e.auto.table ∙ mid_len rooms (length c.args.table.now) c.args.table.now (omega arith),
    )

-- the others are laid
laid : (t : ℕ) (c : After-shared_slice_known-3-1 t) →
    let a = c.args in
    let e = c.lay-others in
    let own = own_words (length a.leasts.now) a.words.now in
    TableLaid (mid_of own (length a.words.now - own) a.words.now) (mid_of 1 (length a.leasts.now - 1) a.leasts.now) a.store e.result e.new.costs e.new.table
laid t c = rw c.own_words-own.ensures at c.lay-others.ensures

-- with the first customer's the least shares fit the store
fits : (t : ℕ) (c : After-shared_slice_known-3-1 t) →
    let a = c.args in get_or a.leasts.now 0 0 + c.lay-others.result ≤ a.store
fits t c = laid-fits _ _ _ _ _ _ (back t c).0 (back t c).1 _ _ c.requires (omega arith) (laid t c)

pub returns-then-leasts-eq0 : goal.returns-then-leasts-eq0
returns-then-leasts-eq0 t c = laid_none _ _ _ _ _ c.requires (omega arith)

pub own_words-own-requires : goal.own_words-own-requires
own_words-own-requires t c = record { formed = c.requires.formed; some = omega arith }

pub offset_bounds-words-own : goal.offset_bounds-words-own
offset_bounds-words-own t c = record { fits = omega (arith, inside t c) }

pub slice_bounds-lay-count : goal.slice_bounds-lay-count
slice_bounds-lay-count t c = inside t c

pub slice_bounds-lay-start : goal.slice_bounds-lay-start
slice_bounds-lay-start t c = inside t c

pub lay-others-requires : goal.lay-others-requires
lay-others-requires t c =
    (omega (arith, c.decreases, mid_len 1 (length c.args.leasts.now) c.args.leasts.now (omega arith)), rw c.own_words-own.ensures (rest-laying _ _ _ _ _ c.requires (omega arith)))

pub overflow_add-low : goal.overflow_add-low
overflow_add-low t c = record { fits = omega (arith, fits t c, c.requires.small) }

pub slice_bounds-enter-end : goal.slice_bounds-enter-end
slice_bounds-enter-end t c = sym (length-take-le _ _ (inside t (goal.at.slice_bounds-enter-end t c).After-own_words-own))

pub shape_of-costs : goal.shape_of-costs
shape_of-costs t c =
    c.enter.auto.costs ∙ back-length sizes c.args.costs.now c.lay-others.new.costs (omega (arith, c.requires.costs-long)) (back t (goal.at.shape_of-costs t c).After-shared_slice_known-3-1).0

pub shape_of-table : goal.shape_of-table
shape_of-table t c =
    c.enter.auto.table ∙ back-length rooms c.args.table.now c.lay-others.new.table (omega (arith, c.requires.table-long)) (back t (goal.at.shape_of-table t c).After-shared_slice_known-3-1).1

pub returns : goal.returns
returns t c =
    let n = c.own_words-own in
    let e = c.enter in
    let b = (goal.at.returns t c).After-shared_slice_known-3-1 in
    rw (rw n.ensures at e.ensures.costs, rw n.ensures at e.ensures.table) (laid_done _ _ _ _ _ _ (back t b).0 (back t b).1 _ _ c.requires (omega arith) (laid t b))
