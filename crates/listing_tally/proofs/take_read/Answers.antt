-- `listing_tally::take_read` meets its contract.
use Rattle.std.proofs.Common.{◌≡◌, ◌-◌, ◌<◌, ◌≤◌, length, refl, arith, rules}
use Rattle.listing_tally.proofs.Answers.{new-room, known-room, read-large, read-many, read_short, read-new, read_known, read-full, read-bad}
use Rattle.reuse_engine.specs.Engine.{place_of, left_by}
use Rattle.listing_tally.proofs.take_read.Goals as goal
use Rattle.listing_tally.proofs.take_read.Goals.{After-touch-place, In-Cold, In-Depth}

-- the place of the extent, which fits a word, and the stack after it
told : (c : After-touch-place) →
    let a = c.args in
    let t = c.touch-place in
    (t.result ≡ place_of a.stack.now a.progress.extents a.x) × (t.new.stack ≡ left_by t.result a.progress.extents a.x a.stack.now)
told c = let e : c.in-Ok.extent ≡ c.args.x = omega (arith, c.in-Ok.ensures) in rw e at c.touch-place.ensures

-- room for a new extent
room : (c : In-Cold) → let a = c.args in (a.progress.extents < length a.stack.now) × (a.progress.extents < length a.counts.now)
room c =
    let a = c.args in
    let t = c.touch-place in
    new-room a.progress.reads a.progress.extents a.stack.now a.counts.now c.in-Ok.extent t.result t.ensures.0 (omega arith) c.in-Cold.is

-- where the count of a distance stands
place_is : (c : In-Depth) → let d = c.in-Depth.d in (1 ≤ d) × (d - 1 < length c.args.counts.now)
place_is c =
    let a = c.args in
    let t = c.touch-place in
    known-room a.progress.reads a.progress.extents a.stack.now a.counts.now c.in-Ok.extent t.result t.ensures.0 (omega arith) c.in-Depth.d c.in-Depth.is

pub returns-in_default : goal.returns-in_default
returns-in_default c = let a = c.args in read-large a.progress.reads a.progress.extents a.stack.now a.counts.now a.x a.ends _ (omega (arith, c.in_default.ensures)) (search rules)

pub returns-then-full : goal.returns-then-full
returns-then-full c = let a = c.args in read-many a.progress.reads a.progress.extents a.stack.now a.counts.now a.x a.ends _ (omega arith) (omega arith) (search rules)

pub returns-then-counts-stack : goal.returns-then-counts-stack
returns-then-counts-stack c = let a = c.args in read_short a.progress.reads a.progress.extents a.stack.now a.counts.now a.x a.ends c.refused-then-counts-stack.result (omega arith) (omega arith) (omega arith) c.refused-then-counts-stack.ensures

pub offset_bounds-counts-extents : goal.offset_bounds-counts-extents
offset_bounds-counts-extents c = omega (arith, room c)

pub bounds-counts-extents : goal.bounds-counts-extents
bounds-counts-extents c = (room c).1

pub overflow_add-extents : goal.overflow_add-extents
overflow_add-extents c = omega (arith, room c)

pub overflow_sub-i : goal.overflow_sub-i
overflow_sub-i c = (place_is (goal.at.overflow_sub-i c).In-Depth).0

pub offset_bounds-counts-i : goal.offset_bounds-counts-i
offset_bounds-counts-i c = omega (arith, place_is (goal.at.offset_bounds-counts-i c).In-Depth)

pub bounds-counts-i : goal.bounds-counts-i
bounds-counts-i c = (place_is (goal.at.bounds-counts-i c).In-Depth).1

pub offset_bounds-counts-i-in-Depth : goal.offset_bounds-counts-i-in-Depth
offset_bounds-counts-i-in-Depth c = omega (arith, place_is (goal.at.offset_bounds-counts-i-in-Depth c).In-Depth)

pub bounds-counts-i-in-Depth : goal.bounds-counts-i-in-Depth
bounds-counts-i-in-Depth c = (place_is (goal.at.bounds-counts-i-in-Depth c).In-Depth).1

pub returns-in-Cold : goal.returns-in-Cold
returns-in-Cold c =
    let a = c.args in
    let t = c.touch-place in
    let w = told (goal.at.returns-in-Cold c).After-touch-place in
    read-new a.progress.reads a.progress.extents a.stack.now a.counts.now a.x a.ends c.gone_on.result t.result w.0 (omega arith) (omega arith) (omega arith) t.new.stack w.1 c.in-Cold.is c.gone_on.ensures

pub returns-in-Depth : goal.returns-in-Depth
returns-in-Depth c =
    let a = c.args in
    let t = c.touch-place in
    let w = told (goal.at.returns-in-Depth c).After-touch-place in
    read_known a.progress.reads a.progress.extents a.stack.now a.counts.now a.x a.ends c.gone_on-in-Depth.result t.result w.0 (omega arith) (omega arith) (omega arith) t.new.stack w.1 c.in-Depth.d c.in-Depth.is _ refl c.gone_on-in-Depth.ensures

pub returns-in-Full : goal.returns-in-Full
returns-in-Full c =
    let a = c.args in
    let t = c.touch-place in
    let w = told (goal.at.returns-in-Full c).After-touch-place in
    read-full a.progress.reads a.progress.extents a.stack.now a.counts.now a.x a.ends c.refused-in-Full.result t.result w.0 (omega arith) (omega arith) (omega arith) t.new.stack w.1 c.in-Full.is c.refused-in-Full.ensures

pub returns-in-BadCount : goal.returns-in-BadCount
returns-in-BadCount c =
    let a = c.args in
    let t = c.touch-place in
    let w = told (goal.at.returns-in-BadCount c).After-touch-place in
    read-bad a.progress.reads a.progress.extents a.stack.now a.counts.now a.x a.ends c.refused-in-BadCount.result t.result w.0 (omega arith) (omega arith) (omega arith) t.new.stack w.1 c.in-BadCount.is c.refused-in-BadCount.ensures
