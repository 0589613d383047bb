-- `listing_turns::advance` meets its contract.
use mathlib.Core.Path.{◌≡◌, refl, ap}
use Prim.Native.Nat.{ℕ, ◌+◌, ◌-◌, ◌≤◌, ◌<◌}
use native.Mathlib.Omega.{arith}
use mathlib.Core.List.{List}
use mathlib.Core.Logic.{⊎_elim}
use lib.ListN.{length, take, drop}
use Rattle.texts_pieces.proofs.Lengths.{length-within}
use Rattle.listing_turns.proofs.Ways.{way-past, way-over, way-kept, way-line}
use Rattle.listing_turns.proofs.advance.Goals as goal
use Rattle.listing_turns.proofs.advance.Goals.{After-line_length-n, Else-held-gt-LONGEST, Joined-else-end-bytes}

-- no more is held than fits
fits : (c : Else-held-gt-LONGEST) → c.args.turn.held ≤ 19
fits c = c.if-held-gt-LONGEST.false

-- the bytes counted stand in the piece
within : (c : After-line_length-n) → (c.args.turn.at + c.line_length-n.result ≤ length c.args.bytes.now) × (c.line_length-n.result ≤ 20 - c.args.turn.held)
within c =
    let a = c.args in
    length-within a.bytes.now a.turn.at (20 - a.turn.held) c.line_length-n.result c.if-bytes-at.false c.line_length-n.ensures

-- a line that does not end in the piece is too long
over : (c : Joined-else-end-bytes) →
    let a = c.args in
    let n = c.line_length-n.result in
    a.turn.at + n ≡ length a.bytes.now → 19 < a.turn.held + n
over c e = ⊎_elim (λ w. w.1) (λ w. absurd (w e)) c.else-end-bytes.either

-- a part of n bytes
rest_of : (at n : ℕ) (bytes : List ℕ) → take (at + n - at) (drop at bytes) ≡ take n (drop at bytes)
rest_of at n bytes = let i : at + n - at ≡ n = omega arith in ap (λ (j : ℕ). take j (drop at bytes)) i

pub returns-then-bytes-at : goal.returns-then-bytes-at
returns-then-bytes-at c =
    let a = c.args in
    ⊎_elim
    (λ w. way-past a.bytes.now a.turn.at a.turn.line a.turn.held a.turn.progress.phase a.turn.progress.reads a.turn.progress.extents a.stack.now a.counts.now w _ refl)
    (λ w. way-over a.bytes.now a.turn.at a.turn.line a.turn.held a.turn.progress.phase a.turn.progress.reads a.turn.progress.extents a.stack.now a.counts.now w.1 _ refl)
    c.then-bytes-at.either

pub overflow_sub-held : goal.overflow_sub-held
overflow_sub-held c = omega (arith, fits c)

pub overflow_add-end : goal.overflow_add-end
overflow_add-end c = omega (arith, within c)

pub overflow_add-all : goal.overflow_add-all
overflow_add-all c = omega (arith, within c)

pub returns-then-all-le-LONGEST : goal.returns-then-all-le-LONGEST
returns-then-all-le-LONGEST c =
    let a = c.args in
    let n = c.line_length-n in
    way-kept a.bytes.now a.turn.at a.turn.line a.turn.held a.turn.progress.phase a.turn.progress.reads a.turn.progress.extents a.stack.now a.counts.now c.if-bytes-at.false (fits (goal.at.returns-then-all-le-LONGEST c).Else-held-gt-LONGEST) n.result n.ensures _ (rest_of a.turn.at n.result a.bytes.now) c.if-end-bytes.true c.if-all-le-LONGEST.true _ c.put.ensures _ refl

pub slice_bounds-rest-end : goal.slice_bounds-rest-end
slice_bounds-rest-end c = (within (goal.at.slice_bounds-rest-end c).After-line_length-n).0

pub overflow_add-end-2 : goal.overflow_add-end-2
overflow_add-end-2 c = omega (arith, within (goal.at.overflow_add-end-2 c).After-line_length-n)

pub returns : goal.returns
returns c =
    let a = c.args in
    let n = c.line_length-n in
    let e = c.end_line-p in
    way-line a.bytes.now a.turn.at a.turn.line a.turn.held a.turn.progress.phase a.turn.progress.reads a.turn.progress.extents a.stack.now a.counts.now c.if-bytes-at.false (fits (goal.at.returns c).Else-held-gt-LONGEST) n.result n.ensures _ (rest_of a.turn.at n.result a.bytes.now) (over (goal.at.returns c).Joined-else-end-bytes) e.result _ _ e.ensures _ c.turned.ensures
