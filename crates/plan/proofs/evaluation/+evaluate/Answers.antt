use mathlib.Core.Path.{◌≡◌, refl, sym, ap, ◌∙◌}
use Prim.Native.Nat.{ℕ, suc, ◌<◌, ◌+◌, ◌-◌, ◌≤◌}
use native.Mathlib.Omega.{arith}
use lib.ListN.{length, take, drop}
use lib.Seq.{length-take-le}
use borrow.Rule.Slice.PartMut.{mid_of}
use Rattle.reuse_copies.proofs.Puts.{placed-fits}
use Rattle.summary_calls.specs.Calls.{Wrote, trace_call}
use Rattle.texts.specs.Plans.{reads}
use Rattle.texts.specs.PlanPlaces.{seg_at, join_at, line_at}
use Rattle.plan_lines.proofs.Lines.{seg-line, join-line, no_line}
use Rattle.plan_calls.specs.Calls.{summary_words, level_words, count_of}
use Rattle.plan_calls.specs.Standing.{span, Ready}
use Rattle.reuse_rows.proofs.Parts.{back-length}
use Rattle.plan_calls.proofs.Levels.{below-long}
use Rattle.plan_calls.proofs.Standing.{Opened, NextPart, some-line, seg-there, join-there, next-part, ready-next, below-roomy}
use Rattle.plan.specs.Evaluation.{Evaluated}
use Rattle.plan.proofs.Evaluating.{begin, held-there, part-done, join-done, seg-done}
use Rattle.plan.proofs.evaluation.+evaluate.Goals as goal
use Rattle.plan.proofs.evaluation.+evaluate.Goals.{In-Seg, In-Join, In-loop-done, After-evaluate-done}

-- the seg that was found
segged : (t : ℕ) (c : In-Seg t) →
    let a = c.args in
    let g = c.in-Seg in
    (seg_at g.reads g.closes (drop g.next a.s.now) ≡ line_at a.under (drop a.at a.s.now)) × (a.at < g.next) × (g.next ≤ length a.s.now)
segged t c = seg-line _ _ c.requires.1.inside _ c.in-Some.l c.in-Some.ensures _ _ _ c.in-Seg.is

-- the plan there is that seg
seg-is : (t : ℕ) (c : In-Seg t) →
    let a = c.args in
    let g = c.in-Seg in
    (seg_at g.reads g.closes (drop g.next a.s.now) ≡ line_at a.under (drop a.at a.s.now))
    → (r : Ready a.s.now a.at a.under a.log.now a.from a.left) → (reads r.plan ≡ g.reads) × (g.closes ≡ r.closes) × (drop g.next a.s.now ≡ r.rest)
seg-is t c v r =
    let a = c.args in
    let g = c.in-Seg in
    seg-there a.s.now a.at a.under g.next r.plan r.closes r.rest r.stands g.reads g.closes v

-- its reads stand in the log
seg-covered : (t : ℕ) (c : In-Seg t) → c.args.from + c.in-Seg.reads ≤ length c.args.log.now
seg-covered t c = let r = c.requires.0 in omega (arith, r.covered, (seg-is t c (segged t c).0 r).0)

-- the opened join that was found
joined : (t : ℕ) (c : In-Join t) →
    let a = c.args in
    let g = c.in-Join in
    (join_at (drop g.next a.s.now) ≡ line_at a.under (drop a.at a.s.now)) × (a.at < g.next) × (g.next ≤ length a.s.now)
joined t c = join-line _ _ c.requires.1.inside _ c.in-Some.l c.in-Some.ensures _ c.in-Join.is

-- the plan there is that join
abbrev opened : (t : ℕ) (c : In-Join t) →
    let a = c.args in
    (r : Ready a.s.now a.at a.under a.log.now a.from a.left) → Opened a.s.now c.in-Join.next a.under r.plan r.closes r.rest
opened t c r =
    let a = c.args in
    join-there a.s.now a.at a.under c.in-Join.next r.plan r.closes r.rest r.stands (joined t c).0

-- so a level is left
positive : (t : ℕ) (c : In-Join t) → 0 < c.args.left
positive t c = let r = c.requires.0 in omega (arith, (opened t c r).deepens, r.deep)

-- the words held at the front of the output
held-is : (t : ℕ) (c : In-loop-done t) → 0 < c.args.left → (c.loop-done.done.words ≤ summary_words) × (c.loop-done.done.words ≤ length c.loop-done.out)
held-is t c p =
    let a = c.args in
    let l = c.loop-done in
    let r = c.requires.0 in
    let h = held-there a.s.now a.at a.under a.log.now a.from a.left a.work.now a.out.now r.plan r.closes r.rest p c.requires.1.levels c.requires.1.within c.requires.1.room l.done l.work l.out (l.invariant.2 r) l.invariant.0 l.invariant.1 in
    (h.0, h.1)

-- this level's words
level-there : (t : ℕ) (c : In-loop-done t) → 0 < c.args.left → level_words ≤ length c.loop-done.work
level-there t c p = omega (arith, c.loop-done.invariant.0, c.requires.1.levels, p)

-- the words held fit them
held_fits : (t : ℕ) (c : In-loop-done t) → 0 < c.args.left → 0 + length (take c.loop-done.done.words c.loop-done.out) ≤ length c.loop-done.work
held_fits t c p = omega (arith, length-take-le c.loop-done.done.words c.loop-done.out (held-is t c p).1, (held-is t c p).0, level-there t c p)

-- the next part
abbrev next-is : (t : ℕ) (c : In-loop-done t) →
    let a = c.args in
    let l = c.loop-done in
    (r : Ready a.s.now a.at a.under a.log.now a.from a.left)
    → NextPart a.s.now (suc a.under) r.closes r.rest (a.from + reads r.plan) (a.left - 1) l.done.next l.done.taken
next-is t c r =
    let a = c.args in
    let l = c.loop-done in
    next-part a.s.now (suc a.under) r.closes r.rest (a.from + reads r.plan) (a.left - 1) l.done.next l.done.taken l.done.closes (l.invariant.2 r).pending c.loop-done-test.true

-- the part that was evaluated
part-is : (t : ℕ) (c : After-evaluate-done t) →
    let a = c.args in
    let l = c.loop-done in
    let w = c.put.new.out in
    let e = c.evaluate-done in
    (r : Ready a.s.now a.at a.under a.log.now a.from a.left)
    → (n : NextPart a.s.now (suc a.under) r.closes r.rest (a.from + reads r.plan) (a.left - 1) l.done.next l.done.taken)
    → Evaluated a.s.now l.done.next a.log.now l.done.taken (a.left - 1) (mid_of level_words (length w - level_words) w) l.out n.part n.closes n.after e.result e.new.work e.new.out
part-is t c r n =
    let a = c.args in
    let l = c.loop-done in
    c.evaluate-done.ensures (ready-next a.s.now l.done.next a.under a.log.now l.done.taken a.left r.closes r.rest (a.from + reads r.plan) n r.covered)

-- the words lent below come back as many
below-back : (t : ℕ) (c : After-evaluate-done t) → 0 < c.args.left → length c.evaluate-done.new.work ≡ length c.put.new.out - level_words
below-back t c p =
    c.evaluate-done.auto.work ∙ below-long c.put.new.out c.args.left p (omega (arith, c.put.auto.out, c.loop-done.invariant.0, c.requires.1.levels))

pub overflow_add-taken : goal.overflow_add-taken
overflow_add-taken t c = omega (arith, seg-covered t c)

pub slice_bounds-of_trace-end : goal.slice_bounds-of_trace-end
slice_bounds-of_trace-end t c = seg-covered t (goal.at.slice_bounds-of_trace-end t c).In-Seg

pub overflow_sub-below : goal.overflow_sub-below
overflow_sub-below t c = omega (arith, positive t c)

pub loop-done-init : goal.loop-done-init
loop-done-init t c =
    let a = c.args in
    (refl, refl, λ r. begin a.s.now a.at a.under a.log.now a.from a.left a.work.now a.out.now r.plan r.closes r.rest c.in-Join.next (joined t c).1 (joined t c).2 (opened t c r) r.deep _ refl)

pub slice_bounds-put-end : goal.slice_bounds-put-end
slice_bounds-put-end t c =
    let k = goal.at.slice_bounds-put-end t c in
    (held-is t k.In-loop-done (positive t k.In-Join)).1

pub slice_bounds-put-end-in-loop-done : goal.slice_bounds-put-end-in-loop-done
slice_bounds-put-end-in-loop-done t c =
    let k = goal.at.slice_bounds-put-end-in-loop-done t c in
    sym (length-take-le _ _ (held-is t k.In-loop-done (positive t k.In-Join)).1)

pub slice_bounds-evaluate-count : goal.slice_bounds-evaluate-count
slice_bounds-evaluate-count t c =
    let k = goal.at.slice_bounds-evaluate-count t c in
    omega (arith, c.put.auto.out, level-there t k.In-loop-done (positive t k.In-Join))

pub slice_bounds-evaluate-start : goal.slice_bounds-evaluate-start
slice_bounds-evaluate-start t c =
    let k = goal.at.slice_bounds-evaluate-start t c in
    omega (arith, c.put.auto.out, level-there t k.In-loop-done (positive t k.In-Join))

pub evaluate-done-requires : goal.evaluate-done-requires
evaluate-done-requires t c =
    let k = goal.at.evaluate-done-requires t c in
    let l = c.loop-done in
    let r = c.requires.0 in
    let p = positive t k.In-Join in
    (omega (arith, c.decreases, p), (ready-next _ _ _ _ _ _ _ _ _ (next-is t k.In-loop-done r) r.covered, below-roomy _ _ _ _ _ _ _ c.requires.1 p _ (l.invariant.2 r).inside c.put.new.out l.out (c.put.auto.out ∙ l.invariant.0) l.invariant.1))

pub loop-done-smaller : goal.loop-done-smaller
loop-done-smaller t c =
    let k = goal.at.loop-done-smaller t c in
    let r = c.requires.0 in
    let e = part-is t k.After-evaluate-done r (next-is t k.In-loop-done r) in
    omega (arith, e.forward, e.inside)

pub loop-done-preserved : goal.loop-done-preserved
loop-done-preserved t c =
    let k = goal.at.loop-done-preserved t c in
    let a = c.args in
    let m = k.In-loop-done in
    let j = k.After-evaluate-done in
    let l = c.loop-done in
    let e = c.evaluate-done in
    let h = c.join_held in
    let w = c.put in
    let p = positive t k.In-Join in
    let fits : level_words ≤ length w.new.out = omega (arith, w.auto.out, level-there t m p) in (
      h.auto.work ∙ back-length level_words w.new.out e.new.work fits (below-back t j p) ∙ w.auto.out ∙ l.invariant.0,
      h.auto.out ∙ e.auto.out ∙ l.invariant.1,
      λ r. part-done a.s.now a.at a.under a.log.now a.from a.left a.work.now a.out.now r.plan r.closes r.rest p c.requires.1.levels c.requires.1.within c.requires.1.room l.done l.work l.out (l.invariant.2 r) l.invariant.0 l.invariant.1
          (next-is t m r) w.new.out (w.ensures ∙ placed-fits _ _ _ (held_fits t m p)) w.auto.out e.result e.new.work e.new.out (below-back t j p) e.auto.out (part-is t j r (next-is t m r))
          h.result h.new.work h.new.out h.ensures.is h.ensures.work h.ensures.out _ refl,
    )

pub returns-in_default : goal.returns-in_default
returns-in_default t c =
    let a = c.args in
    λ r. some-line a.s.now a.at a.under r.plan r.closes r.rest r.stands (no_line _ _ c.requires.1.inside _ c.in_default.ensures)

pub returns-in-Seg : goal.returns-in-Seg
returns-in-Seg t c =
    let a = c.args in
    let l = (goal.at.returns-in-Seg t c).In-Seg in
    let g = c.in-Seg in
    let o = c.of_trace in
    let n : a.from + g.reads - a.from ≡ g.reads = omega arith in
    let m : trace_call (mid_of a.from (a.from + g.reads - a.from) a.log.now) a.out.now ≡ trace_call (span a.from g.reads a.log.now) a.out.now =
    ap (λ (i : ℕ). trace_call (mid_of a.from i a.log.now) a.out.now) n in
    λ r. seg-done a.s.now a.at g.next a.log.now a.from a.left a.work.now a.out.now r.plan r.closes r.rest c.requires.1.within c.requires.1.room
    (segged t l).1 (segged t l).2 g.reads g.closes (seg-is t l (segged t l).0 r) c.unwrap_or-words.result o.new.out (c.unwrap_or-words.ensures ∙ ap count_of o.ensures.0 ∙ ap (λ (v : Wrote). count_of v.answer) m) (o.ensures.1 ∙ ap (λ (v : Wrote). v.buffer) m) _ refl

pub returns-after-loop-done : goal.returns-after-loop-done
returns-after-loop-done t c =
    let a = c.args in
    let l = c.loop-done in
    let p = positive t (goal.at.returns-after-loop-done t c).In-Join in
    λ r. join-done a.s.now a.at a.under a.log.now a.from a.left a.work.now a.out.now r.plan r.closes r.rest p c.requires.1.levels c.requires.1.within c.requires.1.room l.done l.work l.out (l.invariant.2 r) l.invariant.0 l.invariant.1 (λ z. omega (arith, z)) _ refl
