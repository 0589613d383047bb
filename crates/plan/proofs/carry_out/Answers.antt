-- `plan::carry_out` meets its contract.
use mathlib.Core.Path.{◌≡◌}
use Prim.Native.Nat.{◌+◌, ◌*◌, ◌≤◌}
use native.Mathlib.Omega.{arith}
use lib.ListN.{length}
use Rattle.reuse.specs.Traces.{Within}
use Rattle.reuse.specs.Lists.{firsts}
use Rattle.reuse.proofs.Traces.{extents-exact, extents-within, extents-over}
use Rattle.texts.specs.Limits.{max_joins}
use Rattle.texts.proofs.PlanSound.{sound}
use Rattle.plan_calls.specs.Calls.{level_words}
use Rattle.plan_calls.specs.Standing.{Ready}
use Rattle.plan_calls.proofs.Carrying.{many-reads, many-extents, work-short, out-short, ready, roomy, cleared-front, run-done}
use Rattle.plan.proofs.carry_out.Goals as goal
use Rattle.plan.proofs.carry_out.Goals.{Else-extents-gt-MAX_EXTENTS, Else-out-extents}

-- the log is within the limits
within : (c : Else-extents-gt-MAX_EXTENTS) → Within c.args.log.now
within c = record { reads = omega arith; extents = extents-within _ _ c.extents_of-extents.ensures (omega arith) }

-- its extents are counted
counted : (c : Else-extents-gt-MAX_EXTENTS) → c.extents_of-extents.result ≡ length (firsts c.args.log.now)
counted c = extents-exact _ _ c.extents_of-extents.ensures (within c).extents

-- the plan is no deeper than the limit
shallow : (c : Else-extents-gt-MAX_EXTENTS) → c.args.depth ≤ max_joins
shallow c = let s = sound _ _ c.requires.read in omega (arith, s.1.deep, c.requires.deepens)

-- the work words suffice for its levels
levels : (c : Else-out-extents) → level_words * c.args.depth ≤ length c.args.work.now
levels c = omega arith

-- the output suffices for the log's summary
room : (c : Else-out-extents) → c.extents_of-extents.result ≡ length (firsts c.args.log.now) → 2 + 3 * length (firsts c.args.log.now) ≤ length c.args.out.now
room c e = omega (arith, e)

-- the plan is ready
abbrev there : (c : Else-out-extents) → Within c.args.log.now → c.extents_of-extents.result ≡ length (firsts c.args.log.now)
    → Ready c.args.text.now 0 0 c.args.log.now 0 c.args.depth
there c w e =
    let a = c.args in
    let r = c.requires in
    ready a.text.now a.log.now a.work.now a.out.now r.plan r.read r.covers w a.depth r.deepens (levels c) (room c e)

pub returns-then-log : goal.returns-then-log
returns-then-log c =
    let d = many-reads c.args.text.now c.args.log.now c.args.work.now c.args.out.now c.requires.plan c.requires.read c.requires.covers (omega arith) in record { is = d.0; work = d.1.0; out = d.1.1 }

pub returns-then-extents-gt-MAX_EXTENTS : goal.returns-then-extents-gt-MAX_EXTENTS
returns-then-extents-gt-MAX_EXTENTS c =
    let d = many-extents c.args.text.now c.args.log.now c.args.work.now c.args.out.now c.requires.plan c.requires.read c.requires.covers (omega arith) (extents-over _ _ c.extents_of-extents.ensures (omega arith)) in
    record { is = d.0; work = d.1.0; out = d.1.1 }

pub overflow_mul-levels : goal.overflow_mul-levels
overflow_mul-levels c = omega (arith, shallow c)

pub returns-then-work-levels : goal.returns-then-work-levels
returns-then-work-levels c =
    let d = work-short c.args.text.now c.args.log.now c.args.work.now c.args.out.now c.requires.plan c.requires.read c.requires.covers (within (goal.at.returns-then-work-levels c).Else-extents-gt-MAX_EXTENTS) (omega (arith, c.requires.deepens)) in
    record { is = d.0; work = d.1.0; out = d.1.1 }

pub returns-then-out-extents : goal.returns-then-out-extents
returns-then-out-extents c =
    let k = (goal.at.returns-then-out-extents c).Else-extents-gt-MAX_EXTENTS in
    let d = out-short c.args.text.now c.args.log.now c.args.work.now c.args.out.now c.requires.plan c.requires.read c.requires.covers (within k) (omega (arith, counted k)) in
    record { is = d.0; work = d.1.0; out = d.1.1 }

pub evaluate-done-requires : goal.evaluate-done-requires
evaluate-done-requires c =
    let k = goal.at.evaluate-done-requires c in
    let w = within k.Else-extents-gt-MAX_EXTENTS in
    let e = counted k.Else-extents-gt-MAX_EXTENTS in
    (there k.Else-out-extents w e, roomy c.args.text.now c.args.log.now c.args.work.now c.args.out.now c.requires.plan c.requires.read c.requires.covers w c.args.depth c.requires.deepens (levels k.Else-out-extents) (room k.Else-out-extents e))

pub returns : goal.returns
returns c =
    let a = c.args in
    let k = goal.at.returns c in
    let w = within k.Else-extents-gt-MAX_EXTENTS in
    let n = counted k.Else-extents-gt-MAX_EXTENTS in
    let l = levels k.Else-out-extents in
    let e = c.evaluate-done in
    let d = e.ensures (there k.Else-out-extents w n) in
    let back : level_words * a.depth ≤ length e.new.work = omega (arith, e.auto.work, l) in
    let g = run-done a.text.now a.log.now a.work.now a.out.now c.requires.plan c.requires.read c.requires.covers w a.depth c.requires.deepens l (room k.Else-out-extents n)
    e.result.words e.new.work e.new.out _ d.counted d.written d.kept (cleared-front _ _ _ back c.clear.ensures) in record { is = g.0; work = g.1.0; out = g.1.1 }
