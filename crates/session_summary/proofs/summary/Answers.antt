-- `session_summary::summary` meets its contract. A session that is not sound is refused; the words of the others are written.
use mathlib.Core.Path.{◌≡◌, sym, ap, ◌∙◌}
use mathlib.Core.Bool.{true}
use Prim.Native.Nat.{ℕ, ◌≤◌}
use native.Mathlib.Omega.{arith}
use lib.ListN.{length, length-replicate}
use lib.Seq.{length-take-le}
use Rattle.reuse.specs.Limits.{max_extents, slot_count}
use Rattle.summary_calls.specs.Calls.{Wrote}
use Rattle.session_marks.specs.Marks.{gathered_row}
use Rattle.session.specs.Sessions.{Wide, sound}
use Rattle.session.proofs.Corresponds.{sound-facts, summed}
use Rattle.session.proofs.Parts.{worked}
use Rattle.session_summary.proofs.Summaries.{unsound-way, count-few, words-given}
use borrow.Author.Rules.{rules}
use Rattle.session_summary.proofs.summary.Goals as goal
use Rattle.session_summary.proofs.summary.Goals.{Else-not-sound}

-- the widths of the session's arrays
wide : (c : Else-not-sound) → Wide c.args.s
wide c = record { first-wide = search rules; hist-wide = search rules; slots-wide = search rules; rights-wide = search rules }

-- the session is sound
ok : (c : Else-not-sound) → sound c.args.s ≡ true
ok c = sym c.sound.ensures ∙ c.if-not-sound.false

-- its count is within the limit
few : (c : Else-not-sound) → c.args.s.count ≤ max_extents
few c = count-few c.args.s (wide c) (ok c)

pub returns-then-not-sound : goal.returns-then-not-sound
returns-then-not-sound c =
    let e = unsound-way c.args.s c.args.out.now (sym c.sound.ensures ∙ c.if-not-sound.true) in
    (sym (ap (λ (q : Wrote). q.answer) e), sym (ap (λ (q : Wrote). q.buffer) e))

pub slice_bounds-marked-end : goal.slice_bounds-marked-end
slice_bounds-marked-end c = let b = (goal.at.slice_bounds-marked-end c).Else-not-sound in omega (arith, few b)

pub slice_bounds-turned-end : goal.slice_bounds-turned-end
slice_bounds-turned-end c =
    let n : length c.gather-marked.result ≡ slot_count = search rules in
    sym (length-take-le _ _ (omega (arith, few (goal.at.slice_bounds-turned-end c).Else-not-sound)))

pub slice_bounds-first-end : goal.slice_bounds-first-end
slice_bounds-first-end c = let b = (goal.at.slice_bounds-first-end c).Else-not-sound in omega (arith, few b, (wide b).first-wide)

pub slice_bounds-write-end : goal.slice_bounds-write-end
slice_bounds-write-end c = let b = (goal.at.slice_bounds-write-end c).Else-not-sound in sym (length-take-le _ _ (omega (arith, few b, (wide b).first-wide)))

pub slice_bounds-recent-end : goal.slice_bounds-recent-end
slice_bounds-recent-end c = let b = (goal.at.slice_bounds-recent-end c).Else-not-sound in omega (arith, few b)

pub slice_bounds-write-end-2 : goal.slice_bounds-write-end-2
slice_bounds-write-end-2 c =
    let n : length c.turned-recent.result ≡ max_extents = search rules in
    sym (length-take-le _ _ (omega (arith, few (goal.at.slice_bounds-write-end-2 c).Else-not-sound)))

pub slice_bounds-counts-end : goal.slice_bounds-counts-end
slice_bounds-counts-end c = let b = (goal.at.slice_bounds-counts-end c).Else-not-sound in omega (arith, few b, (wide b).hist-wide)

pub slice_bounds-write-end-3 : goal.slice_bounds-write-end-3
slice_bounds-write-end-3 c = let b = (goal.at.slice_bounds-write-end-3 c).Else-not-sound in sym (length-take-le _ _ (omega (arith, few b, (wide b).hist-wide)))

pub returns : goal.returns
returns c =
    let b = (goal.at.returns c).Else-not-sound in
    let s = c.args.s in
    let w = wide b in
    let o = ok b in
    let marks = c.work_out.ensures.1 ∙ worked s (summed s (sound-facts s w o)) _ (length-replicate {A = ℕ} slot_count 0) in
    words-given s w o c.args.out.now c.gather-marked.result c.turned-recent.result _ _ (c.gather-marked.ensures ∙ ap (gathered_row s.slots) marks) c.turned-recent.ensures c.write.ensures
