-- `session_refusals::refusal` meets its contract. Each return is one way of `refusal_of`.
use mathlib.Core.Path.{◌≡◌, sym, ◌∙◌}
use mathlib.Core.Bool.{true}
use Rattle.session_soundness.specs.Soundness.{intact_rows}
use Rattle.session_refusals.proofs.Refusals.{refusal-unsound, refusal-reads, refusal-extents, refusal-known, refusal-few}
use Rattle.session_refusals.proofs.refusal.Goals as goal
use Rattle.session_refusals.proofs.refusal.Goals.{Else-not-intact, else-full-via-then-full+else-not-contains, else-full-via-else-full}

-- the fields are sound
ok : (c : Else-not-intact) → let a = c.args.fields in intact_rows a.reads a.first.now a.hist.now a.slots.now a.count a.rights.now a.next ≡ true
ok c = sym c.intact.ensures ∙ c.if-not-intact.false

pub returns-then-not-intact : goal.returns-then-not-intact
returns-then-not-intact c = sym (refusal-unsound _ _ _ _ _ _ _ _ (sym c.intact.ensures ∙ c.if-not-intact.true))

pub returns-then-at_limit : goal.returns-then-at_limit
returns-then-at_limit c = sym (refusal-reads _ _ _ _ _ _ _ (ok (goal.at.returns-then-at_limit c).Else-not-intact) _ c.if-at_limit.true)

pub returns-then-not-contains : goal.returns-then-not-contains
returns-then-not-contains c = sym (refusal-extents _ _ _ _ _ _ _ (ok (goal.at.returns-then-not-contains c).Else-not-intact) _ c.if-at_limit.false c.if-full.true (sym c.contains.ensures ∙ c.if-not-contains.true))

pub returns : goal.returns
returns c =
    let held = ok (goal.at.returns c).Else-not-intact in
    elim c.else-full.branch [
      | else-full-via-then-full+else-not-contains w ↦ sym (refusal-known _ _ _ _ _ _ _ held _ c.if-at_limit.false w.if-full.true (sym w.contains.ensures ∙ w.if-not-contains.false))
      | else-full-via-else-full w ↦ sym (refusal-few _ _ _ _ _ _ _ held _ c.if-at_limit.false w.if-full.false)
    ]
