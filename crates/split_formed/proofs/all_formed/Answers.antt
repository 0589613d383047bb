use mathlib.Core.Path.{refl, sym, ◌∙◌}
use native.Mathlib.Omega.{arith}
use Rattle.split_calls.proofs.Cuts.{formed-none}
use Rattle.split_formed.proofs.Testing.{remaining-end, remaining-short, remaining-bad, remaining-turn}
use Rattle.split_formed.proofs.all_formed.Goals as goal

pub returns-then-customers-eq0 : goal.returns-then-customers-eq0
returns-then-customers-eq0 c = sym (formed-none _ _ (omega arith))

pub returns-then-rest-lt2 : goal.returns-then-rest-lt2
returns-then-rest-lt2 c = let r = c.loop in remaining-short _ _ _ _ r.invariant (omega arith) (λ a b. omega arith)

pub returns-then-v-gt-MAX_EXTENTS : goal.returns-then-v-gt-MAX_EXTENTS
returns-then-v-gt-MAX_EXTENTS c = let r = c.loop in remaining-short _ _ _ _ r.invariant (omega arith) (λ a b. omega arith)

pub returns-then-rest-own : goal.returns-then-rest-own
returns-then-rest-own c = let r = c.loop in remaining-short _ _ _ _ r.invariant (omega arith) (λ a b. omega arith)

pub returns-then-not-well_formed : goal.returns-then-not-well_formed
returns-then-not-well_formed c = let r = c.loop in remaining-bad _ _ _ _ r.invariant (omega arith) (sym c.well_formed-in-loop.ensures ∙ c.if-not-well_formed.true)

pub loop-preserved : goal.loop-preserved
loop-preserved c = let r = c.loop in remaining-turn _ _ _ _ r.invariant (omega arith) _ refl (omega arith) (sym c.well_formed-in-loop.ensures ∙ c.if-not-well_formed.false)

pub returns : goal.returns
returns c = let r = c.loop in c.well_formed-2.ensures ∙ remaining-end _ _ _ _ r.invariant (omega arith)
