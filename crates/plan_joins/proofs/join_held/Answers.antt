-- `plan_joins::join_held` meets its contract.
use mathlib.Core.Path.{◌∙◌}
use native.Mathlib.Omega.{arith}
use Rattle.plan_calls.specs.Calls.{count_of}
use Rattle.plan_joins.proofs.Joins.{Holdable, Gives, level-short, held-long, words_long, out-short, gives_none, gives_both}
use Rattle.plan_joins.proofs.join_held.Goals as goal
use Rattle.plan_joins.proofs.join_held.Goals.{After-join, Else-out-words}

-- both summaries fit the level's words
holdable : (c : Else-out-words) → Holdable c.args.work.now c.args.held c.args.out.now c.args.words
holdable c = record { level = omega arith; first = omega arith; second = omega arith; fits = omega arith }

-- what is left when they are joined
joined : (c : After-join) → Holdable c.args.work.now c.args.held c.args.out.now c.args.words →
    Gives c.args.work.now c.args.held c.args.out.now c.args.words (count_of c.join.result) c.put.new.out c.join.new.out
joined c fits =
    gives_both c.args.work.now c.args.held c.args.out.now c.args.words fits (λ z. omega (arith, z)) _ c.put.ensures c.join.result _ c.join.ensures.0 c.join.ensures.1

pub returns-then-work-lt-LEVEL : goal.returns-then-work-lt-LEVEL
returns-then-work-lt-LEVEL c = let g = level-short c.args.work.now c.args.held c.args.out.now c.args.words (omega arith) in record { is = g.0; work = g.1.0; out = g.1.1 }

pub returns-then-held-gt-SUMMARY_WORDS : goal.returns-then-held-gt-SUMMARY_WORDS
returns-then-held-gt-SUMMARY_WORDS c = let g = held-long c.args.work.now c.args.held c.args.out.now c.args.words (omega arith) in record { is = g.0; work = g.1.0; out = g.1.1 }

pub returns-then-words-gt-SUMMARY_WORDS : goal.returns-then-words-gt-SUMMARY_WORDS
returns-then-words-gt-SUMMARY_WORDS c = let g = words_long c.args.work.now c.args.held c.args.out.now c.args.words (omega arith) in record { is = g.0; work = g.1.0; out = g.1.1 }

pub returns-then-out-words : goal.returns-then-out-words
returns-then-out-words c = let g = out-short c.args.work.now c.args.held c.args.out.now c.args.words (omega arith) in record { is = g.0; work = g.1.0; out = g.1.1 }

pub returns-then-held-eq0 : goal.returns-then-held-eq0
returns-then-held-eq0 c = let g = gives_none c.args.work.now c.args.held c.args.out.now c.args.words (holdable (goal.at.returns-then-held-eq0 c).Else-out-words) (omega arith) in record { is = g.0; work = g.1.0; out = g.1.1 }

pub returns : goal.returns
returns c =
    let b = goal.at.returns c in
    let g = joined b.After-join (holdable b.Else-out-words) in record { is = c.unwrap_or.ensures ∙ g.0; work = g.1.0; out = g.1.1 }
