-- However a log is cut and grouped, a plan's words are those of one uncut reading.
use mathlib.Core.Path.{◌≡◌, refl, ap, ◌∙◌}
use mathlib.Core.List.{List, ◌++◌, append_assoc}
use Prim.Native.Nat.{ℕ}
use lib.ListN.{take, drop, take-append-drop}
use Rattle.reuse.specs.Summary.{summary_of, join_of}
use Rattle.reuse.proofs.Join.{join-law}
use Rattle.texts.specs.Plans.{Plan, Parts, seg, join, last, more, reads}
use Rattle.plan_calls.specs.Groupings.{grouped_by, joined_to}

mutual
  unfolding grouped_by joined_to

  -- a plan's words are the summary of its reads
  pub plan-groups : (t : Plan) (log : List ℕ) → grouped_by t log ≡ summary_of log
  plan-groups (seg n) log = refl
  plan-groups (join p ps) log =
      ap (λ (w : List ℕ). joined_to w ps (drop (reads p) log)) (plan-groups p (take (reads p) log))
      ∙ parts_join ps (take (reads p) log) (drop (reads p) log)
      ∙ ap summary_of (take-append-drop (reads p) log)

  -- other parts, joined to the summary of the reads before them
  parts_join : (ps : Parts) (before log : List ℕ) → joined_to (summary_of before) ps log ≡ summary_of (before ++ log)
  parts_join (last p) before log = ap (join_of (summary_of before)) (plan-groups p log) ∙ join-law before log
  parts_join (more p ps) before log =
      ap (λ (w : List ℕ). joined_to (join_of (summary_of before) w) ps (drop (reads p) log)) (plan-groups p (take (reads p) log))
      ∙ ap (λ (w : List ℕ). joined_to w ps (drop (reads p) log)) (join-law before (take (reads p) log))
      ∙ parts_join ps (before ++ take (reads p) log) (drop (reads p) log)
      ∙ ap summary_of (append_assoc before (take (reads p) log) (drop (reads p) log) ∙ ap (λ (v : List ℕ). before ++ v) (take-append-drop (reads p) log))
