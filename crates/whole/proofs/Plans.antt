-- Plans carried out: an accepted one hands over the summary of its log, or is refused with 6 where words lent are too few.
use mathlib.Core.Path.{◌≡◌, ap, ◌∙◌}
use Prim.Native.Nat.{ℕ}
use mathlib.Core.List.{List}
use mathlib.Core.Bool.{cond, ◌&&◌}
use lib.Dec.{leb}
use lib.ListN.{length, drop}
use lib.Seq.{take-append_seam}
use Rattle.reuse.specs.Summary.{summary_of}
use Rattle.reuse.specs.Traces.{Within}
use Rattle.reuse.proofs.Lists.{by-test}
use Rattle.reuse.proofs.Words.{length-summary}
use Rattle.texts.specs.Lines.{got}
use Rattle.texts.specs.Plans.{Plan, reads}
use Rattle.texts.specs.PlanTexts.{plan_of}
use Rattle.plan_calls.specs.Calls.{work_words, fronted, carried_out, run_call}
use Rattle.plan_calls.proofs.Carrying.{by-room}
use Rattle.whole.specs.Runs.{planned, gives, refused, room_for}

module _ (t : List ℕ) (p : Plan) (work out : List ℕ) where
  -- a plan carried out, by whether there is room
  carried : planned (carried_out p t work out) ≡ cond (leb (work_words p) (length work) && leb (length (summary_of t)) (length out)) (gives (summary_of t)) (refused 6)
  unfolding carried_out fronted
  carried =
      by-test (leb (work_words p) (length work) && leb (length (summary_of t)) (length out))
      (λ e. simp e (ap gives (take-append_seam (summary_of t) (drop (length (summary_of t)) out))))
      (λ e. simp e)

-- a plan accepted on a log within the limits
pub plan-outcome : (t : List ℕ) → Within t → (text : List ℕ) (p : Plan) → plan_of text ≡ got p → reads p ≡ length t → (work out : List ℕ)
    → planned (run_call text t work out) ≡ cond (leb (work_words p) (length work) && room_for t out) (gives (summary_of t)) (refused 6)
plan-outcome t w text p is covers work out =
    ap planned (by-room text t work out p is covers w)
    ∙ carried t p work out
    ∙ ap (λ (n : ℕ). cond (leb (work_words p) (length work) && leb n (length out)) (gives (summary_of t)) (refused 6)) (length-summary t)
