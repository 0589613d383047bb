-- Each number that a plan text is refused with is the number of the refusal that the reader answers.
use Rattle.std.proofs.Common.{◌≡◌, ℕ, zero, suc, List, eqb, refl}
use borrow.Author.Tests.{eqb-true, eqb-false}
use Rattle.reuse.specs.Refusals.{refusal_number, refusal_with}
use Rattle.reuse.proofs.Lists.{by-test}
use Rattle.texts.specs.Lines.{refused}
use Rattle.texts.specs.Plans.{Plan}
use Rattle.texts.specs.PlanTexts.{plan_of}
use Rattle.texts.specs.PlanFaults.{Broken, long_seg, part_seg, part_join, deep_join}
use Rattle.texts.proofs.PlanFaults.{plan-long, plan-over}

-- the limits of a plan are refused with 2 and 4
broken-number : (joins : List (List Plan)) (line : List ℕ) (n : ℕ) → Broken joins line n → refusal_number (refusal_with n) ≡ n
broken-number joins line n (long_seg m c e h) = refl
broken-number joins line n (part_seg m c e h g) = refl
broken-number joins line n (part_join e h) = refl
broken-number joins line n (deep_join e h) = refl

-- the refusal that is answered has the text's number
pub plan-number : (text : List ℕ) (k n : ℕ) → plan_of text ≡ refused k n → refusal_number (refusal_with n) ≡ n
plan-number text zero n e = rw (plan-long text n e).0 refl
plan-number text (suc k) n e =
    by-test (eqb n 1) (λ t. rw (eqb-true n 1 t) refl)
    (λ f. let over = plan-over text k n e (eqb-false n 1 f) in broken-number over.joins over.line n over.broken)
