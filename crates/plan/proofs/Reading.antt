-- A text that the reader refused, or read as a plan.
use Rattle.std.specs.Prelude.{Ok, Err}
use Rattle.reuse.specs.declared.refusals.Refusal.{Refusal}
use Rattle.reuse.specs.Refusals.{refusal_with}
use Rattle.plan_reader.specs.declared.PlanRead.{PlanRead}
use mathlib.Core.Path.{◌≡◌, refl, ap}
use Prim.Native.Nat.{ℕ}
use mathlib.Core.List.{List}
use Rattle.texts.specs.Lines.{Read, got, refused as refused_at}
use Rattle.texts.specs.Plans.{Plan, reads, depth}
use Rattle.texts.specs.PlanTexts.{plan_of}
use Rattle.texts.proofs.Tests.{never}
use Rattle.plan_calls.specs.Calls.{refused, run_by, run_call}
use Rattle.plan_calls.proofs.Carrying.{Gives, gives}
use Rattle.plan_reader.specs.Answers.{answer_of}

module _ (text log work out : List ℕ) where
  -- the text is refused
  pub text-refused : (n : Refusal) → Err n ≡ answer_of (plan_of text) → Gives (run_call text log work out) (Err n) work out
  unfolding run_call
  text-refused n e = gives (run_call text log work out) (Err n) work out (by (plan_of text) e)
    where
      by : (p : Read Plan) → Err n ≡ answer_of p → run_by p log work out ≡ refused n work out
      by (got t) q = never (cc)
      by (refused_at line m) q = let z : refusal_with m ≡ n = cc in ap (λ (k : Refusal). refused k work out) z

  -- the text is read
  pub text-read : (m d : ℕ) → Ok (record { reads = m; depth = d }) ≡ answer_of (plan_of text) → (t : Plan) × (plan_of text ≡ got t) × (reads t ≡ m) × (depth t ≡ d)
  text-read m d e = by (plan_of text) refl e
    where
      by : (p : Read Plan) → plan_of text ≡ p → Ok (record { reads = m; depth = d }) ≡ answer_of p → (t : Plan) × (plan_of text ≡ got t) × (reads t ≡ m) × (depth t ≡ d)
      by (got t) r q =
          let z : ◌≡◌ {A = PlanRead} (record { reads = reads t; depth = depth t }) (record { reads = m; depth = d }) = cc in
          (t, r, ap (λ (p : PlanRead). p.reads) z, ap (λ (p : PlanRead). p.depth) z)
      by (refused_at line k) r q = never (cc)
