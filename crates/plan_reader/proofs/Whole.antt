-- The answer for a whole text, by the form that it begins with.
use Rattle.std.specs.Prelude.{Ok, Err}
use Rattle.reuse.specs.declared.refusals.Refusal.{Refusal}
use Rattle.reuse.specs.declared.refusals.Refusal.TheVariants.{FaultyLine, PlanTooLarge}
use Rattle.reuse.specs.Refusals.{refusal_number}
use Rattle.reuse.proofs.Numbers.{with-number}
use mathlib.Core.Path.{◌≡◌, sym, ap, subst, ◌∙◌}
use Prim.Native.Nat.{ℕ, ◌+◌, ◌≤◌, ◌<◌}
use mathlib.Core.List.{List, [], ◌∷◌}
use lib.ListN.{length, drop, get_or}
use Rattle.texts.specs.Limits.{max_bytes}
use Rattle.texts.specs.PlanTexts.{plan_of}
use Rattle.texts.specs.PlanOwed.{FormGives}
use Rattle.texts.proofs.PlanOwed as laws
use Rattle.plan_reader.proofs.Ways.{given_form}
use Rattle.plan_reader.specs.Answers.{answer_of, FormIs}
use Rattle.texts.proofs.Positions.{gone, here}

-- a text over the limit of bytes
pub too_long_lem : (text : List ℕ) → max_bytes < length text → Err PlanTooLarge ≡ answer_of (plan_of text)
too_long_lem text h = ap answer_of (sym (laws.text-long text h))

module _ (text : List ℕ) (fits : length text ≤ max_bytes) where
  -- the form is refused
  pub refused : (why : Refusal) → FormIs text 0 0 0 0 (Err why) → Err why ≡ answer_of (plan_of text)
  refused why f = let r = f 0 in ap Err (sym (with-number why)) ∙ ap answer_of (sym (laws.text-refused text fits r.0 (refusal_number why) r.1))

  module _ (total depth closes next : ℕ) (none : closes ≡ 0) (f : FormIs text 0 0 0 0 (given_form total depth closes next)) where
    -- the form with what follows it
    given : (rest : List ℕ) → drop next text ≡ rest → (j : ℕ) × FormGives 0 0 0 0 text total depth 0 j rest
    given rest e =
        let r = f 0 in
        let g : FormGives 0 0 0 0 text total depth 0 r.0 (drop next text) = subst (λ (x : ℕ). FormGives 0 0 0 0 text total depth x r.0 (drop next text)) none r.1 in
        (r.0, subst (λ (l : List ℕ). FormGives 0 0 0 0 text total depth 0 r.0 l) e g)

    -- bytes follow the form
    pub followed : next < length text → Err FaultyLine ≡ answer_of (plan_of text)
    followed h =
        let g = given (get_or text next 0 ∷ drop (next + 1) text) (here text next h) in
        ap answer_of (sym (laws.text-after text fits total depth g.0 (get_or text next 0) (drop (next + 1) text) g.1))

    -- the text is the form
    pub whole : length text ≤ next → Ok (record { reads = total; depth = depth }) ≡ answer_of (plan_of text)
    whole h =
        let g = given [] (gone text next h) in
        let w = laws.text-whole text fits total depth g.0 g.1 in
        let a = w.1 in
        let b = w.2 in
        sym (ap answer_of w.3 ∙ rw (a, b))
