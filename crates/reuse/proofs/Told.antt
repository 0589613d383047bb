-- An answer that is told where a test passes, and refused where it does not.
use Rattle.std.proofs.Common.{◌≡◌, Bool, true, false, cond, Result, Ok, Err, IsErrAnd, refl, ap, ◌∙◌}
use Rattle.std.proofs.lemmas.Result.{err_from_is_err_and}
use Rattle.reuse.specs.declared.refusals.Refusal.{Refusal}

-- told: the test passed
pub told : {A : Type 0} (b : Bool) (a x : A) (why : Refusal) → ◌≡◌ {A = Result A Refusal} (cond b (Ok a) (Err why)) (Ok x) → (b ≡ true) × (x ≡ a)
told true a x why e = (refl, cc)
told false a x why e = absurd (cc)

-- refused: it did not
pub untold : {A : Type 0} (b : Bool) (a : A) (why r : Refusal) → ◌≡◌ {A = Result A Refusal} (cond b (Ok a) (Err why)) (Err r) → (b ≡ false) × (r ≡ why)
untold true a why r e = absurd (cc)
untold false a why r e = (refl, cc)

-- the exit of a `?` hands the refusal on as it came
pub handed_on : {A : Type 0} (r : Result A Refusal) (e : Refusal) → IsErrAnd r (λ x. x ≡ e) → r ≡ Err e
handed_on r e h = let y = err_from_is_err_and r h in y.1 ∙ ap Err y.2
