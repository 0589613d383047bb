-- `listing_soundness::refuses_text` meets its contract.
use Rattle.std.proofs.Common.{◌≡◌, ◌≤◌, ℕ, Option, Some, None, refl, ap, sym, ◌∙◌, suc, Bool, true, false, arith}
use lib.Dec.{eqb}
use borrow.Author.Tests.{ne_eqb}
use mathlib.Core.Logic.{◌⊎◌, inl, inr}
use Rattle.reuse.specs.Refusals.{refusal_number, numbered}
use Rattle.reuse.specs.declared.refusals.Refusal.{Refusal}
use Rattle.reuse.specs.declared.refusals.Refusal.TheVariants.{FaultyLine, OutOfRange, TooManyReads, TooManyExtents}
use Rattle.listing_soundness.specs.Soundness.{refuses_text}
use borrow.Author.Rules.{rules}
use Rattle.listing_soundness.proofs.refuses_text.Goals as goal

-- whether a refusal, if there is one, is of a text
of_text : Option Refusal → Bool
unfolding refuses_text
of_text (Some r) = refuses_text (refusal_number r)
of_text None = false

-- a number past 12 is no refusal's
past : (n k : ℕ) → k ≤ 12 → eqb (suc (suc (suc (suc (suc (suc (suc (suc (suc (suc (suc (suc (suc n))))))))))))) k ≡ false
past n k h = ne_eqb _ k (λ z. omega (arith, z, h))

-- a number is of a text if the refusal with it is
tells : (n : ℕ) → of_text (numbered n) ≡ refuses_text n
unfolding refuses_text of_text
tells (suc (suc (suc (suc (suc (suc (suc (suc (suc (suc (suc (suc (suc n))))))))))))) =
    rw (
      past n 1 (omega arith),
      past n 2 (omega arith),
      past n 3 (omega arith),
      past n 4 (omega arith),
      past n 5 (omega arith),
      past n 6 (omega arith),
      past n 7 (omega arith),
      past n 8 (omega arith),
      past n 9 (omega arith),
      past n 10 (omega arith),
      past n 11 (omega arith),
      past n 12 (omega arith),
    )
tells n = refl

-- one of these four is
one-of : (r : Refusal) → (r ≡ FaultyLine) ⊎ ((r ≡ OutOfRange) ⊎ ((r ≡ TooManyReads) ⊎ (r ≡ TooManyExtents))) → true ≡ of_text (Some r)
unfolding refuses_text of_text
one-of r (inl e) = rw e refl
one-of r (inr (inl e)) = rw e refl
one-of r (inr (inr (inl e))) = rw e refl
one-of r (inr (inr (inr e))) = rw e refl

-- by the refusal with a number
by : (n : ℕ) (r : Refusal) → numbered n ≡ Some r → of_text (Some r) ≡ refuses_text n
by n r h = sym (ap of_text h) ∙ tells n

-- a number of another is of none
another : (n : ℕ) (r : Refusal) → numbered n ≡ Some r → (r ≡ FaultyLine → ⊥) → (r ≡ OutOfRange → ⊥) → (r ≡ TooManyReads → ⊥) → (r ≡ TooManyExtents → ⊥) → false ≡ refuses_text n
unfolding refuses_text of_text
another n FaultyLine h a b c d = absurd (a refl)
another n OutOfRange h a b c d = absurd (b refl)
another n TooManyReads h a b c d = absurd (c refl)
another n TooManyExtents h a b c d = absurd (d refl)
another n r h a b c d = by n r h

pub returns-in-FaultyLine : goal.returns-in-FaultyLine
returns-in-FaultyLine c = one-of c.in-Ok.refusal c.in-FaultyLine.is ∙ by c.args.n c.in-Ok.refusal c.in-Ok.ensures

pub returns-in_default : goal.returns-in_default
unfolding of_text
returns-in_default c = sym (ap of_text c.in_default.ensures.0) ∙ tells c.args.n

pub returns-in_default-matches : goal.returns-in_default-matches
returns-in_default-matches c = another c.args.n c.in-Ok.refusal c.in-Ok.ensures (search rules) (search rules) (search rules) (search rules)
