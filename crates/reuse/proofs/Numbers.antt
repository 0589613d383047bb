-- Each refusal is the one with its number.
use Rattle.std.proofs.Common.{◌≡◌, ℕ, Result, Ok, Err, refl}
use Rattle.std.specs.Result.{result_unwrap_or}
use Rattle.reuse.specs.declared.refusals.UnknownNumber.{UnknownNumber}
use Rattle.reuse.specs.Refusals.{refusal_number, numbered, Numbered, refusal_with}
use Rattle.reuse.specs.declared.refusals.Refusal.{Refusal}
use Rattle.reuse.specs.declared.refusals.Refusal.TheVariants.{FaultyLine, OutOfRange, WrongTotal, PlanTooLarge, NotASummary, NoRoom, Unsound, TooManyReads, TooManyExtents, StoreTooSmall, NameNotSet, BelowCold}

-- the refusal with a refusal's number is that refusal
pub with-number : (r : Refusal) → refusal_with (refusal_number r) ≡ r
with-number FaultyLine = refl
with-number OutOfRange = refl
with-number WrongTotal = refl
with-number PlanTooLarge = refl
with-number NotASummary = refl
with-number NoRoom = refl
with-number Unsound = refl
with-number TooManyReads = refl
with-number TooManyExtents = refl
with-number StoreTooSmall = refl
with-number NameNotSet = refl
with-number BelowCold = refl

-- an answer that is the refusal with this number, or 7 where none has it
pub named : (n : ℕ) (r : Result Refusal UnknownNumber) → Numbered n r → result_unwrap_or r Unsound ≡ refusal_with n
named n (Ok r) h = rw h refl
named n (Err e) h = rw h.0 refl
