-- The refusals and the paper's number of each.
use Rattle.std.specs.Prelude.{◌≡◌, ℕ, Option, Some, None, Result, Ok, Err, cond, eqb}
use Rattle.std.specs.Option.{unwrap_or}
use Rattle.reuse.specs.declared.refusals.Refusal.{Refusal}
use Rattle.reuse.specs.declared.refusals.Refusal.TheVariants.{FaultyLine, OutOfRange, WrongTotal, PlanTooLarge, NotASummary, NoRoom, Unsound, TooManyReads, TooManyExtents, StoreTooSmall, NameNotSet, BelowCold}
use Rattle.reuse.specs.declared.refusals.UnknownNumber.{UnknownNumber}

-- the number of a refusal
abbrev pub refusal_number : Refusal → ℕ
refusal_number FaultyLine = 1
refusal_number OutOfRange = 2
refusal_number WrongTotal = 3
refusal_number PlanTooLarge = 4
refusal_number NotASummary = 5
refusal_number NoRoom = 6
refusal_number Unsound = 7
refusal_number TooManyReads = 8
refusal_number TooManyExtents = 9
refusal_number StoreTooSmall = 10
refusal_number NameNotSet = 11
refusal_number BelowCold = 12

-- the refusal with a number, where there is one
abbrev pub numbered : ℕ → Option Refusal
numbered n =
    cond (eqb n 1) (Some FaultyLine)
    (cond (eqb n 2) (Some OutOfRange)
    (cond (eqb n 3) (Some WrongTotal)
    (cond (eqb n 4) (Some PlanTooLarge)
    (cond (eqb n 5) (Some NotASummary)
    (cond (eqb n 6) (Some NoRoom)
    (cond (eqb n 7) (Some Unsound)
    (cond (eqb n 8) (Some TooManyReads)
    (cond (eqb n 9) (Some TooManyExtents)
    (cond (eqb n 10) (Some StoreTooSmall)
    (cond (eqb n 11) (Some NameNotSet)
    (cond (eqb n 12) (Some BelowCold)
    None)))))))))))

-- the refusal with a number that one has; 7 for another
abbrev pub refusal_with : ℕ → Refusal
refusal_with n = unwrap_or (numbered n) Unsound

-- an answer is the refusal with this number; an error says that no refusal has it
abbrev pub Numbered : ℕ → Result Refusal UnknownNumber → Type 0
Numbered n (Ok r) = numbered n ≡ Some r
Numbered n (Err e) = (numbered n ≡ None) × (e.0 ≡ n)
