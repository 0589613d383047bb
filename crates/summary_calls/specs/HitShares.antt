-- What a hit share may be.
use Rattle.summary_calls.specs.declared.HitShare.{HitShare}
use Rattle.std.specs.Prelude.{ℕ, ◌≡◌, true, false, pos, Float, Result, Ok}
use Rattle.reuse.specs.declared.refusals.Refusal.{Refusal}
use Rattle.std.specs.Float.{fin}
use Rattle.std.specs.Float.Ieee.{le}
use Rattle.summary_calls.specs.declared.HitShare.TheVariants.{Share, NoReads}

-- the f64 0.0
abbrev pub nought : Float
nought = fin false 0 (pos 0)

-- the f64 1.0
abbrev pub one : Float
one = fin false 1 (pos 0)

-- the answer is 'no reads' exactly where there are none of these reads
abbrev pub NoneOf : ℕ → Result HitShare Refusal → Type 0
NoneOf n a = (n ≡ 0 → a ≡ Ok NoReads) × (a ≡ Ok NoReads → n ≡ 0)

-- where the answer is a share, it is between 0 and 1
abbrev pub Between : Result HitShare Refusal → Type 0
Between a = (x : Float) → a ≡ Ok (Share x) → (le nought x ≡ true) × (le x one ≡ true)

-- where the answer is a share, it is exactly 1
abbrev pub Full : Result HitShare Refusal → Type 0
Full a = (x : Float) → a ≡ Ok (Share x) → x ≡ one
