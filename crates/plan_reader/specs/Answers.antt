-- What the readers of a plan text answer, by the definitions of `texts`.
use Rattle.std.specs.Prelude.{◌≡◌, ℕ, suc, ◌+◌, ◌*◌, ◌≤◌, ◌<◌, List, drop, Result, Ok, Err}
use Rattle.reuse.specs.declared.refusals.Refusal.{Refusal}
use Rattle.reuse.specs.Refusals.{refusal_number, refusal_with}
use Rattle.texts.specs.Limits.{max_seg}
use Rattle.texts.specs.Lines.{Read, got, refused}
use Rattle.texts.specs.Plans.{Plan, reads, depth}
use Rattle.texts.specs.PlanOwed.{FormGives, FormRefuses, PartsGive, PartsRefuse}
use Rattle.plan_reader.specs.declared.PlanRead.{PlanRead}
use Rattle.plan_reader.specs.declared.forms.FormRead.{FormRead}

-- the call's answer: the reads and the depth of the plan, or the refusal with the text's number
abbrev pub answer_of : Read Plan → Result PlanRead Refusal
answer_of (got t) = Ok (record { reads = reads t; depth = depth t })
answer_of (refused k n) = Err (refusal_with n)

-- the position past a form, and the bounds of its brackets, its depth and its reads
abbrev pub FormWithin : ℕ → ℕ → ℕ → ℕ → ℕ → ℕ → Result FormRead Refusal → Type 0
FormWithin at len most under limit base (Ok f) =
    (at < f.next) × (f.next ≤ len) × (f.closes ≤ most) × (f.depth + under ≤ limit) × (f.reads + max_seg * at ≤ max_seg * f.next + base)
FormWithin at len most under limit base (Err r) = Unit

-- a form at a position is what the definition reads there, however many lines stand before it
abbrev pub FormIs : List ℕ → ℕ → ℕ → ℕ → ℕ → Result FormRead Refusal → Type 0
FormIs s at d most before (Ok f) =
    (k : ℕ) → (j : ℕ) × FormGives k d most before (drop at s) f.reads f.depth f.closes j (drop f.next s)
FormIs s at d most before (Err r) = (k : ℕ) → (line : ℕ) × FormRefuses k d most before (drop at s) line (refusal_number r)

-- so is the rest of a join, one of the d joins open
abbrev pub PartsIs : List ℕ → ℕ → ℕ → ℕ → ℕ → ℕ → ℕ → Result FormRead Refusal → Type 0
PartsIs s at d most count sum low (Ok f) =
    (k e : ℕ) → suc e ≡ d → (j : ℕ) × PartsGive k e most count sum low (drop at s) f.reads f.depth f.closes j (drop f.next s)
PartsIs s at d most count sum low (Err r) = (k e : ℕ) → suc e ≡ d → (line : ℕ) × PartsRefuse k e most count sum low (drop at s) line (refusal_number r)
