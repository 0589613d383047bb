-- What carrying a plan out answers, and what it leaves in the two buffers lent to it.
use Rattle.std.specs.Prelude.{◌≡◌, ℕ, ◌+◌, ◌*◌, List, ◌++◌, cond, ◌&&◌, eqb, leb, length, drop, replicate, Result, Ok, Err}
use Rattle.std.specs.Result.{result_unwrap_or}
use Rattle.reuse.specs.declared.refusals.Refusal.{Refusal}
use Rattle.reuse.specs.declared.refusals.Refusal.TheVariants.{WrongTotal, NoRoom, TooManyReads, TooManyExtents}
use Rattle.reuse.specs.Refusals.{refusal_with}
use Rattle.reuse.specs.Limits.{max_reads, max_extents}
use Rattle.reuse.specs.Lists.{firsts}
use Rattle.reuse.specs.Summary.{summary_of}
use Rattle.texts.specs.Lines.{Read, got, refused as refused_at}
use Rattle.texts.specs.Plans.{Plan, reads, depth}
use Rattle.texts.specs.PlanTexts.{plan_of}

-- the words of the largest summary
abbrev pub summary_words : ℕ
summary_words = 2 + 3 * max_extents

-- the work words of one level of joins: two summaries
abbrev pub level_words : ℕ
level_words = 2 * summary_words

-- the work words that a plan needs
abbrev pub work_words : Plan → ℕ
work_words t = level_words * depth t

-- 0 in the first n words, the others as they were
unfoldable pub cleared : ℕ → List ℕ → List ℕ
cleared n row = replicate n 0 ++ drop n row

-- these words at the front of the buffer, the others as they were
unfoldable pub fronted : List ℕ → List ℕ → List ℕ
fronted words buffer = words ++ drop (length words) buffer

-- how many words a call has written
abbrev pub count_of : Result ℕ Refusal → ℕ
count_of a = result_unwrap_or a 0

-- the answer, and both lent buffers after it
pub record Ran : Type 0 where
  pub answer : Result ℕ Refusal
  pub work : List ℕ
  pub out : List ℕ

-- the refusal n, with both buffers as they were
abbrev pub refused : Refusal → List ℕ → List ℕ → Ran
refused n work out = record { answer = Err n; work = work; out = out }

-- the log's summary, with the plan's work words 0 afterwards; 6 where the work words or the output are too few
unfoldable pub carried_out : Plan → List ℕ → List ℕ → List ℕ → Ran
carried_out t log work out =
    cond (leb (work_words t) (length work) && leb (length (summary_of log)) (length out))
    (record { answer = Ok (length (summary_of log)); work = cleared (work_words t) work; out = fronted (summary_of log) out })
    (refused NoRoom work out)

-- a plan on a log: 3, 8, 9, 6
unfoldable pub plan_call : Plan → List ℕ → List ℕ → List ℕ → Ran
plan_call t log work out =
    cond (eqb (reads t) (length log))
    (cond (leb (length log) max_reads)
    (cond (leb (length (firsts log)) max_extents) (carried_out t log work out) (refused TooManyExtents work out))
    (refused TooManyReads work out))
    (refused WrongTotal work out)

-- by the text's answer: its refusal comes first
abbrev pub run_by : Read Plan → List ℕ → List ℕ → List ℕ → Ran
run_by (got t) log work out = plan_call t log work out
run_by (refused_at line n) log work out = refused (refusal_with n) work out

-- a plan text on a log
unfoldable pub run_call : List ℕ → List ℕ → List ℕ → List ℕ → Ran
run_call text log work out = run_by (plan_of text) log work out

-- the text is a plan of this depth, and its segs add up to the log
pub record Accepted (text log : List ℕ) (deep : ℕ) : Type 0 where
  pub plan : Plan
  pub read : plan_of text ≡ got plan
  pub covers : reads plan ≡ length log
  pub deepens : depth plan ≡ deep
