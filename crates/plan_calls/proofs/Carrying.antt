-- The call that carries a plan out: a law for each way that it returns.
use Rattle.std.specs.Prelude.{Result, Ok, Err}
use Rattle.reuse.specs.declared.refusals.Refusal.{Refusal}
use Rattle.reuse.specs.declared.refusals.Refusal.TheVariants.{WrongTotal, NoRoom, TooManyReads, TooManyExtents}
use mathlib.Core.Path.{◌≡◌, sym, ap, ◌∙◌}
use Prim.Native.Nat.{ℕ, ◌+◌, ◌*◌, ◌≤◌, ◌<◌}
use native.Mathlib.Omega.{arith}
use mathlib.Core.List.{List, [], ◌++◌}
use mathlib.Core.Bool.{and-false}
use lib.ListN.{length, take, drop, replicate}
use lib.Seq.{take_all, length-take-le}
use borrow.Author.Tests.{eq-eqb, ne_eqb, le-leb, lt-leb}
use Rattle.reuse.specs.Limits.{max_reads, max_extents}
use Rattle.reuse.specs.Lists.{firsts}
use Rattle.reuse.specs.Summary.{summary_of}
use Rattle.reuse.specs.Traces.{Within}
use Rattle.reuse.proofs.Words.{length-summary}
use Rattle.texts.specs.Lines.{Read, got}
use Rattle.texts.specs.Plans.{Plan, text_of, reads, depth}
use Rattle.texts.specs.PlanTexts.{plan_of}
use Rattle.texts.proofs.PlanSound.{sound}
use Rattle.plan_calls.specs.Calls.{level_words, work_words, cleared, fronted, Ran, carried_out, plan_call, run_by, run_call}
use Rattle.plan_calls.specs.Standing.{span, Stands, Ready, Roomy}

-- what a call answers and leaves, by its definition
abbrev pub Gives : Ran → Result ℕ Refusal → List ℕ → List ℕ → Type 0
Gives r answer work out = (answer ≡ r.answer) × ((work ≡ r.work) × (out ≡ r.out))

-- of a definition that is known
pub gives : (r : Ran) (answer : Result ℕ Refusal) (work out : List ℕ) → r ≡ record { answer = answer; work = work; out = out } → Gives r answer work out
gives r answer work out e = (sym (ap (λ (v : Ran). v.answer) e), (sym (ap (λ (v : Ran). v.work) e), sym (ap (λ (v : Ran). v.out) e)))

-- words of which the first n became 0
pub cleared-front : (n : ℕ) (w y : List ℕ) → n ≤ length w → y ≡ replicate (length (take n w)) 0 → y ++ drop n w ≡ cleared n w
unfolding cleared
cleared-front n w y h e = ap (λ (v : List ℕ). v ++ drop n w) (e ∙ ap (λ (k : ℕ). replicate k 0) (length-take-le n w h))

module _ (text log work out : List ℕ) where
  module _ (t : Plan) (is : plan_of text ≡ got t) where
    -- the plan's own answer
    by-plan : run_call text log work out ≡ plan_call t log work out
    unfolding run_call
    by-plan = ap (λ (p : Read Plan). run_by p log work out) is

    -- the text is the plan's own
    pub stands : Stands text 0 t 0 []
    unfolding text_of
    stands = let s = sound text t is in record { printed = s.0; ruled = omega (arith, s.1.long) }

    -- the segs do not add up to the log
    pub segs-differ : (reads t ≡ length log → ⊥) → Gives (run_call text log work out) (Err WrongTotal) work out
    unfolding plan_call
    segs-differ h = gives (run_call text log work out) (Err WrongTotal) work out (by-plan ∙ rw (ne_eqb (reads t) (length log) h))

    module _ (covers : reads t ≡ length log) where
      -- more reads than the limit
      pub many-reads : max_reads < length log → Gives (run_call text log work out) (Err TooManyReads) work out
      unfolding plan_call
      many-reads h = gives (run_call text log work out) (Err TooManyReads) work out (by-plan ∙ rw (eq-eqb (reads t) (length log) covers, lt-leb (length log) max_reads h))

      -- more extents than the limit
      pub many-extents : length log ≤ max_reads → max_extents < length (firsts log) → Gives (run_call text log work out) (Err TooManyExtents) work out
      unfolding plan_call
      many-extents s h =
          gives (run_call text log work out) (Err TooManyExtents) work out
          (by-plan ∙ rw (eq-eqb (reads t) (length log) covers, le-leb (length log) max_reads s, lt-leb (length (firsts log)) max_extents h))

      module _ (within : Within log) where
        -- the log and the plan are within the limits
        pub by-room : run_call text log work out ≡ carried_out t log work out
        unfolding plan_call
        by-room = by-plan ∙ rw (eq-eqb (reads t) (length log) covers, le-leb (length log) max_reads within.reads, le-leb (length (firsts log)) max_extents within.extents)

        -- too few work words
        pub work-short : length work < work_words t → Gives (run_call text log work out) (Err NoRoom) work out
        unfolding carried_out
        work-short h = gives (run_call text log work out) (Err NoRoom) work out (by-room ∙ rw (lt-leb (work_words t) (length work) h))

        -- too few words of output
        pub out-short : length out < 2 + 3 * length (firsts log) → Gives (run_call text log work out) (Err NoRoom) work out
        unfolding carried_out
        out-short h =
            gives (run_call text log work out) (Err NoRoom) work out
            (by-room ∙ rw (lt-leb (length (summary_of log)) (length out) (omega (arith, length-summary log)), and-false))

        module _ (deep : ℕ) (deepens : depth t ≡ deep) (levels : level_words * deep ≤ length work) (room : 2 + 3 * length (firsts log) ≤ length out) where
          -- the log's summary
          pub carried : run_call text log work out ≡ record { answer = Ok (length (summary_of log)); work = cleared (work_words t) work; out = fronted (summary_of log) out }
          unfolding carried_out
          carried = by-room ∙ rw (le-leb (work_words t) (length work) (omega arith), le-leb (length (summary_of log)) (length out) (omega (arith, length-summary log)))

          -- the plan is ready, with all its levels
          abbrev pub ready : Ready text 0 0 log 0 deep
          ready = record {
            plan = t;
            closes = 0;
            rest = [];
            stands = stands;
            deep = omega arith;
            covered = omega arith;
          }

          -- the words lent suffice
          pub roomy : Roomy text 0 0 log work out deep
          roomy = record {
            inside = omega arith;
            joins = let s = sound text t is in omega (arith, s.1.deep);
            within = within;
            levels = levels;
            room = room;
          }

          -- the plan is carried out, and its work words are cleared
          pub run-done : (words : ℕ) (w o w' : List ℕ) → words ≡ length (summary_of (span 0 (reads t) log)) → o ≡ fronted (summary_of (span 0 (reads t) log)) out
              → drop (level_words * deep) w ≡ drop (level_words * deep) work → w' ≡ cleared (level_words * deep) w → Gives (run_call text log work out) (Ok words) w' o
          unfolding cleared
          run-done words w o w' counted written kept c =
              let n : level_words * deep ≡ work_words t = omega arith in
              let l : span 0 (reads t) log ≡ log = take_all (reads t) log (omega arith) in
              let g = gives (run_call text log work out) (Ok (length (summary_of log))) (cleared (work_words t) work) (fronted (summary_of log) out) carried in (
                ap Ok (counted ∙ ap (λ (v : List ℕ). length (summary_of v)) l) ∙ g.0,
                (
                  c ∙ ap (λ (v : List ℕ). replicate (level_words * deep) 0 ++ v) kept ∙ ap (λ (k : ℕ). replicate k 0 ++ drop k work) n ∙ g.1.0,
                  written ∙ ap (λ (v : List ℕ). fronted (summary_of v) out) l ∙ g.1.1,
                ),
              )
