-- Every call that writes words writes no more than the buffer has, and so no more than a signed number holds.
use Rattle.std.specs.Prelude.{Result}
use Rattle.reuse.specs.declared.refusals.Refusal.{Refusal}
use mathlib.Core.Path.{◌≡◌, refl}
use Prim.Native.Nat.{ℕ, ◌+◌, ◌≤◌}
use native.Mathlib.Omega.{arith}
use mathlib.Core.List.{List, ◌++◌}
use mathlib.Core.Bool.{Bool, true, false, cond, ◌&&◌, false≢true}
use lib.Dec.{eqb, leb}
use lib.ListN.{length}
use borrow.Author.Tests.{leb-true}
use Rattle.reuse.specs.Limits.{max_reads, max_extents}
use Rattle.reuse.specs.Lists.{firsts}
use Rattle.reuse.specs.Summary.{well_formed, reads_of, first_of, joined_first, summary_of}
use Rattle.summary_calls.specs.Calls.{Wrote, wrote, trace_call, join_call}
use Rattle.after.specs.Calls.{after_call}
use Rattle.session_calls.specs.Sessions as full
use Rattle.session_calls.specs.Summaries as full-calls
use Rattle.session.specs.Sessions.{old_of, sound}
use Rattle.session_summary.specs.Summaries.{summary_call}
use Rattle.texts.specs.Lines.{Read, got, refused as faulty}
use Rattle.texts.specs.Logs.{log_of}
use Rattle.texts.specs.Plans.{Plan, reads}
use Rattle.texts.specs.PlanTexts.{plan_of}
use Rattle.plan_calls.specs.Calls.{Ran, work_words, carried_out, plan_call, run_by, run_call}
use Rattle.listing_memory.specs.Calls.{list_by, list_call}
use Rattle.session_layout.specs.Layout.{session_length, session_in}
use Rattle.session_words.specs.Calls.{new_session, summary_in}
use Rattle.watch_words.specs.Calls.{new_watch}
use Rattle.moments.specs.Names.{new_names}
use Rattle.capi_answers.specs.Answers.{most_signed, Small}

-- by a test of what has an answer: small where it holds, and small where it does not
small-if : {A : Type 0} (answer : A → Result ℕ Refusal) (b : Bool) (x y : A) → (b ≡ true → Small (answer x)) → Small (answer y) → Small (answer (cond b x y))
small-if answer true x y h k = h refl
small-if answer false x y h k = k

-- the answers of calls that write words, and of plans
abbrev words_of : Wrote → Result ℕ Refusal
words_of v = v.answer

abbrev ran_of : Ran → Result ℕ Refusal
ran_of v = v.answer

-- the second of two tests that both hold
second : (a b : Bool) → a && b ≡ true → b ≡ true
second true b e = e
second false b e = absurd (false≢true e)

module _ (buffer : List ℕ) (room : length buffer ≤ most_signed) where
  -- the words fit the buffer, or none is written
  small-wrote : (w : List ℕ) → Small (wrote w buffer).answer
  unfolding wrote
  small-wrote w =
      small-if words_of (leb (length w) (length buffer)) _ _ (λ h. omega (arith, leb-true (length w) (length buffer) h)) tt

  -- the summary of a trace
  pub small-trace : (t : List ℕ) → Small (trace_call t buffer).answer
  unfolding trace_call
  small-trace t =
      small-if words_of (leb (length t) max_reads) _ _
      (λ _. small-if words_of (leb (length (firsts t)) max_extents) _ _ (λ _. small-wrote _) tt)
      tt

  -- the join
  pub small-join : (a b : List ℕ) → Small (join_call a b buffer).answer
  unfolding join_call
  small-join a b =
      small-if words_of (well_formed a) _ _
      (λ _. small-if words_of (well_formed b) _ _
      (λ _. small-if words_of (leb (reads_of a + reads_of b) max_reads) _ _
      (λ _. small-if words_of (leb (length (joined_first a b)) max_extents) _ _ (λ _. small-wrote _) tt)
      tt)
      tt)
      tt

  -- the distances after a prefix
  pub small-after : (prefix t : List ℕ) → Small (after_call prefix t buffer).answer
  unfolding after_call
  small-after prefix t =
      small-if words_of (well_formed prefix) _ _
      (λ _. small-if words_of (leb (reads_of prefix + length t) max_reads) _ _
      (λ _. small-if words_of (leb (length (firsts (first_of prefix ++ t))) max_extents) _ _
      (λ _. small-wrote _)
      tt)
      tt)
      tt

  -- a plan on a log
  small-plan : (t : Plan) (log work : List ℕ) → Small (plan_call t log work buffer).answer
  unfolding plan_call carried_out
  small-plan t log work =
      small-if ran_of (eqb (reads t) (length log)) _ _
      (λ _. small-if ran_of (leb (length log) max_reads) _ _
      (λ _. small-if ran_of (leb (length (firsts log)) max_extents) _ _
      (λ _. small-if ran_of (leb (work_words t) (length work) && leb (length (summary_of log)) (length buffer)) _ _
      (λ h. omega (arith, leb-true (length (summary_of log)) (length buffer) (second (leb (work_words t) (length work)) (leb (length (summary_of log)) (length buffer)) h)))
      tt)
      tt)
      tt)
      tt

  -- by a plan text's answer
  small_by : (p : Read Plan) (log work : List ℕ) → Small (run_by p log work buffer).answer
  small_by (got t) log work = small-plan t log work
  small_by (faulty line n) log work = tt

  -- a plan text on a log
  pub small-run : (text log work : List ℕ) → Small (run_call text log work buffer).answer
  unfolding run_call
  small-run text log work = small_by (plan_of text) log work

  -- by a log text's answer
  small-listed : (r : Read (List ℕ)) → Small (list_by r buffer).answer
  small-listed (got t) = small-wrote _
  small-listed (faulty line n) = tt

  -- the listing of a text
  pub small-list : (text : List ℕ) → Small (list_call text buffer).answer
  unfolding list_call
  small-list text = small-listed (log_of text)

  -- a new session, and a new watch
  pub small-session : Small (new_session buffer).answer
  unfolding new_session
  small-session = small-wrote _

  pub small-watch : (size : ℕ) → Small (new_watch size buffer).answer
  unfolding new_watch
  small-watch size = small-wrote _

  -- words in which no name is set
  pub small-names : Small (new_names buffer).answer
  unfolding new_names
  small-names = small-wrote _

  -- the summary of a session in words
  pub small-summary : (w : List ℕ) → Small (summary_in w buffer).answer
  unfolding summary_in summary_call full-calls.summary_call
  small-summary w =
      small-if words_of (leb session_length (length w)) _ _
      (λ _. small-if words_of (sound (session_in w)) _ _ (λ _. small-if words_of (full.sound (old_of (session_in w))) _ _ (λ _. small-wrote _) tt) tt)
      tt
