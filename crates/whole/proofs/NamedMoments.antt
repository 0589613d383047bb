-- Named moments: every list of calls, a return, and reads alone.
use Rattle.std.specs.Prelude.{Ok}
use mathlib.Core.Path.{◌≡◌, refl, sym, ap, ◌∙◌}
use Prim.Native.Nat.{ℕ}
use mathlib.Core.List.{List, [], ◌∷◌, ◌++◌, map}
use mathlib.Core.Bool.{true}
use lib.ListN.{length}
use Rattle.session.specs.declared.Session.{Session}
use Rattle.session.specs.Sessions.{fresh}
use Rattle.session.specs.Reads.{read_of}
use Rattle.session_traces.proofs.Stands.{fresh-stands}
use Rattle.moments.specs.Names.{is_name, lies}
use Rattle.whole.specs.Runs.{session_after, answers_of}
use Rattle.whole.specs.Owed.{owed}
use Rattle.whole.specs.Moments.{Call, read, name, return_to, reading, moment, heard, State, left, state_after, told_by, begun, Unset}
use Rattle.whole.specs.Remembered.{Moment, none, log, Memory, nothing, owed_for, then, remember, owed_by, remembered, spares}
use Rattle.whole.specs.NamedMoments.{HasLog, Remembers, coming_back, ComesBack, ReadsAlone}
use Rattle.whole.proofs.Moments.{Holds, run-answers, run-agrees, run-reads, run-within}
use Rattle.whole.proofs.Remembered.{remember-append, owed_by-append, reads-remember, reads_now, reads_owed, back-owed, back-now, owed-refusals, never-six}

-- what a name holds, by the reading of its log
has-log : (names : List ℕ) (k : ℕ) (o : Moment) → Holds names k o → HasLog names k o
has-log names k none h = h
has-log names k (log t) h = (h.0, h.1.same)

-- every run from a new session with no name set
pub remembers : (names : List ℕ) → Unset names → (calls : List Call) → Remembers names calls
remembers names unset calls = record {
  answers = run-answers names unset calls;
  refused = rw (run-answers names unset calls) (owed-refusals (length names) calls nothing);
  roomy = λ room. rw (run-answers names unset calls) (never-six (length names) room calls nothing);
  within = run-within names unset calls;
  session = (run-reads names unset calls).same;
  read_next = λ x. ap (λ (s : Session). reading (read_of s x).answer) (run-reads names unset calls).same;
  under = λ k. has-log (state_after (begun names) calls).names k ((remember (length names) nothing calls).under k) ((run-agrees names unset calls).moments k);
}

-- calls one after the other
after-append : (a b : List Call) (s : State) → state_after s (a ++ b) ≡ state_after (state_after s a) b
unfolding state_after
after-append [] b s = refl
after-append (c ∷ a) b s = after-append a b (left s c)

-- a call, and those after it
after_first : (s : State) (c : Call) (cs : List Call) → state_after s (c ∷ cs) ≡ state_after (left s c) cs
unfolding state_after
after_first s c cs = refl

-- a run of reads alone is the run of read calls
reads-after : (reads : List ℕ) (s : State) → state_after s (map read reads) ≡ record { session = session_after s.session reads; names = s.names }
unfolding state_after session_after
reads-after [] s = refl
reads-after (x ∷ xs) s = reads-after xs (left s (read x))

-- with its answers
reads-told : (reads : List ℕ) (s : State) → told_by s (map read reads) ≡ map reading (answers_of s.session reads)
unfolding told_by answers_of
reads-told [] s = refl
reads-told (x ∷ xs) s = rw (reads-told xs (left s (read x)))

-- and with what they are owed
owed_by-first : (lent : ℕ) (m : Memory) (c : Call) (cs : List Call) → owed_by lent m (c ∷ cs) ≡ owed_for lent m c ∷ owed_by lent (then lent m c) cs
unfolding owed_by
owed_by-first lent m c cs = refl

module _ (names : List ℕ) (unset : Unset names) (before : List Call) (k : ℕ) (is : is_name k ≡ true) (fits : lies (length names) k ≡ true) (between : List Call) (spared : spares k between ≡ true) (reads : List ℕ) where
  -- the words lent
  abbrev lent : ℕ
  lent = length names

  -- the calls up to the return
  abbrev first : List Call
  first = before ++ (name k ∷ between)

  -- what is remembered at the naming
  abbrev at-naming : Memory
  at-naming = remember lent nothing before

  -- and at the return
  abbrev at_return : Memory
  at_return = remember lent at-naming (name k ∷ between)

  -- by the calls up to the return
  reached : remember lent nothing first ≡ at_return
  reached = remember-append lent before (name k ∷ between) nothing

  -- the return and the reads are owed what they are after the log as it stood at naming
  owed-then : owed_by lent at_return (return_to k ∷ map read reads) ≡ moment (Ok tt) ∷ map reading (owed at-naming.now reads)
  owed-then =
      owed_by-first lent at_return (return_to k) (map read reads)
      ∙ rw (back-owed lent at-naming k is fits between spared, reads_owed lent reads (then lent at_return (return_to k)), back-now lent at-naming k is fits between spared)

  -- so they answer
  answers : map heard (told_by (begun names) (coming_back before k between reads))
      ≡ map heard (told_by (begun names) first) ++ (moment (Ok tt) ∷ map reading (owed (remembered lent before) reads))
  unfolding remembered
  answers =
      run-answers names unset (coming_back before k between reads)
      ∙ owed_by-append lent first (return_to k ∷ map read reads) nothing
      ∙ rw (reached, owed-then, ← run-answers names unset first)

  -- the log is that one, and then the reads accepted
  log-now : remembered lent (coming_back before k between reads) ≡ remembered lent (before ++ map read reads)
  unfolding remembered
  log-now =
      ap (λ (m : Memory). m.now) (remember-append lent first (return_to k ∷ map read reads) nothing)
      ∙ rw reached (unfold remember in reads_now lent reads (then lent at_return (return_to k)) at-naming (back-now lent at-naming k is fits between spared))
      ∙ sym (ap (λ (m : Memory). m.now) (remember-append lent before (map read reads) nothing))

  -- no name is forgotten
  names-kept : (state_after (begun names) (coming_back before k between reads)).names ≡ (state_after (begun names) first).names
  names-kept =
      ap (λ (s : State). s.names)
      (after-append first (return_to k ∷ map read reads) (begun names)
      ∙ after_first (state_after (begun names) first) (return_to k) (map read reads)
      ∙ reads-after reads (left (state_after (begun names) first) (return_to k)))

  -- what holds after a return
  pub comes_back : ComesBack names before k between reads
  comes_back = record { answers = answers; log-now = log-now; names-kept = names-kept }

-- reads alone, whatever words are lent for names
pub reads-alone : (names reads : List ℕ) → ReadsAlone names reads
unfolding remembered
reads-alone names reads = record {
  answers = reads-told reads (begun names);
  session = ap (λ (s : State). s.session) (reads-after reads (begun names));
  words = ap (λ (s : State). s.names) (reads-after reads (begun names));
  log-now = ap (λ (m : Memory). m.now) (reads-remember (length names) reads fresh [] (λ k. none) fresh-stands);
}
