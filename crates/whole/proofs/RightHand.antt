-- The new session and the old one: each sound old session has one new one, and all calls of the two agree.
use Rattle.summary_calls.specs.declared.HitShare.{HitShare}
use Rattle.std.specs.Prelude.{Result, Ok, Err}
use Rattle.reuse.specs.declared.refusals.Refusal.{Refusal}
use Rattle.reuse.specs.declared.refusals.Refusal.TheVariants.{Unsound, TooManyReads, TooManyExtents}
use Rattle.reuse.specs.Refusals.{refusal_number}
use Prim.Native.Nat.{ℕ}
use mathlib.Core.Path.{◌≡◌, refl, sym, ap, ◌∙◌}
use mathlib.Core.Logic.{◌↔◌, ◌≢◌}
use mathlib.Core.Bool.{Bool, true, false, cond}
use mathlib.Core.List.{List, [], ◌∷◌}
use native.Mathlib.Omega.{arith}
use lib.Dec.{eqb, leb}
use lib.ListN.{length}
use Rattle.reuse.specs.Lru.{Reuse, cold, at, depth}
use Rattle.reuse.specs.Limits.{max_reads, levels}
use Rattle.summary_calls.specs.Calls.{wrote, share_at}
use Rattle.reuse.specs.Summary.{misses_of}
use Rattle.session_rights.specs.Rights.{marks_from, zero_one, Gives}
use Rattle.session_calls.specs.declared.Answer.{Answer}
use Rattle.session_calls.specs.declared.Answer.TheVariants.{Cold, Distance}
use Rattle.session_calls.specs.Sessions as full
use Rattle.session_calls.specs.Sessions.{FullSession}
use Rattle.session_calls.specs.Reads as full-reads
use Rattle.session_calls.specs.Reads.{FullStep}
use Rattle.session_calls.specs.Summaries as full-calls
use Rattle.session.specs.declared.Session.{Session}
use Rattle.session.specs.Sessions.{Wide, new_of, old_of, sound}
use Rattle.session.specs.Reads.{roomed, read_of}
use Rattle.session_summary.specs.Summaries.{summary_call, misses_call, share_call}
use Rattle.moments.specs.Names.{is_name, lies, is_set, session_under, Named}
use Rattle.whole.specs.Runs.{session_after, answers_of}
use Rattle.whole.specs.Looks.{looked_along}
use Rattle.whole.specs.RightHand.{SoundFull, SoundNew, HasOld, full_after, full_answers, full_looked, StandsUnder, Corresponds, Tested, RightHand}
use Rattle.reuse.proofs.Lists.{by-test}
use Rattle.session_rights.proofs.Rights.{rightly-exactly}
use Rattle.session_marks.proofs.Marks.{row-zero-one}
use Rattle.session_calls.proofs.Sound.{Sound, true-sound, fresh_kept, kept-wide, fresh-sound}
use Rattle.session_calls.proofs.Taken.{kept-roomed}
use Rattle.session_calls.proofs.Read as old
use Rattle.session.proofs.Corresponds.{sound-facts, old-new, one-old, new-old, old-sound, new-wide, new-sound, fresh-new, read-new}
use Rattle.moments.proofs.Calls.{name_done, return-done}
use Rattle.moments.proofs.Places.{named_set, named-session, other-set, other-session, set-name}

-- the facts of a sound old session
facts : (o : FullSession) → SoundFull o → Sound o
facts o h = true-sound o h.wide h.is-sound

-- its new session is sound
sound-new : (o : FullSession) → SoundFull o → SoundNew (new_of o)
sound-new o h = let f = facts o h in record { wide = new-wide o f.kept; is-sound = new-sound o f.kept f.short }

-- it is sound after a read
reads-sound : (o : FullSession) → SoundFull o → (x : ℕ) → SoundFull (full-reads.read_of o x).session
reads-sound o h x = record { wide = old.read_wide o h.wide h.is-sound x; is-sound = old.read-sound o h.wide h.is-sound x }

-- a list of reads answers the same, and leads to sessions that correspond
runs : (xs : List ℕ) (o : FullSession) → SoundFull o → (answers_of (new_of o) xs ≡ full_answers o xs) × (session_after (new_of o) xs ≡ new_of (full_after o xs))
unfolding answers_of session_after full_answers full_after
runs [] o h = (refl, refl)
runs (x ∷ xs) o h =
    let e = read-new o h.wide h.is-sound x in
    let r = runs xs (full-reads.read_of o x).session (reads-sound o h x) in
    (rw (e, r.0), rw (e, r.1))

-- with room it corresponds to the old one with room
roomed-new : (o : FullSession) → SoundFull o → old_of (roomed (new_of o)) ≡ full-reads.roomed o
unfolding roomed
roomed-new o h =
    let k = (facts o h).kept in
    ap (λ (r : FullSession). old_of (new_of (full-reads.roomed r))) (old-new o k) ∙ old-new (full-reads.roomed o) (kept-roomed o k).kept

-- each read of a list looks at the same slots
looked : (xs : List ℕ) (o : FullSession) → SoundFull o → looked_along (new_of o) xs ≡ full_looked o xs
unfolding looked_along full_looked
looked [] o h = refl
looked (x ∷ xs) o h =
    let e = read-new o h.wide h.is-sound x in
    let here = ap (λ (r : FullSession). full-reads.looked_at r x) (roomed-new o h) in
    rw (here, e, looked xs (full-reads.read_of o x).session (reads-sound o h x))

-- a naming of a sound session
naming : (s : Session) → SoundNew s → (names : List ℕ) (k : ℕ) → is_name k ≡ true → lies (length names) k ≡ true → StandsUnder s names k
naming s h names k is fits =
    let e = name_done s names k is h.is-sound fits in
    let n = ap (λ (r : Named). r.names) e in
    record {
      done = ap (λ (r : Named). r.answer) e;
      is-set = ap (λ (w : List ℕ). is_set w k) n ∙ named_set names k is fits s h.wide;
      same = ap (λ (w : List ℕ). session_under w k) n ∙ named-session names k is fits s h.wide;
      others-set = λ j d. ap (λ (w : List ℕ). is_set w j) n ∙ other-set names k is fits s h.wide j d;
      others_same = λ j d set. ap (λ (w : List ℕ). session_under w j) n ∙ other-session names k is fits s h.wide j d (set-name names j set);
    }

-- the old new session is sound
pub fresh-full : SoundFull full.fresh
fresh-full = record { wide = kept-wide full.fresh fresh_kept; is-sound = fresh-sound }

-- of every sound old session
pub corresponds : (o : FullSession) → SoundFull o → Corresponds o
corresponds o h =
    let f = facts o h in
    let n = sound-new o h in
    let back = old-new o f.kept in
    record {
      new-sound = n;
      only = λ p q e. one-old p o (facts p q).kept f.kept e;
      reads = λ x. read-new o h.wide h.is-sound x;
      reads-sound = reads-sound o h;
      answers = λ xs. (runs xs o h).0;
      after = λ xs. (runs xs o h).1;
      looked = λ xs. looked xs o h;
      summaries = λ buffer. unfold summary_call in rw (n.is-sound, back);
      misses = λ c. unfold misses_call in rw (n.is-sound, back);
      shares = λ c. unfold share_call in rw (n.is-sound, back);
      named = naming (new_of o) n;
      returned = λ s names k is set e. return-done s names k is set (ap sound e ∙ n.is-sound) ∙ rw e;
    }

-- the number of a read's refusal, 0 where it is none
abbrev read_number : Result Answer Refusal → ℕ
read_number (Ok (Cold n k)) = 0
read_number (Ok (Distance d n k)) = 0
read_number (Err why) = refusal_number why

-- of a call that writes words, or of misses
abbrev count_number : Result ℕ Refusal → ℕ
count_number (Ok n) = 0
count_number (Err why) = refusal_number why

-- of a share
abbrev share_number : Result HitShare Refusal → ℕ
share_number (Ok s) = 0
share_number (Err why) = refusal_number why

-- an accepted read is not refused
step-number : (o : FullSession) (x : ℕ) (r : Reuse) → read_number (full-reads.step_at o x r).answer ≡ 0
step-number o x (cold n) = refl
step-number o x (at d) = refl

-- a sound old session refuses no read with 7
read_number_lem : (o : FullSession) → full.sound o ≡ true → (x : ℕ) → read_number (full-reads.read_of o x).answer ≢ 7
unfolding full-reads.read_of full-reads.taken
read_number_lem o ok x =
    rw ok
    (by (eqb o.reads max_reads) (full-reads.too_many o x) (full-reads.step_at (full-reads.roomed o) x (depth (full.stack_of (full-reads.roomed o)) x))
    (step-number (full-reads.roomed o) x (depth (full.stack_of (full-reads.roomed o)) x)))
  where
    -- by the two conditions
    by : (c d : Bool) (r : FullStep) → read_number r.answer ≡ 0
        → read_number (cond c (full-reads.refused o TooManyReads) (cond d (full-reads.refused o TooManyExtents) r)).answer ≢ 7
    by true d r e = λ q. omega arith
    by false true r e = λ q. omega arith
    by false false r e = λ q. omega (arith, e, q)

-- words are written, or there are too few for them
wrote-number : (w buffer : List ℕ) → count_number (wrote w buffer).answer ≢ 7
unfolding wrote
wrote-number w buffer = by-test (leb (length w) (length buffer)) (λ t. rw t (λ q. omega arith)) (λ f. rw f (λ q. omega arith))

-- of every session
module _ (s : Session) (w : Wide s) where
  -- a sound session has an old one
  to-old : sound s ≡ true → HasOld s
  to-old ok =
      let f = sound-facts s w ok in
      let p = old-sound s f in
      (old_of s, record { wide = p.0; is-sound = p.1 }, new-old s f)

  -- and what has one is sound
  from_old : HasOld s → sound s ≡ true
  from_old (o, h, e) = ap sound (sym e) ∙ (sound-new o h).is-sound

  -- what has none is not
  none_old : (HasOld s → ⊥) → sound s ≡ false
  none_old n = by-test (sound s) (λ t. absurd (n (to-old t))) (λ f. f)

  -- the old session of a sound one is sound
  ok-old : sound s ≡ true → full.sound (old_of s) ≡ true
  ok-old ok = (old-sound s (sound-facts s w ok)).1

  -- a call that is refused exactly where the session is not sound is refused exactly where it corresponds to none
  seven : {A : Type 0} (result given refusal : A) → (sound s ≡ true → result ≡ given) → (sound s ≡ false → result ≡ refusal) → (sound s ≡ true → given ≢ refusal)
      → (result ≡ refusal) ↔ (HasOld s → ⊥)
  seven result given refusal one other apart = (
    λ e h. let ok = from_old h in apart ok (sym (one ok) ∙ e),
    λ n. other (none_old n),
  )

  -- marks give the count and the right-hand sums of a session that corresponds to one
  no-marks : ((marks : List ℕ) → Gives levels s.count s.rights marks → zero_one marks ≡ true → ⊥) → HasOld s → ⊥
  no-marks none h =
      let f = sound-facts s w (from_old h) in
      none (marks_from levels s.count s.rights) f.given (row-zero-one f.sound.rows.row)

  -- sound or not
  pub tested : Tested s
  tested = record {
    exactly = (to-old, from_old);
    seven-read = λ x.
        seven (read_of s x).answer (full-reads.read_of (old_of s) x).answer (Err Unsound)
        (λ ok. unfold read_of in rw ok) (λ bad. unfold read_of in rw bad)
        (λ ok e. read_number_lem (old_of s) (ok-old ok) x (ap read_number e));
    seven-summary = λ buffer.
        seven (summary_call s buffer).answer (wrote (full-calls.session_words (old_of s)) buffer).answer (Err Unsound)
        (λ ok. unfold summary_call full-calls.summary_call in rw (ok, ok-old ok)) (λ bad. unfold summary_call in rw bad)
        (λ ok e. wrote-number (full-calls.session_words (old_of s)) buffer (ap count_number e));
    seven-misses = λ c.
        seven (misses_call s c) (Ok (misses_of (full-calls.session_words (old_of s)) c)) (Err Unsound)
        (λ ok. unfold misses_call full-calls.misses_call in rw (ok, ok-old ok)) (λ bad. unfold misses_call in rw bad)
        (λ ok e. let q : ◌≡◌ {A = ℕ} 0 7 = ap count_number e in omega arith);
    seven-share = λ c.
        seven (share_call s c) (Ok (share_at (full-calls.session_words (old_of s)) c)) (Err Unsound)
        (λ ok. unfold share_call full-calls.share_call in rw (ok, ok-old ok)) (λ bad. unfold share_call in rw bad)
        (λ ok e. let q : ◌≡◌ {A = ℕ} 0 7 = ap share_number e in omega arith);
    rightly-exactly = rightly-exactly levels s.count s.rights (omega (arith, w.rights-wide));
    no-marks = no-marks;
  }

-- the two sessions
pub right-hand : RightHand
right-hand = record {
  new-fresh = fresh-new;
  old-fresh = fresh-full;
  corresponds = corresponds;
  tested = tested;
}
