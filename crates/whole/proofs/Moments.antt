-- Every run of calls from a new session with no name set: what it answers, and what its session and its names stand for.
use Rattle.std.specs.Prelude.{Ok, Err}
use Rattle.reuse.specs.declared.refusals.Refusal.TheVariants.{OutOfRange, NoRoom}
use mathlib.Core.Path.{◌≡◌, refl, ap, ◌∙◌}
use Prim.Native.Nat.{ℕ}
use mathlib.Core.List.{List, [], ◌∷◌, map}
use mathlib.Core.Bool.{Bool, true, false, cond}
use lib.Dec.{eqb}
use lib.ListN.{length}
use borrow.Author.Tests.{eqb-true, eqb-false}
use Rattle.reuse.specs.Traces.{Within}
use Rattle.session.specs.declared.Session.{Session}
use Rattle.session.specs.Sessions.{fresh, sound}
use Rattle.session.specs.Reads.{read_of}
use Rattle.session_traces.proofs.Stands.{Stands, fresh-stands}
use Rattle.moments.specs.declared.Returned.{Returned}
use Rattle.moments.specs.Names.{is_name, lies, is_set, session_under, named_in, Named, name_call, return_call}
use Rattle.moments.proofs.Places.{set-name, named-length, named_set, named-session, other-set, other-session}
use Rattle.moments.proofs.Calls.{name-not, name-short, name_done, return-not, return-unset, return-done}
use Rattle.whole.specs.Runs.{session_after}
use Rattle.whole.specs.Owed.{read_owed, grown}
use Rattle.whole.specs.Moments.{Call, read, name, return_to, reading, moment, heard, State, told, left, state_after, told_by, begun, Unset}
use Rattle.whole.specs.Remembered.{Moment, none, log, Memory, nothing, noted, moment_owed, brought_back, owed_for, then, remember, owed_by, remembered}
use Rattle.whole.proofs.Calls.{stands-within, read-owed, read-grown, read-after}

-- s is the session that reading the log t from a new one leaves, and it stands for t
pub record HasRead (s : Session) (t : List ℕ) : Type 0 where
  pub same : s ≡ session_after fresh t
  pub stands : Stands s t

-- a new session has read nothing
fresh-read : HasRead fresh []
unfolding session_after
fresh-read = record { same = refl; stands = fresh-stands }

-- a read leaves the session that has read the log as it grows
reads_on : (s : Session) (t : List ℕ) → HasRead s t → (x : ℕ) → HasRead (read_of s x).session (grown (read_owed t x) t x)
reads_on s t r x = record { same = read-after s t r.stands x r.same; stands = read-grown s t r.stands x }

-- what name k has in the words: nothing, or a session that has read the log
abbrev pub Holds : List ℕ → ℕ → Moment → Type 0
Holds names k none = is_set names k ≡ false
Holds names k (log t) = (is_set names k ≡ true) × HasRead (session_under names k) t

-- a session and the words of the names hold what is remembered
pub record Agrees (lent : ℕ) (s : State) (m : Memory) : Type 0 where
  pub present : HasRead s.session m.now
  pub words : length s.names ≡ lent
  pub moments : (k : ℕ) → Holds s.names k (m.under k)

module _ (lent : ℕ) (s : State) (m : Memory) (a : Agrees lent s m) where
  -- the present session is sound
  sound-now : sound s.session ≡ true
  sound-now = a.present.stands.is-sound

  module _ (k : ℕ) (is : is_name k ≡ true) where
    -- a naming with room for the place
    naming : lies lent k ≡ true → name_call s.session s.names k ≡ record { answer = Ok tt; names = named_in s.names k s.session }
    naming e = name_done s.session s.names k is sound-now (rw a.words e)

    -- a return to a name that remembers a log
    returning : (t : List ℕ) → m.under k ≡ log t → return_call s.session s.names k ≡ record { session = session_under s.names k; answer = Ok tt }
    returning t e =
        let h : Holds s.names k (log t) = rw e at (a.moments k) in
        return-done s.session s.names k is h.0 h.1.stands.is-sound

    -- a return to one that remembers nothing
    unset : m.under k ≡ none → is_set s.names k ≡ false
    unset e = let h : Holds s.names k none = rw e at (a.moments k) in h

    -- what the names hold after a naming
    named-holds : lies lent k ≡ true → (j : ℕ) (b : Bool) → eqb j k ≡ b
        → Holds (named_in s.names k s.session) j (cond b (log m.now) (m.under j))
    named-holds fits j true e =
        let w = a.present.stands.wide in
        let f : lies (length s.names) k ≡ true = rw a.words fits in
        rw (eqb-true j k e)
        (named_set s.names k is f s.session w, rw (named-session s.names k is f s.session w) a.present)
    named-holds fits j false e = by (m.under j) (a.moments j)
      where
        -- there is room for the place
        f : lies (length s.names) k ≡ true
        f = rw a.words fits

        -- the other names are set where they were
        same : is_set (named_in s.names k s.session) j ≡ is_set s.names j
        same = other-set s.names k is f s.session a.present.stands.wide j (eqb-false j k e)

        -- by what the name remembers
        by : (o : Moment) → Holds s.names j o → Holds (named_in s.names k s.session) j o
        by none h = same ∙ h
        by (log t) h = (
          same ∙ h.0,
          rw (other-session s.names k is f s.session a.present.stands.wide j (eqb-false j k e) (set-name s.names j h.0)) h.1,
        )

  -- a naming, by whether the number is a name and there is room for its place
  name-told : (k : ℕ) (b : Bool) → is_name k ≡ b → (c : Bool) → lies lent k ≡ c
      → (name_call s.session s.names k).answer ≡ cond b (cond c (Ok tt) (Err NoRoom)) (Err OutOfRange)
  name-told k true e true f = ap (λ (n : Named). n.answer) (naming k e f)
  name-told k true e false f = ap (λ (n : Named). n.answer) (name-short s.session s.names k e sound-now (rw a.words f))
  name-told k false e c f = ap (λ (n : Named). n.answer) (name-not s.session s.names k e)

  -- a return, by whether the number is a name and what it remembers
  return-told : (k : ℕ) (b : Bool) → is_name k ≡ b → (o : Moment) → m.under k ≡ o
      → (return_call s.session s.names k).answer ≡ cond b (moment_owed o) (Err OutOfRange)
  return-told k true e none q = ap (λ (r : Returned). r.answer) (return-unset s.session s.names k e (unset k e q))
  return-told k true e (log t) q = ap (λ (r : Returned). r.answer) (returning k e t q)
  return-told k false e o q = ap (λ (r : Returned). r.answer) (return-not s.session s.names k e)

  -- a call answers what is owed
  told-owed : (c : Call) → heard (told s c) ≡ owed_for lent m c
  told-owed (read x) = ap reading (read-owed s.session m.now a.present.stands x)
  told-owed (name k) = ap moment (name-told k (is_name k) refl (lies lent k) refl)
  told-owed (return_to k) = ap moment (return-told k (is_name k) refl (m.under k) refl)

  -- a naming leaves words that hold what is remembered
  name-left : (k : ℕ) (b : Bool) → is_name k ≡ b → (c : Bool) → lies lent k ≡ c
      → Agrees lent (record { session = s.session; names = (name_call s.session s.names k).names })
      (record { now = m.now; under = noted (cond b (cond c (Ok tt) (Err NoRoom)) (Err OutOfRange)) m k })
  name-left k true e true f =
      rw (naming k e f)
      (record {
        present = a.present;
        words = named-length s.names k e (rw a.words f) s.session a.present.stands.wide ∙ a.words;
        moments = λ j. named-holds k e f j (eqb j k) refl;
      })
  name-left k true e false f = rw (name-short s.session s.names k e sound-now (rw a.words f)) a
  name-left k false e c f = rw (name-not s.session s.names k e) a

  -- a return leaves the session remembered
  return-left : (k : ℕ) (b : Bool) → is_name k ≡ b → (o : Moment) → m.under k ≡ o
      → Agrees lent (record { session = (return_call s.session s.names k).session; names = s.names })
      (record { now = cond b (brought_back o m.now) m.now; under = m.under })
  return-left k true e none q = rw (return-unset s.session s.names k e (unset k e q)) a
  return-left k true e (log t) q =
      let h : Holds s.names k (log t) = rw q at (a.moments k) in
      rw (returning k e t q) (record { present = h.1; words = a.words; moments = a.moments })
  return-left k false e o q = rw (return-not s.session s.names k e) a

  -- a call leaves what is remembered after it
  pub left-agrees : (c : Call) → Agrees lent (left s c) (then lent m c)
  left-agrees (read x) = record { present = reads_on s.session m.now a.present x; words = a.words; moments = a.moments }
  left-agrees (name k) = name-left k (is_name k) refl (lies lent k) refl
  left-agrees (return_to k) = return-left k (is_name k) refl (m.under k) refl

-- a list of calls answers what is owed
told_by-owed : (lent : ℕ) (calls : List Call) (s : State) (m : Memory) → Agrees lent s m → map heard (told_by s calls) ≡ owed_by lent m calls
unfolding told_by owed_by
told_by-owed lent [] s m a = refl
told_by-owed lent (c ∷ cs) s m a = rw (told-owed lent s m a c, told_by-owed lent cs (left s c) (then lent m c) (left-agrees lent s m a c))

-- and leaves what is remembered
after-agrees : (lent : ℕ) (calls : List Call) (s : State) (m : Memory) → Agrees lent s m → Agrees lent (state_after s calls) (remember lent m calls)
unfolding state_after remember
after-agrees lent [] s m a = a
after-agrees lent (c ∷ cs) s m a = after-agrees lent cs (left s c) (then lent m c) (left-agrees lent s m a c)

-- from a new session, with words in which no name is set
module _ (names : List ℕ) (clear : Unset names) where
  pub begun-agrees : Agrees (length names) (begun names) nothing
  begun-agrees = record { present = fresh-read; words = refl; moments = clear }

  module _ (calls : List Call) where
    -- each call answers what is owed of the remembered logs
    pub run-answers : map heard (told_by (begun names) calls) ≡ owed_by (length names) nothing calls
    run-answers = told_by-owed (length names) calls (begun names) nothing begun-agrees

    -- the session and the names hold what is remembered
    pub run-agrees : Agrees (length names) (state_after (begun names) calls) (remember (length names) nothing calls)
    run-agrees = after-agrees (length names) calls (begun names) nothing begun-agrees

    -- the session is the one that reading the remembered log leaves, and stands for it
    pub run-reads : HasRead (state_after (begun names) calls).session (remembered (length names) calls)
    unfolding remembered
    run-reads = run-agrees.present

    -- the remembered log is within the limits
    pub run-within : Within (remembered (length names) calls)
    run-within = stands-within (state_after (begun names) calls).session (remembered (length names) calls) run-reads.stands
