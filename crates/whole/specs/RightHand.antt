-- The session that keeps right-hand sums alone and the one with all sums (02, 'Keep right-hand sums alone'): the new and the old.
use Rattle.std.specs.Prelude.{ℕ, ◌≡◌, ◌↔◌, ◌≢◌, true, List, [], ◌∷◌, length, Result, Ok, Err}
use Rattle.reuse.specs.declared.refusals.Refusal.{Refusal}
use Rattle.reuse.specs.declared.refusals.Refusal.TheVariants.{Unsound}
use Rattle.reuse.specs.Limits.{levels}
use Rattle.session_rights.specs.Rights.{zero_one, rightly, Gives}
use Rattle.session_calls.specs.declared.Answer.{Answer}
use Rattle.session_calls.specs.Sessions as full
use Rattle.session_calls.specs.Sessions.{FullSession, FullWide}
use Rattle.session_calls.specs.Reads as full-reads
use Rattle.session_calls.specs.Summaries as full-calls
use Rattle.session.specs.declared.Session.{Session}
use Rattle.session.specs.Sessions.{Wide, new_of, fresh, sound}
use Rattle.session.specs.Reads.{new_step, read_of}
use Rattle.session_summary.specs.Summaries.{summary_call, misses_call, share_call}
use Rattle.moments.specs.Names.{is_name, lies, is_set, session_under, name_call, return_call}
use Rattle.whole.specs.Runs.{session_after, answers_of}
use Rattle.whole.specs.Looks.{looked_along}

-- an old session that is sound
pub record SoundFull (o : FullSession) : Type 0 where
  pub wide : FullWide o
  pub is-sound : full.sound o ≡ true

-- a new one that is
pub record SoundNew (s : Session) : Type 0 where
  pub wide : Wide s
  pub is-sound : sound s ≡ true

-- s corresponds to some sound old session
abbrev pub HasOld : Session → Type 0
HasOld s = (o : FullSession) × SoundFull o × (new_of o ≡ s)

-- the old session after a list of read calls
unfoldable pub full_after : FullSession → List ℕ → FullSession
full_after o [] = o
full_after o (x ∷ xs) = full_after (full-reads.read_of o x).session xs

-- what it answers to them
unfoldable pub full_answers : FullSession → List ℕ → List (Result Answer Refusal)
full_answers o [] = []
full_answers o (x ∷ xs) = (full-reads.read_of o x).answer ∷ full_answers (full-reads.read_of o x).session xs

-- and the slots that each of them looks at
unfoldable pub full_looked : FullSession → List ℕ → List (List ℕ)
full_looked o [] = []
full_looked o (x ∷ xs) = full-reads.looked_at (full-reads.roomed o) x ∷ full_looked (full-reads.read_of o x).session xs

-- a naming of the session s under k, in words with room for its place: it stands under k, and each other name has what it had
pub record StandsUnder (s : Session) (names : List ℕ) (k : ℕ) : Type 0 where
  pub done : (name_call s names k).answer ≡ Ok tt
  pub is-set : is_set (name_call s names k).names k ≡ true
  pub same : session_under (name_call s names k).names k ≡ s
  pub others-set : (j : ℕ) → j ≢ k → is_set (name_call s names k).names j ≡ is_set names j
  pub others_same : (j : ℕ) → j ≢ k → is_set names j ≡ true → session_under (name_call s names k).names j ≡ session_under names j

-- what holds of every sound old session
pub record Corresponds (o : FullSession) : Type 0 where
  -- its new session is sound, and no other sound old session has it
  pub new-sound : SoundNew (new_of o)
  pub only : (p : FullSession) → SoundFull p → new_of p ≡ new_of o → p ≡ o
  -- a read answers the same, with its sums read, its slots looked at and its number, or its refusal, and leads to sessions that
  -- correspond, the old one sound again
  pub reads : (x : ℕ) → read_of (new_of o) x ≡ new_step (full-reads.read_of o x)
  pub reads-sound : (x : ℕ) → SoundFull (full-reads.read_of o x).session
  -- so does a list of reads
  pub answers : (xs : List ℕ) → answers_of (new_of o) xs ≡ full_answers o xs
  pub after : (xs : List ℕ) → session_after (new_of o) xs ≡ new_of (full_after o xs)
  -- and it looks at the same slots
  pub looked : (xs : List ℕ) → looked_along (new_of o) xs ≡ full_looked o xs
  -- summary, misses and share are the same
  pub summaries : (buffer : List ℕ) → summary_call (new_of o) buffer ≡ full-calls.summary_call o buffer
  pub misses : (c : ℕ) → misses_call (new_of o) c ≡ full-calls.misses_call o c
  pub shares : (c : ℕ) → share_call (new_of o) c ≡ full-calls.share_call o c
  -- named, the session that corresponds stands under the name; a return brings it back, whatever the present session is
  pub named : (names : List ℕ) (k : ℕ) → is_name k ≡ true → lies (length names) k ≡ true → StandsUnder (new_of o) names k
  pub returned : (s : Session) (names : List ℕ) (k : ℕ) → is_name k ≡ true → is_set names k ≡ true → session_under names k ≡ new_of o
      → return_call s names k ≡ record { session = new_of o; answer = Ok tt }

-- what holds of every session
pub record Tested (s : Session) : Type 0 where
  -- it is sound exactly if it corresponds to some sound old session
  pub exactly : sound s ≡ true ↔ HasOld s
  -- a read is refused with 7 exactly if it corresponds to none, and so are summary, misses and share
  pub seven-read : (x : ℕ) → (read_of s x).answer ≡ Err Unsound ↔ (HasOld s → ⊥)
  pub seven-summary : (buffer : List ℕ) → (summary_call s buffer).answer ≡ Err Unsound ↔ (HasOld s → ⊥)
  pub seven-misses : (c : ℕ) → misses_call s c ≡ Err Unsound ↔ (HasOld s → ⊥)
  pub seven-share : (c : ℕ) → share_call s c ≡ Err Unsound ↔ (HasOld s → ⊥)
  -- the test of its count and its right-hand sums is true exactly if some marks, each 0 or 1, give them
  pub rightly-exactly : rightly levels s.count s.rights ≡ true ↔ ((marks : List ℕ) × Gives levels s.count s.rights marks × (zero_one marks ≡ true))
  -- it corresponds to none where no such marks give them
  pub no-marks : ((marks : List ℕ) → Gives levels s.count s.rights marks → zero_one marks ≡ true → ⊥) → HasOld s → ⊥

-- the two sessions: each sound old one has one new one, each sound new one one old one
pub record RightHand : Type 0 where
  -- a new session is the new one of the old new one
  pub new-fresh : new_of full.fresh ≡ fresh
  pub old-fresh : SoundFull full.fresh
  -- of every sound old session
  pub corresponds : (o : FullSession) → SoundFull o → Corresponds o
  -- of every session, sound or not, whose arrays have their widths
  pub tested : (s : Session) → Wide s → Tested s
