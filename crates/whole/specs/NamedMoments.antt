-- Named moments: what holds of every list of calls from a new session with no name set (02, ask 5).
use Rattle.std.specs.Prelude.{ℕ, ◌≤◌, ◌≡◌, List, ◌∷◌, ◌++◌, map, true, false, length, Ok}
use Rattle.reuse.specs.Lists.{mem, all_in}
use Rattle.reuse.specs.Traces.{Within}
use Rattle.session.specs.Sessions.{fresh}
use Rattle.session.specs.Reads.{read_of}
use Rattle.moments.specs.Names.{names_length, is_set, session_under}
use Rattle.whole.specs.Runs.{session_after, answers_of, accepted}
use Rattle.whole.specs.Owed.{owed}
use Rattle.whole.specs.Moments.{Call, read, name, return_to, reading, moment, heard, refusal_of, told, state_after, told_by, begun}
use Rattle.whole.specs.Remembered.{Moment, none, log, nothing, remember, owed_by, remembered, owed_refusals}

-- what name k has in the words: it is not set where nothing is remembered under it; else it is set, and its session is the
-- one that reading the remembered log leaves
abbrev pub HasLog : List ℕ → ℕ → Moment → Type 0
HasLog names k none = is_set names k ≡ false
HasLog names k (log t) = (is_set names k ≡ true) × (session_under names k ≡ session_after fresh t)

-- the refusals of a list of calls
abbrev pub refusals : List ℕ → List Call → List ℕ
refusals names calls = map refusal_of (map heard (told_by (begun names) calls))

-- what holds of a list of calls and the words lent for the names
pub record Remembers (names : List ℕ) (calls : List Call) : Type 0 where
  -- each call answers what is owed of the remembered logs
  pub answers : map heard (told_by (begun names) calls) ≡ owed_by (length names) nothing calls
  -- a call is refused with 2, 6, 8, 9 or 11 alone
  pub refused : all_in (refusals names calls) owed_refusals ≡ true
  -- and not with 6 where the words suffice for all names
  pub roomy : names_length ≤ length names → mem 6 (refusals names calls) ≡ false
  -- the remembered log is within the limits
  pub within : Within (remembered (length names) calls)
  -- the session is the one that reading it leaves
  pub session : (state_after (begun names) calls).session ≡ session_after fresh (remembered (length names) calls)
  -- so a further read answers, with its sums read and its slots looked at, what it does after that reading
  pub read_next : (x : ℕ) → told (state_after (begun names) calls) (read x) ≡ reading (read_of (session_after fresh (remembered (length names) calls)) x).answer
  -- each name has what it remembers
  pub under : (k : ℕ) → HasLog (state_after (begun names) calls).names k ((remember (length names) nothing calls).under k)

-- calls up to a naming of k, further ones, a return to k, and reads
abbrev pub coming_back : List Call → ℕ → List Call → List ℕ → List Call
coming_back before k between reads = (before ++ (name k ∷ between)) ++ (return_to k ∷ map read reads)

-- what holds where k is named with room for its place, and the further calls do not name it again
pub record ComesBack (names : List ℕ) (before : List Call) (k : ℕ) (between : List Call) (reads : List ℕ) : Type 0 where
  -- the return is done, and the reads answer what they do after the log as it stood at naming
  pub answers : map heard (told_by (begun names) (coming_back before k between reads))
      ≡ map heard (told_by (begun names) (before ++ (name k ∷ between))) ++ (moment (Ok tt) ∷ map reading (owed (remembered (length names) before) reads))
  -- the log is that one, and then the reads accepted
  pub log-now : remembered (length names) (coming_back before k between reads) ≡ remembered (length names) (before ++ map read reads)
  -- no name is forgotten
  pub names-kept : (state_after (begun names) (coming_back before k between reads)).names ≡ (state_after (begun names) (before ++ (name k ∷ between))).names

-- what holds of reads alone, whatever words are lent for names: they are the run of read calls
pub record ReadsAlone (names reads : List ℕ) : Type 0 where
  pub answers : told_by (begun names) (map read reads) ≡ map reading (answers_of fresh reads)
  pub session : (state_after (begun names) (map read reads)).session ≡ session_after fresh reads
  -- every word is as it was
  pub words : (state_after (begun names) (map read reads)).names ≡ names
  -- and the remembered log is the reads accepted
  pub log-now : remembered (length names) (map read reads) ≡ accepted fresh reads
