-- What the calls on words that hold a session answer and leave.
use Rattle.summary_calls.specs.declared.HitShare.{HitShare}
use Rattle.std.specs.Prelude.{ℕ, cond, List, leb, length, Result, Ok, Err}
use Rattle.reuse.specs.declared.refusals.Refusal.{Refusal}
use Rattle.reuse.specs.declared.refusals.Refusal.TheVariants.{Unsound}
use Rattle.reuse_rows.specs.Rows.{put_at}
use Rattle.summary_calls.specs.Calls.{Wrote, wrote, refused}
use Rattle.session.specs.declared.Session.{Session}
use Rattle.session.specs.declared.Step.{Step}
use Rattle.session_calls.specs.declared.Answer.{Answer}
use Rattle.session.specs.Sessions.{fresh}
use Rattle.session.specs.Reads.{refused as read_refused, read_of}
use Rattle.session_summary.specs.Summaries.{summary_call, misses_call, share_call}
use Rattle.session_layout.specs.Layout.{session_length, session_in, session_laid}

-- a new session's words, or 6
unfoldable pub new_session : List ℕ → Wrote
new_session w = wrote (session_laid fresh) w

-- the session in the first words; too few words are no sound session
unfoldable pub held_in : List ℕ → Result Session Refusal
held_in w = cond (leb session_length (length w)) (Ok (session_in w)) (Err Unsound)

-- a read of the session in the first words; too few words are no sound session
unfoldable pub read_in : List ℕ → ℕ → Step
read_in w x = cond (leb session_length (length w)) (read_of (session_in w) x) (read_refused (session_in w) Unsound)

-- the words after a read: the session's at their front; a refusal leaves them as they were
abbrev pub session_left : Result Answer Refusal → Session → List ℕ → List ℕ
session_left (Ok a) s w = put_at w 0 (session_laid s)
session_left (Err r) s w = w

-- the summary of the session in the first words; too few words are no sound session
unfoldable pub summary_in : List ℕ → List ℕ → Wrote
summary_in w buffer = cond (leb session_length (length w)) (summary_call (session_in w) buffer) (refused Unsound buffer)

-- the misses at size c of the session in the first words; too few words are no sound session
unfoldable pub misses_in : List ℕ → ℕ → Result ℕ Refusal
misses_in w c = cond (leb session_length (length w)) (misses_call (session_in w) c) (Err Unsound)

-- the hit share at size c of the session in the first words; too few words are no sound session
unfoldable pub share_in : List ℕ → ℕ → Result HitShare Refusal
share_in w c = cond (leb session_length (length w)) (share_call (session_in w) c) (Err Unsound)
