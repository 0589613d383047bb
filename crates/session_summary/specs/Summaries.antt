-- A session's summary written out, its misses and its hit share: what the session with all sums tells.
use Rattle.summary_calls.specs.declared.HitShare.{HitShare}
use Rattle.std.specs.Prelude.{ℕ, cond, List, Result, Err}
use Rattle.reuse.specs.declared.refusals.Refusal.{Refusal}
use Rattle.reuse.specs.declared.refusals.Refusal.TheVariants.{Unsound}
use Rattle.summary_calls.specs.Calls.{Wrote, refused}
use Rattle.session_calls.specs.Summaries as full
use Rattle.session.specs.declared.Session.{Session}
use Rattle.session.specs.Sessions.{old_of, sound}

-- the words of a session's summary
abbrev pub session_words : Session → List ℕ
session_words s = full.session_words (old_of s)

-- the summary written out: 7, 6
unfoldable pub summary_call : Session → List ℕ → Wrote
summary_call s buffer = cond (sound s) (full.summary_call (old_of s) buffer) (refused Unsound buffer)

-- the misses at size c, or 7
unfoldable pub misses_call : Session → ℕ → Result ℕ Refusal
misses_call s c = cond (sound s) (full.misses_call (old_of s) c) (Err Unsound)

-- the hit share at size c, or 7
unfoldable pub share_call : Session → ℕ → Result HitShare Refusal
share_call s c = cond (sound s) (full.share_call (old_of s) c) (Err Unsound)
