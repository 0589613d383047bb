-- The summary of a session with all sums written out, its misses and its hit share.
use Rattle.summary_calls.specs.declared.HitShare.{HitShare}
use Rattle.std.specs.Prelude.{ℕ, cond, List, take, Result, Ok, Err}
use Rattle.reuse.specs.declared.refusals.Refusal.{Refusal}
use Rattle.reuse.specs.declared.refusals.Refusal.TheVariants.{Unsound}
use Rattle.reuse.specs.Summary.{words, misses_of}
use Rattle.summary_calls.specs.Calls.{Wrote, wrote, refused, share_at}
use Rattle.session_calls.specs.Sessions.{FullSession, sound, extents, stack_of, first_row}

-- the words of a session's summary
unfoldable pub session_words : FullSession → List ℕ
session_words s = words s.reads (first_row s) (stack_of s) (take (extents s) s.hist)

-- the summary written out: 7, 6
unfoldable pub summary_call : FullSession → List ℕ → Wrote
summary_call s buffer = cond (sound s) (wrote (session_words s) buffer) (refused Unsound buffer)

-- the misses at size c, or 7
unfoldable pub misses_call : FullSession → ℕ → Result ℕ Refusal
misses_call s c = cond (sound s) (Ok (misses_of (session_words s) c)) (Err Unsound)

-- the hit share at size c, or 7
unfoldable pub share_call : FullSession → ℕ → Result HitShare Refusal
share_call s c = cond (sound s) (Ok (share_at (session_words s) c)) (Err Unsound)
