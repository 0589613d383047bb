-- Misses and hit shares of a log: of its summary's words, of the session that read it, and of a watch fed with its answers.
use Rattle.watch.specs.declared.Reading.{Reading}
use Rattle.summary_calls.specs.declared.HitShare.{HitShare}
use Rattle.std.specs.Prelude.{ℕ, ◌≤◌, ◌≡◌, List, [], ◌∷◌, map, length, Result, Ok, Err}
use Rattle.reuse.specs.declared.refusals.Refusal.{Refusal}
use Rattle.reuse.specs.Lists.{firsts}
use Rattle.reuse.specs.Cache.{cache_misses, hit_count, servable}
use Rattle.reuse.specs.Summary.{summary_of}
use Rattle.reuse_rows.specs.Rows.{put_at}
use Rattle.summary_calls.specs.Calls.{misses_call, share_of, share_call}
use Rattle.session_calls.specs.declared.Answer.{Answer}
use Rattle.session.specs.Sessions.{fresh}
use Rattle.session_summary.specs.Summaries.{misses_call as session_misses, share_call as session_share}
use Rattle.watch.specs.declared.Watch.{Watch}
use Rattle.watch.specs.Watching.{new_of, noted_of, heard_of, misses_call as watch_misses, share_call as watch_share}
use Rattle.watch_words.specs.Layout.{watch_length, watch_laid}
use Rattle.watch_words.specs.Calls.{new_watch, words_after}
use Rattle.whole.specs.Runs.{session_after, answers_of, written}

-- a watch after what it hears of a session: a refusal is no reading
abbrev pub hears : Watch → Result Reading Refusal → Watch
hears w (Ok r) = (noted_of w r).watch
hears w (Err why) = w

-- a watch after a list of a session's answers, each given to the watch that the last update left
unfoldable pub watching : Watch → List (Result Answer Refusal) → Watch
watching w [] = w
watching w (a ∷ l) = watching (hears w (heard_of a)) l

-- the misses of the cache of size c that reads the log
abbrev pub cache_missed : ℕ → List ℕ → Result ℕ Refusal
cache_missed c t = Ok (cache_misses c t)

-- its hits by the reads that some size could have served
abbrev pub cache_share : ℕ → List ℕ → Result HitShare Refusal
cache_share c t = Ok (share_of (hit_count c t) (servable t))

-- at size c the summary's words, the session and the watch tell the misses of that cache, and its hits by the reads that
-- some size could have served
pub record Counts (c : ℕ) (t : List ℕ) : Type 0 where
  pub words-misses : misses_call (summary_of t) c ≡ cache_missed c t
  pub words-share : share_call (summary_of t) c ≡ cache_share c t
  pub session-misses : session_misses (session_after fresh t) c ≡ cache_missed c t
  pub session-share : session_share (session_after fresh t) c ≡ cache_share c t
  -- the watch has counted every read, the cold ones and the hits
  pub watched : watching (new_of c) (answers_of fresh t) ≡ record { size = c; reads = length t; cold = length (firsts t); hits = hit_count c t }
  -- a watch in lent words that takes the words of the distances ends so too
  pub words-watched : (buffer : List ℕ) → watch_length ≤ length buffer →
      words_after (new_watch c buffer).buffer (map written (answers_of fresh t)) ≡ put_at buffer 0 (watch_laid (watching (new_of c) (answers_of fresh t)))
  pub watch-misses : watch_misses (watching (new_of c) (answers_of fresh t)) ≡ cache_missed c t
  pub watch-share : watch_share (watching (new_of c) (answers_of fresh t)) ≡ cache_share c t
