-- The misses and the hit shares of a log are those of the cache that reads it.
use Rattle.std.specs.Prelude.{Result, Ok, Err}
use Rattle.reuse.specs.declared.refusals.Refusal.{Refusal}
use Prim.Native.Nat.{ℕ, ◌≤◌}
use mathlib.Core.Path.{◌≡◌, refl, sym, ap, ◌∙◌}
use mathlib.Core.List.{List, [], ◌∷◌, map}
use mathlib.Core.Bool.{true}
use lib.ListN.{length}
use Rattle.reuse.specs.Limits.{max_extents}
use Rattle.reuse.specs.Cache.{hit_count}
use Rattle.reuse.specs.Lru.{Reuse, reuses}
use Rattle.reuse.specs.Summary.{summary_of, hits_of, well_formed}
use Rattle.reuse.specs.Traces.{Within}
use Rattle.reuse.proofs.Formed.{summary-formed, summary-well-formed}
use Rattle.reuse.proofs.Newcomers.{cold-count, trace-up-to}
use Rattle.reuse.proofs.Misses.{cache-hits, summary-cache, summary-hits}
use Rattle.reuse.proofs.Servable.{servable-summary}
use Rattle.reuse_rows.specs.Rows.{put_at}
use Rattle.summary_calls.specs.Calls.{misses_call, share_at, share_call}
use Rattle.session_calls.specs.declared.Answer.{Answer}
use Rattle.session_calls.specs.declared.Answer.TheVariants.{Cold, Distance}
use Rattle.session.specs.Sessions.{fresh}
use Rattle.session_summary.proofs.Summaries.{misses-cache, share-trace}
use Rattle.watch.specs.declared.Watch.{Watch}
use Rattle.watch.specs.Watching.{new_of, noted_of, reading_of, watch_after, misses_call as watch_misses, share_call as watch_share}
use Rattle.watch.proofs.Watches.{watch-trace, watch-misses, watch-share}
use Rattle.watch_words.specs.Layout.{watch_length, watch_laid}
use Rattle.watch_words.specs.Calls.{new_watch, words_after}
use Rattle.watch_words.proofs.Kept.{new-watch-all}
use Rattle.watch_words.proofs.Fed.{fed-words}
use Rattle.whole.specs.Runs.{gives, refused, session_after, answers_of, written}
use Rattle.whole.specs.Counts.{watching, cache_share, Counts}
use Rattle.whole.specs.Owed.{Seen, seen_of}
use Rattle.whole.proofs.Calls.{trace-stands, uncut, uncut-words}

-- a watch after what was seen
unfoldable saw : Watch → List Seen → Watch
saw w [] = w
saw w (gives r ∷ l) = saw (noted_of w (reading_of r)).watch l
saw w (refused n ∷ l) = saw w l

-- a watch that hears a session's answers hears what is seen of them
hears-seen : (l : List (Result Answer Refusal)) (w : Watch) → watching w l ≡ saw w (map seen_of l)
unfolding watching saw
hears-seen [] w = refl
hears-seen (Ok (Cold n k) ∷ l) w = hears-seen l _
hears-seen (Ok (Distance d n k) ∷ l) w = hears-seen l _
hears-seen (Err why ∷ l) w = hears-seen l w

-- what is seen of a trace's answers
saw-trace : (rs : List Reuse) (w : Watch) → saw w (map gives rs) ≡ watch_after w rs
unfolding watch_after saw
saw-trace [] w = refl
saw-trace (r ∷ rs) w = saw-trace rs _

module _ (c : ℕ) (t : List ℕ) (w : Within t) where
  -- the hits of the summary's words are the cache's
  words-hits : hits_of (summary_of t) c ≡ hit_count c t
  words-hits = summary-hits c t (summary-formed t w.reads w.extents) ∙ sym (cache-hits c t)

  -- so is their share
  share-words : Ok (share_at (summary_of t) c) ≡ cache_share c t
  share-words = rw (words-hits, servable-summary t)

  -- the watch hears the trace's answers
  heard-trace : watching (new_of c) (answers_of fresh t) ≡ watch_after (new_of c) (reuses [] t)
  heard-trace = hears-seen (answers_of fresh t) (new_of c) ∙ ap (saw (new_of c)) (uncut t w) ∙ saw-trace (reuses [] t) (new_of c)

  -- the words of a watch that takes the words of the distances
  words-fed : (buffer : List ℕ) → watch_length ≤ length buffer
      → words_after (new_watch c buffer).buffer (map written (answers_of fresh t)) ≡ put_at buffer 0 (watch_laid (watching (new_of c) (answers_of fresh t)))
  words-fed buffer enough =
      rw (new-watch-all buffer enough c, uncut-words t w, heard-trace) (fed-words (new_of c) buffer enough (reuses [] t) (trace-up-to max_extents t w.extents))

  -- the three tell what the cache of size c does
  pub counts : Counts c t
  unfolding misses_call share_call
  counts =
      let formed : well_formed (summary_of t) ≡ true = summary-well-formed t w.reads w.extents in
      record {
        words-misses = rw formed (ap Ok (summary-cache c t));
        words-share = rw formed share-words;
        session-misses = misses-cache (session_after fresh t) t c (trace-stands t w);
        session-share = share-trace (session_after fresh t) t c (trace-stands t w) ∙ share-words;
        watched = heard-trace ∙ watch-trace c t w.reads w.extents ∙ simp (cold-count t, cache-hits c t);
        words-watched = λ buffer enough. words-fed buffer enough;
        watch-misses = ap watch_misses heard-trace ∙ watch-misses c t w.reads w.extents ∙ ap Ok (summary-cache c t);
        watch-share = ap watch_share heard-trace ∙ watch-share c t w.reads w.extents ∙ share-words;
      }
