-- What the calls on words that hold a watch answer and leave.
use Rattle.summary_calls.specs.declared.HitShare.{HitShare}
use Rattle.std.specs.Prelude.{ℕ, ◌+◌, Bool, cond, ◌&&◌, List, [], ◌∷◌, leb, ltb, length, Result, Ok, Err}
use Rattle.reuse.specs.declared.refusals.Refusal.{Refusal}
use Rattle.reuse.specs.declared.refusals.Refusal.TheVariants.{Unsound}
use Rattle.reuse.specs.Limits.{max_extents}
use Rattle.reuse.specs.Written.{cold_base}
use Rattle.reuse_rows.specs.Rows.{put_at}
use Rattle.summary_calls.specs.Calls.{Wrote, wrote}
use Rattle.watch.specs.declared.Watch.{Watch}
use Rattle.watch.specs.declared.Reading.{Reading}
use Rattle.watch.specs.declared.Reading.TheVariants.{Cold as ColdReading, Distance as DistanceReading}
use Rattle.watch.specs.declared.Change.{Change}
use Rattle.watch.specs.Watching.{new_of, noted_of, misses_call, share_call}
use Rattle.watch.specs.Watching.{refused as unnoted}
use Rattle.watch_words.specs.Layout.{watch_length, watch_in, watch_laid}

-- a new watch's words, or 6
unfoldable pub new_watch : ℕ → List ℕ → Wrote
new_watch size w = wrote (watch_laid (new_of size)) w

-- the watch in the first words; too few words are no sound watch
unfoldable pub held_in : List ℕ → Result Watch Refusal
held_in w = cond (leb watch_length (length w)) (Ok (watch_in w)) (Err Unsound)

-- 65,536 plus a number from 1 to the limit of extents
abbrev pub is_cold_word : ℕ → Bool
is_cold_word word = ltb cold_base word && leb word (cold_base + max_extents)

-- a word as the distance buffer writes it: a cold read, whatever its number, or else a distance
abbrev pub reading_at : ℕ → Reading
reading_at word = cond (is_cold_word word) ColdReading (DistanceReading word)

-- an update of the watch in the first words; too few words are no sound watch
unfoldable pub note_in : List ℕ → ℕ → Change
note_in w word = cond (leb watch_length (length w)) (noted_of (watch_in w) (reading_at word)) (unnoted (watch_in w) Unsound)

-- the words after an update: the watch's at their front; a refusal leaves them as they were
abbrev pub watch_left : Result Unit Refusal → Watch → List ℕ → List ℕ
watch_left (Ok tt) s w = put_at w 0 (watch_laid s)
watch_left (Err n) s w = w

-- the words after a list of updates, each of the words that the last one left
unfoldable pub words_after : List ℕ → List ℕ → List ℕ
words_after w [] = w
words_after w (d ∷ ds) = words_after (watch_left (note_in w d).outcome (note_in w d).watch w) ds

-- the misses of the watch in the first words
unfoldable pub misses_in : List ℕ → Result ℕ Refusal
misses_in w = cond (leb watch_length (length w)) (misses_call (watch_in w)) (Err Unsound)

-- the hit share of the watch in the first words
unfoldable pub share_in : List ℕ → Result HitShare Refusal
share_in w = cond (leb watch_length (length w)) (share_call (watch_in w)) (Err Unsound)
