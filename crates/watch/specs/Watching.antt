-- A watch on one size: soundness, what an update answers and leaves, misses and hit share.
use Rattle.summary_calls.specs.declared.HitShare.{HitShare}
use Rattle.std.specs.Prelude.{ℕ, ◌+◌, ◌-◌, List, [], ◌∷◌, Bool, true, cond, ◌&&◌, eqb, leb, Result, Ok, Err}
use Rattle.reuse.specs.declared.refusals.Refusal.{Refusal}
use Rattle.reuse.specs.declared.refusals.Refusal.TheVariants.{OutOfRange, Unsound, TooManyReads}
use Rattle.reuse.specs.Limits.{max_reads, max_extents}
use Rattle.reuse.specs.Lru.{Reuse, cold, at}
use Rattle.summary_calls.specs.Calls.{share_of}
use Rattle.session_calls.specs.declared.Answer.{Answer}
use Rattle.session_calls.specs.declared.Answer.TheVariants.{Cold as ColdRead, Distance as DistanceRead}
use Rattle.watch.specs.declared.Watch.{Watch}
use Rattle.watch.specs.declared.Reading.{Reading}
use Rattle.watch.specs.declared.Reading.TheVariants.{Cold, Distance}
use Rattle.watch.specs.declared.Change.{Change}

-- a new watch for a size
abbrev pub new_of : ℕ → Watch
new_of size = record { size = size; reads = 0; cold = 0; hits = 0 }

-- cold reads and hits are at most the reads, and these at most the limit
unfoldable pub sound_of : Watch → Bool
sound_of w = leb (w.cold + w.hits) w.reads && leb w.reads max_reads

-- the refusal n, with the watch as it was
abbrev pub refused : Watch → Refusal → Change
refused w n = record { watch = w; outcome = Err n }

-- one more read, with this many cold reads and hits more; or 8
unfoldable pub counted_by : Watch → ℕ → ℕ → Change
counted_by w c h =
    cond (eqb w.reads max_reads) (refused w TooManyReads)
    (record { watch = record { size = w.size; reads = w.reads + 1; cold = w.cold + c; hits = w.hits + h }; outcome = Ok tt })

-- a distance between 1 and the limit of extents
abbrev pub in_range : ℕ → Bool
in_range d = leb 1 d && leb d max_extents

-- the watch takes cold and every distance in range
abbrev pub takes : Reading → Bool
takes Cold = true
takes (Distance d) = in_range d

-- by the reading: a cold read, a hit at a distance of at most the size, or neither
abbrev pub counts : Watch → Reading → Change
counts w Cold = counted_by w 1 0
counts w (Distance d) = counted_by w 0 (cond (leb d w.size) 1 0)

-- an update: 7, 2, 8
unfoldable pub noted_of : Watch → Reading → Change
noted_of w r = cond (sound_of w) (cond (takes r) (counts w r) (refused w OutOfRange)) (refused w Unsound)

-- the misses, reads less hits, or 7
unfoldable pub misses_call : Watch → Result ℕ Refusal
misses_call w = cond (sound_of w) (Ok (w.reads - w.hits)) (Err Unsound)

-- the reads that some size could have served: reads less cold reads
abbrev pub servable_of : Watch → ℕ
servable_of w = w.reads - w.cold

-- the hit share, or 7
unfoldable pub share_call : Watch → Result HitShare Refusal
share_call w = cond (sound_of w) (Ok (share_of w.hits (servable_of w))) (Err Unsound)

-- what the watch takes of an answer: of a cold one not its number, of none the sums read or the slots looked at
abbrev pub taken_of : Answer → Reading
taken_of (ColdRead n k) = Cold
taken_of (DistanceRead d n k) = Distance d

-- and of a session's answer, which may be a refusal
abbrev pub heard_of : Result Answer Refusal → Result Reading Refusal
heard_of (Ok answer) = Ok (taken_of answer)
heard_of (Err n) = Err n

-- a trace's answer as a reading: a cold one without its number
abbrev pub reading_of : Reuse → Reading
reading_of (cold n) = Cold
reading_of (at d) = Distance d

-- the watch after a list of answers, each given to the watch that the last update left
unfoldable pub watch_after : Watch → List Reuse → Watch
watch_after w [] = w
watch_after w (r ∷ rs) = watch_after (noted_of w (reading_of r)).watch rs
