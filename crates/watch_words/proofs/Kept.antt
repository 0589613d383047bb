-- Words that hold a watch, and the readings that a word stands for.
use Rattle.std.specs.Prelude.{Ok}
use mathlib.Core.Path.{◌≡◌, refl, ap, ◌∙◌}
use Prim.Native.Nat.{ℕ, ◌≤◌}
use native.Mathlib.Omega.{arith}
use mathlib.Core.List.{List}
use mathlib.Core.Bool.{Bool, false, cond}
use lib.ListN.{length}
use borrow.Author.Tests.{le-leb, le-ltb}
use Rattle.reuse.specs.Written.{cold_base}
use Rattle.reuse_rows.specs.Rows.{put_at}
use Rattle.reuse_copies.proofs.Puts.{put-length}
use Rattle.summary_calls.proofs.Calls.{wrote-all}
use Rattle.watch.specs.declared.Watch.{Watch}
use Rattle.watch.specs.declared.Reading.TheVariants.{Cold as ColdReading, Distance as DistanceReading}
use Rattle.watch.specs.Watching.{new_of, noted_of}
use Rattle.watch_words.specs.Layout.{watch_length, watch_in, watch_laid}
use Rattle.watch_words.specs.Calls.{new_watch, is_cold_word, reading_at, note_in}

-- a watch laid into words is read back
watch-read : (v : Watch) (w : List ℕ) → watch_in (put_at w 0 (watch_laid v)) ≡ v
unfolding watch_in watch_laid put_at
watch-read v w = refl

module _ (w : List ℕ) where
  module _ (enough : watch_length ≤ length w) where
    -- a new watch is written
    pub new-watch-all : (size : ℕ) → new_watch size w ≡ record { answer = Ok watch_length; buffer = put_at w 0 (watch_laid (new_of size)) }
    unfolding new_watch watch_laid
    new-watch-all size = wrote-all (watch_laid (new_of size)) w watch_length refl enough

    -- the watch in the words is told
    pub note-all : (d : ℕ) → note_in w d ≡ noted_of (watch_in w) (reading_at d)
    unfolding note_in
    note-all d = simp (le-leb watch_length (length w) enough)

-- a watch laid into words is told as it is by itself
pub note-kept : (v : Watch) (w : List ℕ) → watch_length ≤ length w → (d : ℕ) → note_in (put_at w 0 (watch_laid v)) d ≡ noted_of v (reading_at d)
note-kept v w l d =
    let n : length (watch_laid v) ≡ watch_length = unfold watch_laid in refl in
    let e : length (put_at w 0 (watch_laid v)) ≡ length w = put-length w 0 (watch_laid v) (omega (arith, l, n)) in
    note-all (put_at w 0 (watch_laid v)) (omega (arith, l, e)) d ∙ ap (λ (t : Watch). noted_of t (reading_at d)) (watch-read v w)

-- a word by whether it is a cold read's
pub reading-is : (d : ℕ) (b : Bool) → is_cold_word d ≡ b → reading_at d ≡ cond b ColdReading (DistanceReading d)
reading-is d b e = ap (λ (z : Bool). cond z ColdReading (DistanceReading d)) e

-- a word at or below 65,536 is no cold read's
pub not-above : (d : ℕ) → d ≤ cold_base → is_cold_word d ≡ false
not-above d l = simp (le-ltb cold_base d l)
