-- What a watch in words takes: exactly the words that answers with numbers and distances within the limit are written as.
use Rattle.std.specs.Prelude.{ℕ, ◌≡◌, cond, List, leb}
use Rattle.reuse.specs.declared.refusals.Refusal.TheVariants.{OutOfRange}
use Rattle.reuse.specs.Limits.{max_extents}
use Rattle.reuse.specs.Lru.{Reuse, cold, at}
use Rattle.reuse.specs.Written.{word_of, UpTo}
use Rattle.watch.specs.Watching.{counted_by, refused}
use Rattle.watch_words.specs.Layout.{watch_in}
use Rattle.watch_words.specs.Calls.{note_in}

-- of words that hold a sound watch
pub record Taking (w : List ℕ) : Type 0 where
  -- a cold read's word is one cold read more, whatever the number
  pub cold-read : (n : ℕ) → UpTo max_extents (cold n) → note_in w (word_of (cold n)) ≡ counted_by (watch_in w) 1 0
  -- a distance is a hit where it is at most the size
  pub distance_read : (d : ℕ) → UpTo max_extents (at d) → note_in w (word_of (at d)) ≡ counted_by (watch_in w) 0 (cond (leb d (watch_in w).size) 1 0)
  -- any other word is refused 2
  pub no_answer : (word : ℕ) → ((r : Reuse) → UpTo max_extents r → word_of r ≡ word → ⊥) → note_in w word ≡ refused (watch_in w) OutOfRange
