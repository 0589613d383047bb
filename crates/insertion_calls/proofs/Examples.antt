-- Worked examples, computed from the definitions.
use Rattle.std.specs.Prelude.{Ok, Err}
use Rattle.reuse.specs.declared.refusals.Refusal.TheVariants.{OutOfRange}
use mathlib.Core.Path.{◌≡◌, refl}
use mathlib.Core.List.{[], ◌∷◌}
use lib.IntN.{pos, neg_ℤ}
use Rattle.reuse.specs.Lists.{mem, remove, firsts, count, from}
use Rattle.reuse.specs.Lru.{depth, touch, reuses, misses_at}
use Rattle.reuse.specs.Cache.{last_read, oldest, evict, admit, hits, cache_hits, cache_misses}
use Rattle.insertion_calls.specs.Insertion.{put, change_of}
use Rattle.insertion_calls.specs.Ends.{rounds, late_again}
use Rattle.insertion_calls.specs.Calls.{insertion_call}

-- a place is counted from 0: 9 put into 7 8 at 0, at 1 and at 2, the end
pub places : (put 0 9 (7 ∷ 8 ∷ []) ≡ 9 ∷ 7 ∷ 8 ∷ []) × (put 1 9 (7 ∷ 8 ∷ []) ≡ 7 ∷ 9 ∷ 8 ∷ []) × (put 2 9 (7 ∷ 8 ∷ []) ≡ 7 ∷ 8 ∷ 9 ∷ [])
unfolding put
places = (refl, refl, refl)

-- 02: for 4 4, putting 5 between them at size 1 gives +2
pub between : change_of 1 1 5 (4 ∷ 4 ∷ []) ≡ pos 2
unfolding change_of put misses_at count reuses depth touch remove
between = refl

-- the same by the cache: 3 misses of 4 5 4, 1 of 4 4
pub between-cached : (cache_misses 1 (4 ∷ 5 ∷ 4 ∷ []) ≡ 3) × (cache_misses 1 (4 ∷ 4 ∷ []) ≡ 1)
unfolding cache_misses cache_hits hits admit evict oldest last_read mem remove count
between-cached = (refl, refl)

-- the lower end: for 1 2 3 1, 1 put in before 3 at size 2 gives −1
pub spared : (late_again 2 ≡ 1 ∷ 2 ∷ 3 ∷ 1 ∷ []) × (change_of 2 2 1 (late_again 2) ≡ neg_ℤ (pos 1))
unfolding change_of put late_again from misses_at count reuses depth touch remove
spared = (refl, refl)

-- the upper end: for 1 2 1 2, 3 put in between at size 2 gives +3
pub spoiled : (rounds 2 ≡ 1 ∷ 2 ∷ 1 ∷ 2 ∷ []) × (change_of 2 2 3 (rounds 2) ≡ pos 3)
unfolding change_of put rounds from misses_at count reuses depth touch remove
spoiled = (refl, refl)

-- at the end of the log, and into an empty one
pub ends : (change_of 1 2 4 (4 ∷ 4 ∷ []) ≡ pos 0) × (change_of 3 0 5 [] ≡ pos 1)
unfolding change_of put misses_at count reuses depth touch remove
ends = (refl, refl)

-- the call for the first, and for a place past the end
pub called : (insertion_call (4 ∷ 4 ∷ []) 1 5 1 ≡ Ok (pos 2)) × (insertion_call (4 ∷ 4 ∷ []) 3 5 1 ≡ Err OutOfRange)
unfolding insertion_call change_of put firsts misses_at count reuses depth touch remove
called = (refl, refl)
