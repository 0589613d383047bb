-- Worked examples, computed from the definitions: the figures of 001, and words that are well formed or not.
use mathlib.Core.Path.{◌≡◌, refl}
use Prim.Native.Nat.{ℕ}
use mathlib.Core.List.{List, [], ◌∷◌}
use mathlib.Core.Bool.{true, false}
use Rattle.reuse.specs.Lists.{mem, all_in, distinct, remove, firsts, cleanup, from, sum, count}
use Rattle.reuse.specs.Lru.{cold, at, depth, touch, reuses, since, distance, distances, count_at}
use Rattle.reuse.specs.Cache.{last_read, oldest, evict, admit, hits, cache_hits}
use Rattle.reuse.specs.Summary.{histogram, reads_of, extents_of, first_of, recent_of, counts_of, well_formed}

-- 001's trace a b b c b a d c a a
abbrev trace : List ℕ
trace = 1 ∷ 2 ∷ 2 ∷ 3 ∷ 2 ∷ 1 ∷ 4 ∷ 3 ∷ 1 ∷ 1 ∷ []

-- figure 1.3: its stack distances
pub figure-distances : reuses [] trace ≡ cold 1 ∷ cold 2 ∷ at 1 ∷ cold 3 ∷ at 2 ∷ at 3 ∷ cold 4 ∷ at 4 ∷ at 3 ∷ at 1 ∷ []
unfolding reuses depth touch remove
figure-distances = refl

-- the same, counted on the trace
pub figure-counted : distances [] trace ≡ cold 1 ∷ cold 2 ∷ at 1 ∷ cold 3 ∷ at 2 ∷ at 3 ∷ cold 4 ∷ at 4 ∷ at 3 ∷ at 1 ∷ []
unfolding distances distance since firsts remove mem
figure-counted = refl

-- figure 1.3: the counters of the distances 1 to 4
pub figure-counters : histogram trace ≡ 2 ∷ 1 ∷ 2 ∷ 1 ∷ []
unfolding histogram count_at count firsts from reuses depth touch remove
figure-counters = refl

-- figure 1.2: the hits of the buffer of capacity 1
pub figure-one : cache_hits 1 trace ≡ false ∷ false ∷ true ∷ false ∷ false ∷ false ∷ false ∷ false ∷ false ∷ true ∷ []
unfolding cache_hits hits admit evict oldest last_read mem remove
figure-one = refl

-- of capacity 2
pub figure-two : cache_hits 2 trace ≡ false ∷ false ∷ true ∷ false ∷ true ∷ false ∷ false ∷ false ∷ false ∷ true ∷ []
unfolding cache_hits hits admit evict oldest last_read mem remove
figure-two = refl

-- of capacity 3
pub figure-three : cache_hits 3 trace ≡ false ∷ false ∷ true ∷ false ∷ true ∷ true ∷ false ∷ false ∷ true ∷ true ∷ []
unfolding cache_hits hits admit evict oldest last_read mem remove
figure-three = refl

-- of capacity 4
pub figure-four : cache_hits 4 trace ≡ false ∷ false ∷ true ∷ false ∷ true ∷ true ∷ false ∷ true ∷ true ∷ true ∷ []
unfolding cache_hits hits admit evict oldest last_read mem remove
figure-four = refl

-- 001, 3.2: the cleanup of 2 3 5 4 3 5 3 8 2
pub cleanup-example : cleanup (2 ∷ 3 ∷ 5 ∷ 4 ∷ 3 ∷ 5 ∷ 3 ∷ 8 ∷ 2 ∷ []) ≡ 4 ∷ 5 ∷ 3 ∷ 8 ∷ 2 ∷ []
unfolding cleanup mem
cleanup-example = refl

-- the summary of 7 3 7 9 3 3 9 is well formed
pub seven-formed : well_formed (7 ∷ 3 ∷ 7 ∷ 3 ∷ 9 ∷ 9 ∷ 3 ∷ 7 ∷ 1 ∷ 2 ∷ 1 ∷ []) ≡ true
unfolding well_formed distinct all_in sum reads_of extents_of first_of recent_of counts_of mem
seven-formed = refl

-- words with one fault each: a word too few, F with an extent twice, R without one of F, R with one not of F, H that does not add up
pub faults-refused : (well_formed (2 ∷ 2 ∷ 5 ∷ 6 ∷ 6 ∷ 5 ∷ 0 ∷ []) ≡ false)
    × (well_formed (2 ∷ 2 ∷ 5 ∷ 5 ∷ 5 ∷ 5 ∷ 0 ∷ 0 ∷ []) ≡ false)
    × (well_formed (2 ∷ 2 ∷ 5 ∷ 6 ∷ 5 ∷ 5 ∷ 0 ∷ 0 ∷ []) ≡ false)
    × (well_formed (2 ∷ 2 ∷ 5 ∷ 6 ∷ 5 ∷ 7 ∷ 0 ∷ 0 ∷ []) ≡ false)
    × (well_formed (3 ∷ 2 ∷ 5 ∷ 6 ∷ 6 ∷ 5 ∷ 0 ∷ 0 ∷ []) ≡ false)
unfolding well_formed distinct all_in sum reads_of extents_of first_of recent_of counts_of mem
faults-refused = (refl, refl, refl, refl, refl)
