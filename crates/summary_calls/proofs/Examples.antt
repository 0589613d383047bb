-- Refusals of calls on words, and the floats 0 and 1, computed from the definitions.
use Rattle.std.specs.Prelude.{Err}
use Rattle.reuse.specs.declared.refusals.Refusal.TheVariants.{NotASummary, NoRoom}
use mathlib.Core.Path.{◌≡◌, refl}
use Prim.Native.Nat.{ℕ}
use mathlib.Core.List.{List, [], ◌∷◌}
use lib.Ieee.{binary64, to_bits}
use Rattle.reuse.specs.Lists.{mem, all_in, distinct, remove, inside, outside, before, firsts, from, sum, count}
use Rattle.reuse.specs.Summary.{words, reads_of, extents_of, first_of, recent_of, counts_of, well_formed, joined_first, joined_recent, shared, across, count_for, joined_count, joined_counts, join_of}
use Rattle.summary_calls.specs.Calls.{refused, wrote, join_call, misses_call}
use Rattle.summary_calls.specs.HitShares.{nought, one}

-- the summary of 7 3 7 9
abbrev front : List ℕ
front = 4 ∷ 3 ∷ 7 ∷ 3 ∷ 9 ∷ 9 ∷ 7 ∷ 3 ∷ 0 ∷ 1 ∷ 0 ∷ []

-- the summary of 3 3 9
abbrev back : List ℕ
back = 3 ∷ 2 ∷ 3 ∷ 9 ∷ 9 ∷ 3 ∷ 1 ∷ 0 ∷ []

-- a buffer of 3 words is too short, and words that are not well formed come before that
pub join-refusals : (join_call front back (5 ∷ 5 ∷ 5 ∷ []) ≡ refused NoRoom (5 ∷ 5 ∷ 5 ∷ []))
    × (join_call (1 ∷ []) back (5 ∷ []) ≡ refused NotASummary (5 ∷ []))
    × (join_call front (1 ∷ 0 ∷ []) (5 ∷ []) ≡ refused NotASummary (5 ∷ []))
unfolding join_call wrote well_formed join_of words joined_first joined_recent joined_counts joined_count count_for shared across reads_of extents_of first_of recent_of counts_of from before inside outside count firsts remove mem all_in distinct sum
join-refusals = (refl, refl, refl)

-- misses of words that are not well formed
pub misses-refused : misses_call (7 ∷ []) 2 ≡ Err NotASummary
unfolding misses_call well_formed reads_of extents_of first_of recent_of counts_of mem all_in distinct sum
misses-refused = refl

-- the bit patterns of the f64 0.0 and 1.0
pub float-bits : (to_bits binary64 nought ≡ 0) × (to_bits binary64 one ≡ 4_607_182_418_800_017_408)
unfolding to_bits
float-bits = (refl, refl)
