-- Worked examples, computed from the definitions.
use Rattle.std.specs.Prelude.{Ok, Err}
use Rattle.reuse.specs.declared.refusals.Refusal.TheVariants.{StoreTooSmall}
use mathlib.Core.Path.{◌≡◌, refl}
use Prim.Native.Nat.{ℕ}
use mathlib.Core.List.{List, [], ◌∷◌, flat_map, flatten}
use Rattle.reuse.specs.Lists.{from, sum, count, firsts, cleanup, remove, mem, distinct, all_in}
use Rattle.reuse.specs.Lru.{reuses, depth, touch, count_at}
use Rattle.reuse.specs.Summary.{words, histogram, summary_of, reads_of, extents_of, first_of, recent_of, counts_of, well_formed, misses_of}
use Rattle.split_calls.specs.Split.{share_lists, split_misses, better, best_after, best_of, split_of}
use Rattle.split_calls.specs.Stepwise.{with_one_more, handed_out}
use Rattle.split_calls.specs.Cuts.{cut_summaries}
use Rattle.split_calls.specs.Calls.{divided, all_formed, split_call}
use Rattle.split_calls.specs.Tables.{lowest, fewest, first_from, smallest_total, smallest_share, chosen}

-- the summaries of the logs 1 1 and 1 2 1 2
abbrev uneven : List (List ℕ)
uneven = summary_of (1 ∷ 1 ∷ []) ∷ summary_of (1 ∷ 2 ∷ 1 ∷ 2 ∷ []) ∷ []

-- in a store of 2 the second has both extents, with 4 misses
pub uneven-split : (split_of uneven (0 ∷ 0 ∷ []) 2 ≡ 0 ∷ 2 ∷ []) × (split_misses uneven (0 ∷ 2 ∷ []) ≡ 4)
unfolding split_of best_of best_after better split_misses share_lists flat_map from sum misses_of extents_of counts_of summary_of words histogram firsts cleanup mem count_at count reuses depth touch remove
uneven-split = (refl, refl)

-- one extent at a time goes to the first customer, the only one with fewer misses for it, and ends with 5 misses
pub uneven-stepwise : (handed_out uneven (0 ∷ 0 ∷ []) 1 ≡ 1 ∷ 0 ∷ []) × (split_misses uneven (handed_out uneven (0 ∷ 0 ∷ []) 2) ≡ 5)
unfolding handed_out with_one_more best_of best_after better split_misses sum misses_of extents_of counts_of summary_of words histogram firsts cleanup mem count_at count reuses depth touch remove from
uneven-stepwise = (refl, refl)

-- wherever the second extent goes then: none of the two ways has 4
pub uneven-second : (split_misses uneven (2 ∷ 0 ∷ []) ≡ 5) × (split_misses uneven (1 ∷ 1 ∷ []) ≡ 5)
unfolding split_misses sum misses_of extents_of counts_of summary_of words histogram firsts cleanup mem count_at count reuses depth touch remove from
uneven-second = (refl, refl)

-- the summary of the log 3 3, twice
abbrev twins : List (List ℕ)
twins = summary_of (3 ∷ 3 ∷ []) ∷ summary_of (3 ∷ 3 ∷ []) ∷ []

-- a store of 1 goes to the second, the first share being the smallest; of a store of 3 two extents are used, the total being the smallest
pub twins-split : (split_of twins (0 ∷ 0 ∷ []) 1 ≡ 0 ∷ 1 ∷ []) × (split_of twins (0 ∷ 0 ∷ []) 3 ≡ 1 ∷ 1 ∷ [])
unfolding split_of best_of best_after better split_misses share_lists flat_map from sum misses_of extents_of counts_of summary_of words histogram firsts cleanup mem count_at count reuses depth touch remove
twins-split = (refl, refl)

-- with other shares of as many misses: the first share decides in a store of 1, the total in one of 3
pub twins-ties : (split_misses twins (0 ∷ 1 ∷ []) ≡ split_misses twins (1 ∷ 0 ∷ [])) × (split_misses twins (1 ∷ 1 ∷ []) ≡ split_misses twins (1 ∷ 2 ∷ []))
unfolding split_misses sum misses_of extents_of counts_of summary_of words histogram firsts cleanup mem count_at count reuses depth touch remove from
twins-ties = (refl, refl)

-- the choice from the table where the first customer is to have an extent at least: in a store of 3 the second has two more, in one of 2 a second extent saves nothing
pub uneven-chosen : (smallest_total uneven (1 ∷ 0 ∷ []) 3 ≡ 3) × (chosen uneven (1 ∷ 0 ∷ []) 3 ≡ 1 ∷ 2 ∷ []) × (smallest_total uneven (1 ∷ 0 ∷ []) 2 ≡ 1) × (chosen uneven (1 ∷ 0 ∷ []) 1 ≡ 1 ∷ 0 ∷ [])
unfolding smallest_total chosen smallest_share first_from fewest lowest from sum misses_of extents_of counts_of summary_of words histogram firsts cleanup mem count_at count reuses depth touch remove
uneven-chosen = (refl, refl, refl, refl)

-- the call for both, their words end to end: 4 misses, the shares at the front of three words, and the third as it was
pub uneven-call : split_call 2 (0 ∷ 0 ∷ []) (flatten uneven) (7 ∷ 8 ∷ 9 ∷ []) ≡ record { answer = Ok 4; shares = 0 ∷ 2 ∷ 9 ∷ [] }
unfolding split_call divided all_formed well_formed reads_of first_of recent_of distinct all_in cut_summaries flatten split_of best_of best_after better split_misses share_lists flat_map from sum misses_of extents_of counts_of summary_of words histogram firsts cleanup mem count_at count reuses depth touch remove
uneven-call = refl

-- least shares that add up to one more than the store
pub uneven-refused : split_call 2 (1 ∷ 2 ∷ []) (flatten uneven) (7 ∷ 8 ∷ []) ≡ record { answer = Err StoreTooSmall; shares = 7 ∷ 8 ∷ [] }
unfolding split_call all_formed well_formed reads_of first_of recent_of distinct all_in cut_summaries flatten from sum misses_of extents_of counts_of summary_of words histogram firsts cleanup mem count_at count reuses depth touch remove
uneven-refused = refl
