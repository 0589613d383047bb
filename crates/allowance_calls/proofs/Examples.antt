-- Worked examples, computed from the definitions.
use Rattle.std.specs.Prelude.{Ok, Err}
use Rattle.reuse.specs.declared.refusals.Refusal.TheVariants.{NotASummary}
use mathlib.Core.Path.{◌≡◌, refl}
use Prim.Native.Nat.{ℕ}
use mathlib.Core.List.{List, [], ◌∷◌, map}
use Rattle.reuse.specs.Lists.{mem, all_in, distinct, remove, firsts, cleanup, from, sum, count}
use Rattle.reuse.specs.Lru.{depth, touch, reuses, count_at}
use Rattle.reuse.specs.Summary.{words, histogram, summary_of, reads_of, extents_of, first_of, recent_of, counts_of, misses_of, well_formed}
use Rattle.allowance_calls.specs.Smallest.{misses_list, first_within, smallest}
use Rattle.allowance_calls.specs.Search.{searched, words_searched}
use Rattle.allowance_calls.specs.Calls.{smallest_call}

-- the seven reads
abbrev seven : List ℕ
seven = 7 ∷ 3 ∷ 7 ∷ 9 ∷ 3 ∷ 3 ∷ 9 ∷ []

-- their full list of misses
pub seven-list : misses_list (summary_of seven) ≡ 7 ∷ 6 ∷ 4 ∷ 3 ∷ []
unfolding misses_list misses_of extents_of counts_of summary_of words histogram firsts cleanup mem count_at count from reuses depth touch remove sum
seven-list = refl

-- the words of H, which is 1 2 1, that the searches for 7, 6, 5, 4 and 3 misses read
pub seven-searched : map (words_searched (summary_of seven)) (7 ∷ 6 ∷ 5 ∷ 4 ∷ 3 ∷ []) ≡ [] ∷ (1 ∷ []) ∷ (1 ∷ 2 ∷ []) ∷ (1 ∷ 2 ∷ []) ∷ (1 ∷ 2 ∷ 1 ∷ []) ∷ []
unfolding words_searched searched reads_of extents_of counts_of summary_of words histogram firsts cleanup mem count_at count from reuses depth touch remove
seven-searched = refl

-- words with one extent that are too few: 5, though no miss is allowed
pub bad-first : smallest_call (1 ∷ 1 ∷ []) 0 ≡ Err NotASummary
unfolding smallest_call well_formed extents_of reads_of first_of recent_of counts_of distinct all_in sum
bad-first = refl

-- words that no log has, with H 0 3: for 2, 4 and 5 misses the sizes 2, 2 and 0
pub odd-sizes : map (smallest_call (5 ∷ 2 ∷ 4 ∷ 6 ∷ 4 ∷ 6 ∷ 0 ∷ 3 ∷ [])) (2 ∷ 4 ∷ 5 ∷ []) ≡ Ok (record { size = 2; words_read = 2 }) ∷ Ok (record { size = 2; words_read = 2 }) ∷ Ok (record { size = 0; words_read = 0 }) ∷ []
unfolding smallest_call smallest first_within misses_list misses_of words_searched searched well_formed extents_of reads_of first_of recent_of counts_of distinct all_in mem from sum
odd-sizes = refl
