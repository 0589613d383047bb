-- The smallest cache for a miss allowance (02, ask 9): of any summary's words, and of logs.
use Rattle.std.specs.Prelude.{ℕ, suc, ◌≤◌, ◌<◌, ◌≡◌, ◌↔◌, List, [], map, length, take, Ok}
use Rattle.reuse.specs.Lists.{firsts, from, count}
use Rattle.reuse.specs.Lru.{reuses, is_cold}
use Rattle.reuse.specs.Cache.{cache_misses}
use Rattle.reuse.specs.Summary.{summary_of, extents_of, counts_of, misses_of}
use Rattle.summary_calls.specs.Calls.{misses_call}
use Rattle.allowance_calls.specs.Smallest.{misses_list, smallest, SmallestOfAll}
use Rattle.allowance_calls.specs.Search.{words_searched}
use Rattle.allowance_calls.specs.Calls.{smallest_call}
use Rattle.allowance_calls.specs.Refusals.{size_refusal}
use Rattle.whole.specs.Runs.{gives}
use Rattle.whole.specs.Groupings.{AllUnset, Grouping, parts, log_of, grouped}

-- of well-formed words, whether or not a log has them, and an allowance of at least the cold reads
pub record Allowances (w : List ℕ) (m : ℕ) : Type 0 where
  -- the full list of misses is what the call for the misses answers at the sizes 0, 1, and so on to v
  pub listed : map (misses_call w) (from 0 (suc (extents_of w))) ≡ map Ok (misses_list w)
  -- the size answered is the first in that list with at most m, and as many words of H were read
  pub answered : smallest_call w m ≡ Ok (record { size = smallest w m; words_read = smallest w m })
  -- those of the distances from 1 to that size, in this order
  pub upwards : words_searched w m ≡ take (smallest w m) (counts_of w)
  -- the size is at most v
  pub in_list : smallest w m ≤ extents_of w
  -- and the smallest of all sizes with at most m misses, of those above v too; every larger size has at most m
  pub of-all : SmallestOfAll (misses_of w) m (smallest w m)

-- of a log within the limits and any allowance
pub record LogAllowances (t : List ℕ) (m : ℕ) : Type 0 where
  -- the full list is that of the caches of the sizes 0, 1, and so on to the number of the log's extents
  pub cached : misses_list (summary_of t) ≡ map (λ c. cache_misses c t) (from 0 (suc (length (firsts t))))
  -- from the cold reads up some size is answered, with as many words of H read: caches of that size and above miss at most m
  -- times, and no others
  pub found : count is_cold (reuses [] t) ≤ m → (s : ℕ) × (smallest_call (summary_of t) m ≡ Ok (record { size = s; words_read = s })) × SmallestOfAll (λ c. cache_misses c t) m s
  -- 12 exactly if m is below the cold reads
  pub turned-away : size_refusal (smallest_call (summary_of t) m) ≡ 12 ↔ m < count is_cold (reuses [] t)
  -- that is, if every cache misses more often
  pub no-cache : size_refusal (smallest_call (summary_of t) m) ≡ 12 ↔ ((c : ℕ) → m < cache_misses c t)
  -- the words that any grouping of any cutting hands over are answered the same
  pub handed-over : (g : Grouping) → AllUnset (parts g) → log_of (parts g) ≡ t → (w : List ℕ) → grouped g ≡ gives w
      → smallest_call w m ≡ smallest_call (summary_of t) m
