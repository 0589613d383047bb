-- One store split among customers, said of their logs.
use Rattle.std.specs.Prelude.{ℕ, ◌≤◌, ◌<◌, max, ◌≡◌, ◌↔◌, true, length, drop, get_or, Ok}
use mathlib.Core.List.{List, [], ◌∷◌, ◌++◌, map, flatten, Memᴰ}
use Rattle.reuse.specs.Limits.{max_store, max_customers}
use Rattle.reuse.specs.Lists.{sum, firsts}
use Rattle.reuse.specs.Summary.{summary_of}
use Rattle.reuse.specs.Traces.{Within}
use Rattle.split_calls.specs.Split.{Allowed, cached_misses, not_after}
use Rattle.split_calls.specs.Calls.{Divided, split_call}
use Rattle.split_calls.specs.Refusals.{split_refusal}

-- the logs of as many customers as may share a store, a least share for each, and a store that may be split
pub record Customers (logs : List (List ℕ)) (store : ℕ) (leasts : List ℕ) : Type 0 where
  pub within : (t : List ℕ) → Memᴰ t logs → Within t
  pub each : length logs ≡ length leasts
  pub some : 1 ≤ length leasts
  pub few : length leasts ≤ max_customers
  pub small : store ≤ max_store

-- the call on the logs' summaries end to end
unfoldable pub split_of_logs : List (List ℕ) → ℕ → List ℕ → List ℕ → Divided
split_of_logs logs store leasts buffer = split_call store leasts (flatten (map summary_of logs)) buffer

-- what shares are compared by: the misses in all, each customer's in a cache of its own, then the total, then the shares from the first
abbrev pub cached_rank : List (List ℕ) → List ℕ → List ℕ
cached_rank logs shares = cached_misses logs shares ∷ sum shares ∷ shares

-- these shares are the answer: the misses are those of caches as large, they may be given, and no others that may come before them
pub record Shared (logs : List (List ℕ)) (store : ℕ) (leasts buffer shares : List ℕ) : Type 0 where
  pub answered : split_of_logs logs store leasts buffer ≡ record { answer = Ok (cached_misses logs shares); shares = shares ++ drop (length leasts) buffer }
  pub allowed : Allowed leasts store shares
  -- none is above both its least and the number of the customer's extents
  pub needed : (i : ℕ) → get_or shares i 0 ≤ max (get_or leasts i 0) (length (firsts (get_or logs i [])))
  pub best : (others : List ℕ) → Allowed leasts store others → not_after (cached_rank logs shares) (cached_rank logs others) ≡ true

-- what holds of every split of a store among the logs' customers
pub record Splits (logs : List (List ℕ)) (store : ℕ) (leasts buffer : List ℕ) : Type 0 where
  -- where the least shares fit and there is a word for each share, there are such shares
  pub found : sum leasts ≤ store → length leasts ≤ length buffer → (shares : List ℕ) × Shared logs store leasts buffer shares
  -- 10 exactly if the least shares add up to more than the store
  pub turned-away : split_refusal (split_of_logs logs store leasts buffer).answer ≡ 10 ↔ store < sum leasts
