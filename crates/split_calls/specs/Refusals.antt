-- When a split is refused: each number exactly under its condition, looked at after those before it.
use Rattle.reuse.specs.Refusals.{refusal_number}
use Rattle.std.specs.Prelude.{ℕ, ◌≤◌, ◌<◌, ◌≡◌, ◌⊎◌, ◌↔◌, ◌≢◌, false, length, Result, Ok, Err}
use Rattle.reuse.specs.declared.refusals.Refusal.{Refusal}
use mathlib.Core.List.{List, Memᴰ}
use Rattle.reuse.specs.Limits.{max_store, max_customers}
use Rattle.reuse.specs.Lists.{sum}
use Rattle.reuse.specs.Summary.{well_formed}
use Rattle.split_calls.specs.Cuts.{cut_summaries}
use Rattle.split_calls.specs.Calls.{split_call}

-- the refusal's number, 0 where there is none
abbrev pub split_refusal : Result ℕ Refusal → ℕ
split_refusal (Ok n) = 0
split_refusal (Err r) = refusal_number r

-- a store above the largest, or a number of customers that is not from 1 to the most
abbrev pub Outside : ℕ → List ℕ → Type 0
Outside store leasts = max_store < store ⊎ (length leasts < 1 ⊎ max_customers < length leasts)

-- some summary is not well formed
abbrev pub SomeBad : List (List ℕ) → Type 0
SomeBad summaries = (w : List ℕ) × Memᴰ w summaries × (well_formed w ≡ false)

-- of every call
pub record Refusals (store : ℕ) (leasts words shares : List ℕ) : Type 0 where
  -- 2: the store or the number of customers
  pub two : split_refusal (split_call store leasts words shares).answer ≡ 2 ↔ Outside store leasts
  -- 5: a bad summary, the numbers being in order
  pub five : split_refusal (split_call store leasts words shares).answer ≡ 5 ↔ ((Outside store leasts → ⊥) × SomeBad (cut_summaries (length leasts) words))
  -- 10: looked at after those, the least shares add up to more than the store
  pub ten : split_refusal (split_call store leasts words shares).answer ≡ 10
      ↔ ((Outside store leasts → ⊥) × (SomeBad (cut_summaries (length leasts) words) → ⊥) × (store < sum leasts))
  -- 6: last, fewer words for the shares than customers
  pub six : split_refusal (split_call store leasts words shares).answer ≡ 6
      ↔ ((Outside store leasts → ⊥) × (SomeBad (cut_summaries (length leasts) words) → ⊥) × (sum leasts ≤ store) × (length shares < length leasts))
  -- a refusal leaves every lent word
  pub kept : split_refusal (split_call store leasts words shares).answer ≢ 0 → (split_call store leasts words shares).shares ≡ shares
