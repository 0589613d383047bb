-- What a split of one store answers, and what it leaves in the shares lent to it.
use Rattle.std.specs.Prelude.{ℕ, List, [], ◌∷◌, ◌++◌, Bool, true, cond, ◌&&◌, leb, length, drop, Result, Ok, Err}
use Rattle.reuse.specs.declared.refusals.Refusal.{Refusal}
use Rattle.reuse.specs.declared.refusals.Refusal.TheVariants.{OutOfRange, NotASummary, NoRoom, StoreTooSmall}
use Rattle.reuse.specs.Limits.{max_store, max_customers}
use Rattle.reuse.specs.Lists.{sum}
use Rattle.reuse.specs.Summary.{well_formed}
use Rattle.split_calls.specs.Split.{split_misses, split_of}
use Rattle.split_calls.specs.Cuts.{cut_summaries}

-- the answer, and the lent shares after it
pub record Divided : Type 0 where
  pub answer : Result ℕ Refusal
  pub shares : List ℕ

-- the refusal n, with the shares as they were
abbrev pub turned_away : Refusal → List ℕ → Divided
turned_away n shares = record { answer = Err n; shares = shares }

-- the misses in all of these customers' split, with their shares at the front and the words past them as they were
unfoldable pub divided : List (List ℕ) → List ℕ → ℕ → List ℕ → Divided
divided summaries leasts store shares = record {
  answer = Ok (split_misses summaries (split_of summaries leasts store));
  shares = split_of summaries leasts store ++ drop (length leasts) shares;
}

-- a number of customers from 1 to the most
abbrev pub customers_fit : ℕ → Bool
customers_fit n = leb 1 n && leb n max_customers

-- each is a well-formed summary
unfoldable pub all_formed : List (List ℕ) → Bool
all_formed [] = true
all_formed (w ∷ ws) = well_formed w && all_formed ws

-- the split of a store among as many customers as there are least shares, their summaries end to end: 2 for the store,
-- 2 for the customers, 5, 10, 6
unfoldable pub split_call : ℕ → List ℕ → List ℕ → List ℕ → Divided
split_call store leasts words shares =
    cond (leb store max_store)
    (cond (customers_fit (length leasts))
    (cond (all_formed (cut_summaries (length leasts) words))
    (cond (leb (sum leasts) store)
    (cond (leb (length leasts) (length shares))
    (divided (cut_summaries (length leasts) words) leasts store shares)
    (turned_away NoRoom shares))
    (turned_away StoreTooSmall shares))
    (turned_away NotASummary shares))
    (turned_away OutOfRange shares))
    (turned_away OutOfRange shares)
