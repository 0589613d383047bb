-- Handing out a store one extent at a time, which the split does not do.
use Rattle.std.specs.Prelude.{ℕ, zero, suc, List, [], ◌∷◌, map}
use Rattle.split_calls.specs.Split.{best_of}

-- the shares with one extent more: the first customer's, the second's, and so on
unfoldable pub with_one_more : List ℕ → List (List ℕ)
with_one_more [] = []
with_one_more (share ∷ shares) = (suc share ∷ shares) ∷ map (λ rest. share ∷ rest) (with_one_more shares)

-- n extents handed out, each to the first customer with whom the misses in all are fewest
unfoldable pub handed_out : List (List ℕ) → List ℕ → ℕ → List ℕ
handed_out summaries shares zero = shares
handed_out summaries shares (suc n) = handed_out summaries (best_of summaries (with_one_more shares)) n
