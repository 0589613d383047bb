-- The table of fewest misses by which a split is found, and the choice from it.
use Rattle.std.specs.Prelude.{ℕ, zero, suc, ◌+◌, ◌-◌, min, List, [], ◌∷◌, Bool, cond, eqb}
use Rattle.reuse.specs.Lists.{sum}
use Rattle.reuse.specs.Summary.{misses_of}

-- the least of f k, f (k + 1), and so on to f (k + n)
unfoldable pub lowest : (ℕ → ℕ) → ℕ → ℕ → ℕ
lowest f k zero = f k
lowest f k (suc n) = min (f k) (lowest f (suc k) n)

-- the fewest misses of these customers with at most `room` extents where their least shares fit: the first has its least
-- share and any part of what is left over, the others the rest
unfoldable pub fewest : List (List ℕ) → List ℕ → ℕ → ℕ
fewest [] leasts room = 0
fewest (summary ∷ summaries) [] room = 0
fewest (summary ∷ summaries) (least ∷ leasts) room =
    lowest (λ share. misses_of summary share + fewest summaries leasts (room - share)) least (room - sum (least ∷ leasts))

-- the first of k, k + 1, and so on that passes a test; k + n where none before it does
unfoldable pub first_from : (ℕ → Bool) → ℕ → ℕ → ℕ
first_from p k zero = k
first_from p k (suc n) = cond (p k) k (first_from p (suc k) n)

-- the smallest room in which the misses are as few as in this one
unfoldable pub smallest_total : List (List ℕ) → List ℕ → ℕ → ℕ
smallest_total summaries leasts room = first_from (λ t. eqb (fewest summaries leasts t) (fewest summaries leasts room)) (sum leasts) (room - sum leasts)

-- the smallest share of the first customer with which the fewest misses are reached
unfoldable pub smallest_share : List ℕ → List (List ℕ) → ℕ → List ℕ → ℕ → ℕ
smallest_share summary summaries least leasts room =
    first_from
    (λ share. eqb (misses_of summary share + fewest summaries leasts (room - share)) (fewest (summary ∷ summaries) (least ∷ leasts) room))
    least
    (room - sum (least ∷ leasts))

-- such shares one after the other; the least ones where no summary is left
unfoldable pub chosen : List (List ℕ) → List ℕ → ℕ → List ℕ
chosen [] leasts room = leasts
chosen (summary ∷ summaries) [] room = []
chosen (summary ∷ summaries) (least ∷ leasts) room =
    smallest_share summary summaries least leasts room ∷ chosen summaries leasts (room - smallest_share summary summaries least leasts room)
