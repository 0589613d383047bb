-- The smallest cache for a miss allowance m (02, ask 9), by the full list of misses.
use Rattle.std.specs.Prelude.{ℕ, suc, ◌≤◌, ◌↔◌, List, [], ◌∷◌, map, cond, leb}
use Rattle.reuse.specs.Lists.{from}
use Rattle.reuse.specs.Summary.{extents_of, misses_of}

-- the full list of misses: at the sizes 0, 1, and so on to v
unfoldable pub misses_list : List ℕ → List ℕ
misses_list w = map (misses_of w) (from 0 (suc (extents_of w)))

-- the place, counted from 0, of the first number that is at most m; the place after the last where there is none
unfoldable pub first_within : ℕ → List ℕ → ℕ
first_within m [] = 0
first_within m (n ∷ ns) = cond (leb n m) 0 (suc (first_within m ns))

-- the smallest size with at most m misses: the first in the full list
unfoldable pub smallest : List ℕ → ℕ → ℕ
smallest w m = first_within m (misses_list w)

-- s is the smallest of all sizes with at most m misses: those from s up have at most m, and no others
abbrev pub SmallestOfAll : (ℕ → ℕ) → ℕ → ℕ → Type 0
SmallestOfAll misses m s = (c : ℕ) → misses c ≤ m ↔ s ≤ c
