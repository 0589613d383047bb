-- What one more read does to the misses of a trace (02, ask 7).
use Rattle.std.specs.Prelude.{ℕ, ◌+◌, List, [], ◌∷◌, ◌++◌, ℤ, pos, neg_ℤ, ◌-ℤ◌, ◌≤ℤ◌, take, drop}
use Rattle.reuse.specs.Lru.{reuses, misses_at}

-- the trace with a read of x put in at a place, from 0 to its length: the reads before the place, then x, then the read that stands there and the rest
unfoldable pub put : ℕ → ℕ → List ℕ → List ℕ
put place x t = take place t ++ (x ∷ drop place t)

-- misses at size c with a read of x put in at the place, less misses without it, as a signed number
unfoldable pub change_of : ℕ → ℕ → ℕ → List ℕ → ℤ
change_of c place x t = pos (misses_at c (reuses [] (put place x t))) -ℤ pos (misses_at c (reuses [] t))

-- a signed number from −1 to c + 1
pub record Bounded (c : ℕ) (d : ℤ) : Type 0 where
  pub least : neg_ℤ (pos 1) ≤ℤ d
  pub most : d ≤ℤ pos (c + 1)
