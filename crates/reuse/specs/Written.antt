-- An answer written as one word.
use Rattle.std.specs.Prelude.{ℕ, ◌+◌, ◌≤◌}
use Rattle.reuse.specs.Lru.{Reuse, cold, at}

-- a cold read is written as this plus its number
abbrev pub cold_base : ℕ
cold_base = 65_536

-- an answer as the distance buffer writes it: above 65,536 a cold read by its number, else the distance
abbrev pub word_of : Reuse → ℕ
word_of (cold n) = cold_base + n
word_of (at d) = d

-- an answer with a number or a distance from 1 to n
abbrev pub UpTo : ℕ → Reuse → Type 0
UpTo n (cold k) = (1 ≤ k) × (k ≤ n)
UpTo n (at d) = (1 ≤ d) × (d ≤ n)
