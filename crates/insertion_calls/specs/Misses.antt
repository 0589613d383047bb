-- The misses of further reads after a stack.
use Rattle.std.specs.Prelude.{ℕ, ◌+◌, List, cond}
use Rattle.reuse.specs.Lru.{depth, touch, reuses, within, misses_at}

-- the misses of one read of x from the stack s on: none where its distance is at most c, else one
unfoldable pub miss_of : ℕ → List ℕ → ℕ → ℕ
miss_of c s x = cond (within c (depth s x)) 0 1

-- the misses of further reads from the stack s on
unfoldable pub misses_from : ℕ → List ℕ → List ℕ → ℕ
misses_from c s t = misses_at c (reuses s t)

-- the misses of a read of x and then those reads
unfoldable pub misses_with : ℕ → List ℕ → ℕ → List ℕ → ℕ
misses_with c s x t = miss_of c s x + misses_from c (touch s x) t
