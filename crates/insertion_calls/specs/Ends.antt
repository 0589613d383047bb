-- Logs that reach the ends of the range, at every size where an end is reached.
use Rattle.std.specs.Prelude.{ℕ, suc, List, [], ◌∷◌, ◌++◌}
use Rattle.reuse.specs.Lists.{from}

-- 1, 2, up to c, twice over: c + 1 put in between adds c + 1 misses at size c
unfoldable pub rounds : ℕ → List ℕ
rounds c = from 1 c ++ from 1 c

-- 1, 2, up to c + 1, and 1 again: 1 put in after 2 spares a miss at size c, from 2 up
unfoldable pub late_again : ℕ → List ℕ
late_again c = from 1 (suc c) ++ (1 ∷ [])
