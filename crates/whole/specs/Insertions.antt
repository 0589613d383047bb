-- What one more read does to the misses of a log (02, ask 7).
use Rattle.std.specs.Prelude.{ℕ, suc, ◌+◌, ◌≤◌, ◌<◌, ◌≡◌, List, cond, ℤ, pos, neg_ℤ, ◌-ℤ◌, length, get_or, ◌≤ℤ◌, Ok}
use Rattle.reuse.specs.Limits.{max_extents}
use Rattle.reuse.specs.Lists.{mem, firsts}
use Rattle.reuse.specs.Cache.{cache_misses}
use Rattle.reuse.specs.Traces.{Within}
use Rattle.session.specs.Sessions.{fresh}
use Rattle.session_summary.specs.Summaries.{misses_call}
use Rattle.insertion_calls.specs.Insertion.{put, change_of, Bounded}
use Rattle.insertion_calls.specs.Ends.{rounds, late_again}
use Rattle.insertion_calls.specs.Calls.{insertion_call}
use Rattle.whole.specs.Runs.{session_after}

-- a read of x put into the log t at a place, at size c
pub record Insertions (t : List ℕ) (place x c : ℕ) : Type 0 where
  -- the change is from −1 to c + 1
  pub bounded : Bounded c (change_of c place x t)
  -- so is what the call answers
  pub answers-bounded : (d : ℤ) → insertion_call t place x c ≡ Ok d → Bounded c d
  -- the change is that of the misses of the cache of size c
  pub cached : change_of c place x t ≡ pos (cache_misses c (put place x t)) -ℤ pos (cache_misses c t)
  -- the call answers by how much the misses told by the session that reads the longer log exceed those told by the session that reads t
  pub readings : place ≤ length t → Within (put place x t) → (with without : ℕ)
      → misses_call (session_after fresh (put place x t)) c ≡ Ok with → misses_call (session_after fresh t) c ≡ Ok without
      → insertion_call t place x c ≡ Ok (pos with -ℤ pos without)
  -- at size 0 it is 1
  pub nothing-held : c ≡ 0 → change_of c place x t ≡ pos 1
  -- below size 2 the lower end is not reached: no read spares a miss
  pub nothing-spared : c < 2 → pos 0 ≤ℤ change_of c place x t
  -- at a size with room for all extents it is 1 for an extent that the log has not, else 0
  pub room-for-all : length (firsts (put place x t)) ≤ c → change_of c place x t ≡ pos (cond (mem x t) 0 1)
  -- from size 1 up a read put in directly before a read of the same extent, or directly after it, changes nothing
  pub before-itself : place < length t → get_or t place 0 ≡ x → 1 ≤ c → change_of c place x t ≡ pos 0
  pub after-itself : place < length t → get_or t place 0 ≡ x → 1 ≤ c → change_of c (suc place) x t ≡ pos 0

-- both ends are reached at size c: c + 1 at every size, −1 from 2 up; by the call wherever the limit of extents allows
pub record EndsReached (c : ℕ) : Type 0 where
  pub upper : change_of c c (suc c) (rounds c) ≡ pos (c + 1)
  pub lower : 2 ≤ c → change_of c 2 1 (late_again c) ≡ neg_ℤ (pos 1)
  pub upper-called : c < max_extents → insertion_call (rounds c) c (suc c) c ≡ Ok (pos (c + 1))
  pub lower-called : c < max_extents → 2 ≤ c → insertion_call (late_again c) 2 1 c ≡ Ok (neg_ℤ (pos 1))
