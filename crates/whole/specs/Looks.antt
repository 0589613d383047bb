-- The slots that the reads of a log look at.
use Rattle.std.specs.Prelude.{ℕ, ◌≡◌, List, [], ◌∷◌, ◌++◌}
use Rattle.reuse.specs.Lists.{mem}
use Rattle.session.specs.declared.Session.{Session}
use Rattle.session.specs.Sessions.{fresh, stack_of}
use Rattle.session_calls.specs.Reads.{slots_looked}
use Rattle.session.specs.Reads.{roomed, looked_at, read_of}
use Rattle.session_traces.specs.Looks.{Look}
use Rattle.whole.specs.Runs.{session_after}

-- the slots that each of a list of read calls looks at, after any move of the marks
unfoldable pub looked_along : Session → List ℕ → List (List ℕ)
looked_along s [] = []
looked_along s (x ∷ xs) = looked_at (roomed s) x ∷ looked_along (read_of s x).session xs

-- what a read of x looks at after the log t
pub record Looked (t : List ℕ) (x : ℕ) : Type 0 where
  -- x has a mark exactly where t has a read of it
  pub has-mark : mem x (stack_of (session_after fresh t)) ≡ mem x t
  -- the slots from the newest down to that mark, or all below next
  pub look : Look (session_after fresh t) x
  -- one where x was read last
  pub again : (earlier : List ℕ) → t ≡ earlier ++ (x ∷ []) → slots_looked (read_of (session_after fresh t) x).answer ≡ 1
