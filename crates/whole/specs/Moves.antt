-- When the marks of a log's session first move (02, 'Room for a thousand extents').
use Rattle.std.specs.Prelude.{ℕ, ◌≤◌, ◌<◌, ◌≡◌, List, length}
use Rattle.reuse.specs.Limits.{slot_count}
use Rattle.session.specs.Sessions.{fresh}
use Rattle.session.specs.Reads.{gathered, roomed}
use Rattle.whole.specs.Runs.{session_after}

-- what the read after the log t finds
pub record FirstMove (t : List ℕ) : Type 0 where
  -- until the marks move each read has taken one slot
  pub next : length t ≤ slot_count → (session_after fresh t).next ≡ length t
  -- no read up to the one whose number is that of the slots moves them
  pub stays : length t < slot_count → roomed (session_after fresh t) ≡ session_after fresh t
  -- the one after it does
  pub moves : length t ≡ slot_count → roomed (session_after fresh t) ≡ gathered (session_after fresh t)
