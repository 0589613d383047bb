-- Groupings: parts, each taken by calls from a new session, and joins of them.
use Rattle.std.specs.Prelude.{ℕ, List, [], ◌∷◌, ◌++◌, Bool, ◌&&◌, length}
use Rattle.summary_calls.specs.Calls.{join_call}
use Rattle.session_summary.specs.Summaries.{summary_call}
use Rattle.whole.specs.Runs.{Outcome, gives, refused, outcome, room_for}
use Rattle.whole.specs.Moments.{Call, state_after, begun, Unset}
use Rattle.whole.specs.Remembered.{remembered}

-- a part: the calls that take it, and the words lent for its names
pub record Part : Type 0 where
  pub calls : List Call
  pub names : List ℕ

-- its log: what its calls remember
abbrev pub part_log : Part → List ℕ
part_log p = remembered (length p.names) p.calls

-- each part begins with no name set
unfoldable pub AllUnset : List Part → Type 0
AllUnset [] = Unit {0}
AllUnset (p ∷ ps) = Unset p.names × AllUnset ps

-- a grouping: one part, with the buffer lent for its summary; or the join of a grouping of some first parts, then one of
-- the rest, with the buffer lent for it
pub data Grouping : Type 0 where
  part : Part → List ℕ → Grouping
  joined : Grouping → Grouping → List ℕ → Grouping

-- its parts, in order
unfoldable pub parts : Grouping → List Part
parts (part p buffer) = p ∷ []
parts (joined g h buffer) = parts g ++ parts h

-- the log: those of the parts, end to end
unfoldable pub log_of : List Part → List ℕ
log_of [] = []
log_of (p ∷ ps) = part_log p ++ log_of ps

-- a join of what two groupings handed over
abbrev pub joined_with : Outcome → Outcome → List ℕ → Outcome
joined_with (gives a) (gives b) buffer = outcome (join_call a b buffer)
joined_with (gives a) (refused n) buffer = refused n
joined_with (refused n) b buffer = refused n

-- what a grouping hands over, each part from a new session
unfoldable pub grouped : Grouping → Outcome
grouped (part p buffer) = outcome (summary_call (state_after (begun p.names) p.calls).session buffer)
grouped (joined g h buffer) = joined_with (grouped g) (grouped h) buffer

-- each buffer of a grouping has room for its summary
unfoldable pub roomy : Grouping → Bool
roomy (part p buffer) = room_for (part_log p) buffer
roomy (joined g h buffer) = roomy g && roomy h && room_for (log_of (parts (joined g h buffer))) buffer
