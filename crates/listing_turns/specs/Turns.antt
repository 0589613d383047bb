-- A piece of a log text taken to the end of its next line, whatever stands in the rows of the tally.
use Rattle.std.specs.Prelude.{ℕ, ◌+◌, ◌-◌, List, Bool, true, false, cond, ◌&&◌, ◌||◌, eqb, ltb, leb, length, take, drop}
use Rattle.reuse_rows.specs.Rows.{placed}
use Rattle.texts.specs.Logs.{longest_line}
use Rattle.texts_pieces.specs.Pieces.{line_length}
use Rattle.listing_tally.specs.Standings.{Standing, end_taken}
use Rattle.listing_tally.specs.declared.Phase.{Phase}
use Rattle.listing_tally.specs.declared.Phase.TheVariants.{Empty, Inside, Whole, Stopped}
use Rattle.listing_tally.specs.declared.Progress.{Progress}
use Rattle.listing_turns.specs.declared.Turn.{Turn}

-- a text that is refused
abbrev pub is_stopped : Phase → Bool
is_stopped Empty = false
is_stopped Inside = false
is_stopped Whole = false
is_stopped (Stopped n) = true

-- how far a piece is taken, and the rows of the tally
pub record Reached : Type 0 where
  pub turn : Turn
  pub stack : List ℕ
  pub counts : List ℕ

-- by its parts
abbrev pub reaches : Turn → List ℕ → List ℕ → Reached
reaches turn stack counts = record { turn = turn; stack = stack; counts = counts }

-- at this position with these bytes held
abbrev pub turn_at : ℕ → List ℕ → ℕ → Phase → ℕ → ℕ → Turn
turn_at at line held phase reads extents = record { at = at; line = line; held = held; progress = record { phase = phase; reads = reads; extents = extents } }

-- the turn after a line: on to the next one, or past the whole piece where the text is refused
abbrev pub turn_after : List ℕ → Progress → ℕ → ℕ → Turn
turn_after line p next len = record {
  at = cond (is_stopped p.phase) len next;
  line = line;
  held = 0;
  progress = p;
}

-- what is reached by it
abbrev pub reached_by : List ℕ → ℕ → ℕ → Standing → Reached
reached_by line next len s = reaches (turn_after line s.progress next len) s.stack s.counts

-- a piece from a position on, what is held of a line, and the text so far
module _ (bytes : List ℕ) (at : ℕ) (line : List ℕ) (held : ℕ) (phase : Phase) (reads extents : ℕ) (stack counts : List ℕ) where
  -- by how many bytes of the line stand in the piece: all are held where the piece ends there and they fit, else the line ends
  abbrev pub turn_by : ℕ → Reached
  turn_by n =
      cond (eqb (at + n) (length bytes) && leb (held + n) longest_line)
      (reaches (turn_at (at + n) (placed line held (take n (drop at bytes))) (held + n) phase reads extents) stack counts)
      (reached_by line (at + n + 1) (length bytes) (end_taken reads extents stack counts phase line held (take n (drop at bytes))))

  -- the piece taken to the end of its next line or to its own end; past a piece, or with too much held, nothing is taken
  unfoldable pub advanced : Reached
  advanced =
      cond (ltb (length bytes) at || ltb longest_line held) (reaches (turn_at (length bytes) line held phase reads extents) stack counts)
      (turn_by (line_length (longest_line + 1 - held) (drop at bytes)))
