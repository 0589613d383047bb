-- What a line does to a text taken so far, whatever stands in the rows of its tally.
use Rattle.std.specs.Prelude.{ℕ, ◌+◌, ◌-◌, Bool, cond, Option, None, Some, List, ◌++◌, length, take, nat_le, nat_lt, slice_set}
use Rattle.reuse.specs.Limits.{max_reads}
use Rattle.reuse_rows.specs.Rows.{one_more}
use Rattle.reuse_engine.specs.Engine.{place_of, left_by}
use Rattle.reuse_engine.specs.declared.Place.{Place}
use Rattle.reuse_engine.specs.declared.Place.TheVariants.{Cold, Depth, Full, BadCount}
use Rattle.texts.specs.Limits.{max_extent}
use Rattle.texts.specs.Words.{after}
use Rattle.texts.specs.Logs.{trace_word, row_of, longest_line}
use Rattle.listing_lines.specs.Forms.{row_found, head_found}
use Rattle.listing_tally.specs.declared.Phase.{Phase}
use Rattle.listing_tally.specs.declared.Phase.TheVariants.{Empty, Inside, Whole, Stopped}
use Rattle.listing_tally.specs.declared.Progress.{Progress}

-- how far a text is, and the rows of its tally: the LRU stack, and the counts of the distances
pub record Standing : Type 0 where
  pub progress : Progress
  pub stack : List ℕ
  pub counts : List ℕ

-- by its parts
abbrev pub stands_at : Progress → List ℕ → List ℕ → Standing
stands_at p stack counts = record { progress = p; stack = stack; counts = counts }

-- refused with this number
abbrev pub refused : ℕ → ℕ → ℕ → Progress
refused n reads extents = record { phase = Stopped n; reads = reads; extents = extents }

-- inside the trace, or at its end
abbrev pub go_on : Bool → ℕ → ℕ → Progress
go_on ends reads extents = record { phase = cond ends Whole Inside; reads = reads; extents = extents }

-- the first line: a trace of no reads begins, or the text is refused
abbrev pub head_taken : ℕ → ℕ → Option Bool → Progress
head_taken reads extents (Some ends) = go_on ends 0 0
head_taken reads extents None = refused 1 reads extents

-- a text with so many reads of so many extents, and its rows
module _ (reads extents : ℕ) (stack counts : List ℕ) where
  -- it is refused, the rows as they were
  abbrev pub refused_with : ℕ → Standing
  refused_with n = stands_at (refused n reads extents) stack counts

  -- a read of x, by where x stood in the stack
  abbrev pub read_at : Place → ℕ → Bool → Standing
  read_at Cold x ends = stands_at (go_on ends (reads + 1) (extents + 1)) (left_by Cold extents x stack) (slice_set counts extents 0)
  read_at (Depth d) x ends = stands_at (go_on ends (reads + 1) extents) (left_by (Depth d) extents x stack) (one_more (d - 1) counts)
  read_at Full x ends = refused_with 9
  read_at BadCount x ends = refused_with 7

  -- a read of x: refused with 2 and 8 by the limits, and with 7 where there are fewer counts than words of the stack
  unfoldable pub read_taken : ℕ → Bool → Standing
  read_taken x ends =
      cond (nat_lt max_extent x) (refused_with 2)
      (cond (nat_le max_reads reads) (refused_with 8)
      (cond (nat_lt (length counts) (length stack)) (refused_with 7)
      (read_at (place_of stack extents x) x ends)))

  -- a read's line
  abbrev pub row_taken : Option (ℕ × Bool) → Standing
  row_taken (Some read) = read_taken read.0 read.1
  row_taken None = refused_with 1

  -- a line, by how far the text is
  unfoldable pub line_taken : Phase → List ℕ → Standing
  line_taken Empty line = stands_at (head_taken reads extents (head_found (after trace_word line))) stack counts
  line_taken Inside line = row_taken (row_found (row_of line))
  line_taken Whole line = refused_with 1
  line_taken (Stopped n) line = refused_with n

  -- a line that ends, its first bytes held in front of a row, the rest of it after them: refused with 1 where it is too long
  unfoldable pub end_taken : Phase → List ℕ → ℕ → List ℕ → Standing
  end_taken phase front held rest = cond (nat_le (held + length rest) longest_line) (line_taken phase (take held front ++ rest)) (refused_with 1)
