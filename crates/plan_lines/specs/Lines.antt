-- A line found at a place of a text.
use Rattle.std.specs.Prelude.{◌≡◌, ℕ, ◌+◌, ◌-◌, ◌≤◌, ◌<◌, ◌≢◌, List, Option, None, Some, length, drop, slice_index}
use Rattle.texts.specs.PlanPlaces.{Place, seg_at, join_at, bad_at, line_at}
use Rattle.plan_lines.specs.declared.Line.{Line}
use Rattle.plan_lines.specs.declared.Line.TheVariants.{Seg, Join}

-- in a text of so many bytes: the line, and the position of what stands after it
abbrev pub line_by : ℕ → Place → Option Line
line_by len (seg_at n closes rest) = Some (Seg n closes (len - length rest))
line_by len (join_at rest) = Some (Join (len - length rest))
line_by len bad_at = None

-- at this place, under so many brackets
unfoldable pub line_found : List ℕ → ℕ → ℕ → Option Line
line_found s at under = line_by (length s) (line_at under (drop at s))

-- a line and the text after it
abbrev pub place_of : List ℕ → Option Line → Place
place_of s (Some (Seg n closes next)) = seg_at n closes (drop next s)
place_of s (Some (Join next)) = join_at (drop next s)
place_of s None = bad_at

-- the position past a line
abbrev pub LineWithin : ℕ → ℕ → Option Line → Type 0
LineWithin at len (Some (Seg n closes next)) = (at < next) × (next ≤ len)
LineWithin at len (Some (Join next)) = (at < next) × (next ≤ len)
LineWithin at len None = Unit

-- the position past byte 10, if it stands there
abbrev pub LineEnd : List ℕ → ℕ → Option ℕ → Type 0
LineEnd s at (Some next) = (at < length s) × (slice_index s at ≡ 10) × (next ≡ at + 1)
LineEnd s at None = at < length s → slice_index s at ≢ 10
