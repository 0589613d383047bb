-- When the parts of a lister stand for a text taken so far: the bytes held of a line, the tally, and how far the text is.
use Rattle.std.specs.Prelude.{ℕ, ◌+◌, List, Bool, true, ◌&&◌, ◌||◌, eqb, leb, take, drop}
use Rattle.reuse.specs.Limits.{max_reads, max_extents}
use Rattle.reuse.specs.Lists.{distinct, sum}
use Rattle.reuse_rows.specs.Rows.{blank}
use Rattle.texts.specs.Lines.{line_count}
use Rattle.texts.specs.Logs.{longest_line}
use Rattle.listing_tally.specs.declared.Phase.{Phase}
use Rattle.listing_tally.specs.declared.Phase.TheVariants.{Empty, Inside, Whole, Stopped}

-- the bytes held of a line that has not ended: no more than a line has, none of them 10, and 0 after them
unfoldable pub holds_line : List ℕ → ℕ → Bool
holds_line line held = leb held longest_line && eqb (line_count (take held line)) 0 && blank (drop held line)

-- the tally in two rows: within the limits, no extent twice, each read counted or cold, and 0 after it
unfoldable pub holds_tally : ℕ → ℕ → List ℕ → List ℕ → Bool
holds_tally reads extents stack counts =
    leb extents max_extents
    && leb reads max_reads
    && distinct (take extents stack)
    && eqb (extents + sum (take extents counts)) reads
    && blank (drop extents stack)
    && blank (drop extents counts)

-- the numbers that a log text is refused with
unfoldable pub refuses_text : ℕ → Bool
refuses_text n = eqb n 1 || eqb n 2 || eqb n 8 || eqb n 9

-- how far the text is: before its first line it has no reads; refused, it keeps nothing but its number
unfoldable pub holds_phase : Phase → ℕ → ℕ → Bool
holds_phase Empty held reads = eqb reads 0
holds_phase Inside held reads = true
holds_phase Whole held reads = true
holds_phase (Stopped n) held reads = eqb held 0 && eqb reads 0 && refuses_text n
