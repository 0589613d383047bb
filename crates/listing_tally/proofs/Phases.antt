-- A line taken into rows that hold a tally: what it does to the rows is what it does to the text.
use Rattle.std.proofs.Common.{◌≡◌, ℕ, ◌+◌, ◌≤◌, eqb, List, [], ◌∷◌, ◌++◌, length, take, sym, refl, ◌∙◌, subst, arith, le-leb}
use mathlib.Core.Option.{Option, none, some}
use Rattle.reuse.specs.Lists.{distinct, sum}
use Rattle.reuse.proofs.Lists.{by-test}
use Rattle.texts.specs.Words.{after}
use Rattle.texts.specs.Logs.{Row, row, bad_row, row_of, trace_word, longest_line, row_by, head_by, step_by}
use Rattle.listing_texts.specs.Feeding.{take_row, take_head}
use Rattle.listing_lines.specs.Forms.{row_found, head_found}
use Rattle.listing_tally.specs.declared.Phase.{Phase}
use Rattle.listing_tally.specs.declared.Phase.TheVariants.{Empty, Inside, Whole, Stopped}
use Rattle.listing_tally.specs.Rows.{tally_in, Tallied, taken_by, taken_in, and_then}
use Rattle.listing_tally.specs.Standings.{Standing, head_taken, row_taken, line_taken, end_taken}
use Rattle.listing_tally.proofs.TallyRows.{read-law}

module _ (reads extents : ℕ) (stack counts : List ℕ) (g : Tallied reads extents stack counts) where
  -- no reads are a tally in the rows
  none-tallied : Tallied 0 0 stack counts
  unfolding distinct sum
  none-tallied = record {
    stack-wide = g.stack-wide;
    counts-wide = g.counts-wide;
    few = omega arith;
    once = refl;
    all = refl;
    short = omega arith;
  }

  -- the first line
  head-law : (o : Option (List ℕ)) →
      let p = head_taken reads extents (head_found o) in
      (taken_in p stack counts ≡ take_head o) × Tallied p.reads p.extents stack counts
  unfolding head_by
  head-law none = (refl, g)
  head-law (some []) = (refl, none-tallied)
  head-law (some (x ∷ [])) = by-test (eqb x 41) (λ e. rw e (refl, none-tallied)) (λ e. rw e (refl, g))
  head-law (some (x ∷ y ∷ l)) = (refl, g)

  -- a line inside the trace
  row-law : (l : Row) →
      let s = row_taken reads extents stack counts (row_found l) in
      (taken_in s.progress s.stack s.counts ≡ take_row (tally_in reads extents stack counts) l) × Tallied s.progress.reads s.progress.extents s.stack s.counts
  row-law (row x ends) = read-law reads extents stack counts g x ends
  row-law bad_row = unfold row_by in (refl, g)

  module _ (line : List ℕ) where
    -- what the line does to the rows, it does to the text, and they hold a tally
    abbrev Takes : Phase → Standing → Type 0
    Takes phase s =
        (taken_in s.progress s.stack s.counts ≡ and_then (taken_by phase (tally_in reads extents stack counts)) line)
        × Tallied s.progress.reads s.progress.extents s.stack s.counts

    -- by how far the text is
    by-phase : (phase : Phase) → Takes phase (line_taken reads extents stack counts phase line)
    unfolding step_by line_taken
    by-phase Empty = head-law (after trace_word line)
    by-phase Inside = row-law (row_of line)
    by-phase Whole = (refl, g)
    by-phase (Stopped n) = (refl, g)

    -- of what the code answers
    pub line-law : (phase : Phase) (s : Standing) → s ≡ line_taken reads extents stack counts phase line → Takes phase s
    line-law phase s e = subst (Takes phase) (sym e) (by-phase phase)

  -- a line that ends and fits, of what the code answers
  pub end-law : (phase : Phase) (front : List ℕ) (held : ℕ) (rest : List ℕ) → held + length rest ≤ longest_line
      → (s : Standing) → s ≡ end_taken reads extents stack counts phase front held rest → Takes (take held front ++ rest) phase s
  unfolding end_taken
  end-law phase front held rest h s e =
      line-law (take held front ++ rest) phase s (e ∙ rw (le-leb (held + length rest) longest_line h))
