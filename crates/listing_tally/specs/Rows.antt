-- How far a text is, with its tally in the first words of two rows.
use Rattle.std.specs.Prelude.{◌≡◌, ℕ, ◌+◌, ◌≤◌, true, List, length, take}
use Rattle.reuse.specs.Limits.{max_reads, max_extents}
use Rattle.reuse.specs.Lists.{distinct, sum}
use Rattle.texts.specs.Lines.{Answer, to, no}
use Rattle.listing_texts.specs.Tallies.{Tally}
use Rattle.texts.specs.Logs.{empty, inside, whole}
use Rattle.listing_texts.specs.Feeding.{Taken, take_line}
use Rattle.listing_tally.specs.declared.Phase.{Phase}
use Rattle.listing_tally.specs.declared.Phase.TheVariants.{Empty, Inside, Whole, Stopped}
use Rattle.listing_tally.specs.declared.Progress.{Progress}

-- the tally in the first words of two rows
abbrev pub tally_in : ℕ → ℕ → List ℕ → List ℕ → Tally
tally_in reads extents stack counts = record { reads = reads; recent = take extents stack; counts = take extents counts }

-- rows that hold a tally: within the limits, no extent twice, each read counted or cold
pub record Tallied (reads extents : ℕ) (stack counts : List ℕ) : Type 0 where
  pub stack-wide : length stack ≡ max_extents
  pub counts-wide : length counts ≡ max_extents
  pub few : extents ≤ max_extents
  pub once : distinct (take extents stack) ≡ true
  pub all : extents + sum (take extents counts) ≡ reads
  pub short : reads ≤ max_reads

-- how far a text is, with its tally
abbrev pub taken_by : Phase → Tally → Answer Taken
taken_by Empty t = to empty
taken_by Inside t = to (inside t)
taken_by Whole t = to (whole t)
taken_by (Stopped n) t = no n

-- of a progress and its rows
abbrev pub taken_in : Progress → List ℕ → List ℕ → Answer Taken
taken_in p stack counts = taken_by p.phase (tally_in p.reads p.extents stack counts)

-- a line after that: nothing where the text is refused
abbrev pub and_then : Answer Taken → List ℕ → Answer Taken
and_then (to s) line = take_line s line
and_then (no n) line = no n
