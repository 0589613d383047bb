-- A log text taken in pieces by tallies: what each line does, and what the end gives.
use Rattle.std.specs.Prelude.{ℕ, List, length, Result, Ok, Err}
use Rattle.reuse.specs.declared.refusals.Refusal.{Refusal}
use Rattle.reuse.specs.Refusals.{refusal_with}
use Rattle.std.proofs.Math.Option.{Option, none, some}
use Rattle.texts.specs.Lines.{Answer, to, no, Fed, at, stopped, Read, got, refused, feed_by, finish_by}
use Rattle.texts.specs.Logs.{Row, Logged, empty, inside, whole, row_by, head_by, step_by, log_room}
use Rattle.listing_texts.specs.Tallies.{Tally, no_reads, tallied, over_tally, misses_by}
use Rattle.listing_texts.specs.Listings.{listed, refused_text}

-- nothing read yet; the tally of the reads so far; that of the whole trace
abbrev pub Taken : Type 0
Taken = Logged Tally

-- what a read's line does
abbrev pub take_row : Tally → Row → Answer Taken
take_row = row_by over_tally tallied

-- the first line
abbrev pub take_head : Option (List ℕ) → Answer Taken
take_head = head_by no_reads

-- what a line does
abbrev pub take_line : Taken → List ℕ → Answer Taken
take_line = step_by no_reads over_tally tallied

-- a text taken so far
abbrev pub State : Type 0
State = Fed Taken

-- one piece more
unfoldable pub take_piece : State → List ℕ → State
take_piece s l = feed_by take_line log_room s l

-- the state after an answer, with the bytes held of a line that has not ended
abbrev pub state_by : Answer Taken → List ℕ → State
state_by (to s) held = at 0 held s
state_by (no n) held = stopped 0 n

-- lines are not counted
abbrev pub unnumbered : State → State
unnumbered (at k held s) = at 0 held s
unnumbered (stopped k n) = stopped 0 n

-- what is taken whole
abbrev pub taken_whole : Taken → Option Tally
taken_whole empty = none
taken_whole (inside t) = none
taken_whole (whole t) = some t

-- by the answer at the end: the whole output
abbrev pub printed_by : Read Tally → List ℕ
printed_by (got t) = listed t.reads (length t.counts) (misses_by t.counts)
printed_by (refused line n) = refused_text n

-- the whole output at the end of the text
unfoldable pub printed_at : State → List ℕ
printed_at s = printed_by (finish_by taken_whole s)

-- by an answer: listed, or refused with its number
abbrev pub verdict_by : {T : Type 0} → Read T → Result Unit Refusal
verdict_by (got t) = Ok tt
verdict_by (refused line n) = Err (refusal_with n)

-- whether the end of the text gives a listing or a refusal
unfoldable pub verdict_at : State → Result Unit Refusal
verdict_at s = verdict_by (finish_by taken_whole s)
