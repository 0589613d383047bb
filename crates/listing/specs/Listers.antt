-- Listers: when the words of one stand for a text taken so far, what they stand for, and the lister of each text.
use Rattle.std.specs.Prelude.{ℕ, List, [], Bool, cond, not, ◌&&◌, length, take, replicate}
use Rattle.reuse_rows.specs.Rows.{put_at, padded}
use Rattle.texts.specs.Lines.{at, stopped}
use Rattle.texts.specs.Logs.{longest_line, empty, inside, whole}
use Rattle.listing_texts.specs.Tallies.{Tally, no_reads}
use Rattle.listing_texts.specs.Feeding.{State, take_piece, state_by}
use Rattle.listing_tally.specs.Rows.{tally_in, taken_by}
use Rattle.listing_tally.specs.declared.Phase.{Phase}
use Rattle.listing_tally.specs.declared.Phase.TheVariants.{Empty, Inside, Whole, Stopped}
use Rattle.listing_turns.specs.Turns.{is_stopped}
use Rattle.listing_soundness.specs.Soundness.{holds_line, holds_tally, holds_phase}
use Rattle.listing.specs.declared.Lister.{Lister}

-- a lister that stands for a text taken so far
unfoldable pub sound_lister : Lister → Bool
sound_lister l =
    holds_line l.line l.held
    && holds_tally l.reads l.extents l.stack l.counts
    && holds_phase l.phase l.held l.reads

-- what it stands for; one that is not sound for a text refused with 7
unfoldable pub state_of : Lister → State
state_of l =
    cond (sound_lister l) (state_by (taken_by l.phase (tally_in l.reads l.extents l.stack l.counts)) (take l.held l.line)) (stopped 0 7)

-- a line with nothing held of it
unfoldable pub blank_line : List ℕ
blank_line = replicate longest_line 0

-- the lister that holds these bytes of a line, this phase and this tally, and 0 after them
unfoldable pub lister_with : List ℕ → Phase → Tally → Lister
lister_with held phase t = record {
  line = put_at blank_line 0 held;
  held = length held;
  phase = phase;
  reads = t.reads;
  extents = length t.recent;
  stack = padded t.recent;
  counts = padded t.counts;
}

-- the lister of a text taken so far; that of a refused one holds nothing but its number
unfoldable pub lister_of : State → Lister
lister_of (at k held empty) = lister_with held Empty no_reads
lister_of (at k held (inside t)) = lister_with held Inside t
lister_of (at k held (whole t)) = lister_with held Whole t
lister_of (stopped k n) = lister_with [] (Stopped n) no_reads

-- the lister of no text yet
unfoldable pub empty_lister : Lister
empty_lister = lister_of (at 0 [] empty)

-- a lister that takes more of its text: sound, and not refused
abbrev pub takes_more : Lister → Bool
takes_more l = not (is_stopped l.phase) && sound_lister l

-- a lister after one piece more; one that takes no more is as it was
unfoldable pub fed_of : Lister → List ℕ → Lister
fed_of l bytes = cond (takes_more l) (lister_of (take_piece (state_of l) bytes)) l
