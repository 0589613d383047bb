-- Listers that stand for a text taken so far: one law for each way that the code returns, and what soundness gives.
use mathlib.Core.Path.{◌≡◌}
use Prim.Native.Nat.{◌≤◌}
use mathlib.Core.Bool.{true, false, ◌&&◌}
use lib.ListN.{length, take}
use Rattle.reuse.specs.Limits.{max_extents}
use Rattle.reuse.proofs.Lists.{both}
use Rattle.texts.specs.Lines.{stopped}
use Rattle.texts.specs.Logs.{longest_line}
use Rattle.listing_tally.specs.Rows.{Tallied}
use Rattle.listing_turns.proofs.Turns.{state_in}
use Rattle.listing_soundness.specs.Soundness.{holds_line, holds_tally, holds_phase}
use Rattle.listing_soundness.proofs.Soundness.{line-facts, tally-facts}
use Rattle.listing.specs.Listers.{sound_lister, state_of}
use Rattle.listing.specs.declared.Lister.{Lister}

module _ (l : Lister) where
  -- it is sound if its line, its tally and its phase are
  pub sound-line : false ≡ holds_line l.line l.held → false ≡ sound_lister l
  unfolding sound_lister
  sound-line e = rw (← e)

  -- its line is
  pub sound-tally : true ≡ holds_line l.line l.held → false ≡ holds_tally l.reads l.extents l.stack l.counts → false ≡ sound_lister l
  unfolding sound_lister
  sound-tally e f = rw (← e, ← f)

  -- its tally is too
  pub sound-phase : true ≡ holds_line l.line l.held → true ≡ holds_tally l.reads l.extents l.stack l.counts
      → holds_phase l.phase l.held l.reads ≡ sound_lister l
  unfolding sound_lister
  sound-phase e f = rw (← e, ← f)

  -- what a sound one gives
  pub sound-parts : sound_lister l ≡ true
      → (holds_line l.line l.held ≡ true) × (holds_tally l.reads l.extents l.stack l.counts ≡ true) × (holds_phase l.phase l.held l.reads ≡ true)
  unfolding sound_lister
  sound-parts h =
      let line = holds_line l.line l.held in
      let tally = holds_tally l.reads l.extents l.stack l.counts in
      let a = both (line && tally) (holds_phase l.phase l.held l.reads) h in
      let b = both line tally a.0 in
      (b.0, b.1, a.1)

  -- what is held of a line fits
  pub sound-fits : sound_lister l ≡ true → l.held ≤ longest_line
  sound-fits h = (line-facts l.line l.held (sound-parts h).0).0

  -- what is held of a line fits, and the rows hold a tally
  pub sound-facts : sound_lister l ≡ true → length l.stack ≡ max_extents → length l.counts ≡ max_extents
      → (l.held ≤ longest_line) × Tallied l.reads l.extents l.stack l.counts
  sound-facts h s n = (sound-fits h, tally-facts l.reads l.extents l.stack l.counts (sound-parts h).1 s n)

  -- a sound lister stands for what its words say
  pub state-sound : sound_lister l ≡ true → state_of l ≡ state_in l.phase l.reads l.extents l.stack l.counts (take l.held l.line)
  unfolding state_of
  state-sound h = rw h

  -- another stands for a text refused with 7
  pub state-unsound : sound_lister l ≡ false → state_of l ≡ stopped 0 7
  unfolding state_of
  state-unsound h = rw h
