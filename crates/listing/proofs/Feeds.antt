-- A piece fed to a lister: before the first line, after each turn, and at the end of the piece.
use mathlib.Core.Path.{◌≡◌, sym, ap, ◌∙◌}
use Prim.Native.Nat.{ℕ, ◌≤◌, ◌<◌}
use native.Mathlib.Omega.{arith}
use mathlib.Core.List.{List}
use mathlib.Core.Bool.{false}
use lib.ListN.{length, take, drop}
use Rattle.texts.specs.Logs.{longest_line}
use Rattle.texts.proofs.Positions.{gone}
use Rattle.listing_texts.specs.Feeding.{State, take_piece, unnumbered}
use Rattle.listing_texts.proofs.Unnumbered.{take_none, unnumbered-same}
use Rattle.listing_tally.specs.Rows.{Tallied, tally_in, taken_by}
use Rattle.listing_turns.specs.Turns.{is_stopped, reaches, advanced}
use Rattle.listing_turns.specs.declared.Turn.{Turn}
use Rattle.listing_turns.proofs.Turns.{state_in, Turnable, Turned, advance-turned}
use Rattle.listing.specs.Listers.{lister_of}
use Rattle.listing.proofs.Listers.{lister-uncounted}
use Rattle.listing_tally.specs.declared.Phase.{Phase}

-- a piece taken as far as a place: what is left of it does from here what the whole does from the start
pub record PieceTaken (bytes : List ℕ) (start : State) (phase : Phase) (line : List ℕ) (held reads extents : ℕ) (stack counts : List ℕ) (pos : ℕ) : Type 0 where
  pub inside : pos ≤ length bytes
  pub fits : held ≤ longest_line
  pub wide : length line ≡ longest_line
  pub tally : Tallied reads extents stack counts
  pub goes : pos < length bytes → is_stopped phase ≡ false
  pub same : unnumbered (take_piece start bytes) ≡ unnumbered (take_piece (state_in phase reads extents stack counts (take held line)) (drop pos bytes))

module _ (bytes : List ℕ) (start : State) (phase : Phase) (line : List ℕ) (held reads extents : ℕ) (stack counts : List ℕ) where
  -- nothing is taken
  pub fed-start : start ≡ state_in phase reads extents stack counts (take held line) → held ≤ longest_line → length line ≡ longest_line → Tallied reads extents stack counts → is_stopped phase ≡ false
      → PieceTaken bytes start phase line held reads extents stack counts 0
  fed-start e h w g z = record {
    inside = omega arith;
    fits = h;
    wide = w;
    tally = g;
    goes = λ p. z;
    same = ap (λ (s : State). unnumbered (take_piece s bytes)) e;
  }

  module _ (pos : ℕ) (f : PieceTaken bytes start phase line held reads extents stack counts pos) where
    -- more can be taken
    turnable : pos < length bytes → Turnable bytes pos line held phase reads extents stack counts
    turnable h = record { more = h; wide = f.wide; fits = f.fits; tally = f.tally; goes = f.goes h }

    -- a turn from here
    module _ (h : pos < length bytes) (r : Turn) (stack' counts' : List ℕ) (e : reaches r stack' counts' ≡ advanced bytes pos line held phase reads extents stack counts) where
      -- takes the piece further
      pub fed-on : Turned bytes pos (state_in phase reads extents stack counts (take held line)) r stack' counts'
      fed-on = advance-turned bytes pos line held phase reads extents stack counts (turnable h) (reaches r stack' counts') e

      -- and leaves what was left
      pub fed-turn : PieceTaken bytes start r.progress.phase r.line r.held r.progress.reads r.progress.extents stack' counts' r.at
      fed-turn = record {
        inside = fed-on.inside;
        fits = fed-on.fits;
        wide = fed-on.wide;
        tally = fed-on.tally;
        goes = fed-on.goes;
        same = f.same ∙ fed-on.same;
      }

    -- all is taken
    pub fed-end : length bytes ≤ pos → unnumbered (take_piece start bytes) ≡ state_in phase reads extents stack counts (take held line)
    fed-end h =
        let d : take_piece (state_in phase reads extents stack counts (take held line)) (drop pos bytes) ≡ state_in phase reads extents stack counts (take held line) =
        ap (take_piece (state_in phase reads extents stack counts (take held line))) (gone bytes pos h) ∙ take_none (state_in phase reads extents stack counts (take held line)) in
        f.same ∙ ap unnumbered d ∙ unnumbered-same (taken_by phase (tally_in reads extents stack counts)) (take held line)

    -- the lister of what is reached is that of the text with the piece
    pub fed-lister : length bytes ≤ pos → lister_of (state_in phase reads extents stack counts (take held line)) ≡ lister_of (take_piece start bytes)
    fed-lister h = ap lister_of (sym (fed-end h)) ∙ lister-uncounted (take_piece start bytes)
