-- How far a piece is taken: one law for each way that the code returns.
use mathlib.Core.Path.{◌≡◌, sym, ap, ◌∙◌}
use Prim.Native.Nat.{ℕ, ◌+◌, ◌-◌, ◌≤◌, ◌<◌}
use mathlib.Core.List.{List}
use mathlib.Core.Bool.{false, ◌&&◌, or-true}
use lib.Dec.{eqb, leb, ltb}
use lib.ListN.{length, take, drop}
use borrow.Author.Tests.{le-leb, lt-leb, lt-ltb, le-ltb, eq-eqb, eqb-true}
use Rattle.reuse.proofs.Lists.{by-test}
use Rattle.reuse_rows.specs.Rows.{placed}
use Rattle.texts.specs.Logs.{longest_line}
use Rattle.texts_pieces.specs.Pieces.{line_length}
use Rattle.listing_tally.specs.Standings.{stands_at, end_taken}
use Rattle.listing_tally.specs.declared.Phase.{Phase}
use Rattle.listing_tally.specs.declared.Progress.{Progress}
use Rattle.listing_turns.specs.Turns.{reaches, turn_at, turn_after, reached_by, turn_by, advanced}
use Rattle.listing_turns.specs.declared.Turn.{Turn}

module _ (bytes : List ℕ) (at : ℕ) (line : List ℕ) (held : ℕ) (phase : Phase) (reads extents : ℕ) (stack counts : List ℕ) where
  -- past the piece
  pub way-past : length bytes < at → (t : Turn) → t ≡ turn_at (length bytes) line held phase reads extents → reaches t stack counts ≡ advanced bytes at line held phase reads extents stack counts
  unfolding advanced
  way-past h t e = rw (e, lt-ltb (length bytes) at h)

  -- too much is held
  pub way-over : longest_line < held → (t : Turn) → t ≡ turn_at (length bytes) line held phase reads extents → reaches t stack counts ≡ advanced bytes at line held phase reads extents stack counts
  unfolding advanced
  way-over h t e = rw (e, lt-ltb longest_line held h, or-true (ltb (length bytes) at))

  module _ (here : at ≤ length bytes) (fits : held ≤ longest_line) (n : ℕ) (is : n ≡ line_length (longest_line + 1 - held) (drop at bytes)) where
    -- the bytes of the line that stand in the piece are counted
    pub way-counted : advanced bytes at line held phase reads extents stack counts ≡ turn_by bytes at line held phase reads extents stack counts n
    unfolding advanced
    way-counted = rw (le-ltb (length bytes) at here, le-ltb longest_line held fits, is)

    module _ (rest : List ℕ) (rest-is : rest ≡ take n (drop at bytes)) where
      -- they are held
      pub way-kept : at + n ≡ length bytes → held + n ≤ longest_line → (more : List ℕ) → more ≡ placed line held rest
          → (t : Turn) → t ≡ turn_at (at + n) more (held + n) phase reads extents → reaches t stack counts ≡ advanced bytes at line held phase reads extents stack counts
      way-kept w h more m t e =
          sym (way-counted ∙ rw (eq-eqb (at + n) (length bytes) w, le-leb (held + n) longest_line h) (rw (e, m, rest-is)))

      -- the line ends
      pub way-line : (at + n ≡ length bytes → longest_line < held + n) → (p : Progress) (stack' counts' : List ℕ)
          → stands_at p stack' counts' ≡ end_taken reads extents stack counts phase line held rest
          → (t : Turn) → t ≡ turn_after line p (at + n + 1) (length bytes) → reaches t stack' counts' ≡ advanced bytes at line held phase reads extents stack counts
      way-line f p stack' counts' q t e =
          let no : (eqb (at + n) (length bytes) && leb (held + n) longest_line) ≡ false =
          by-test (eqb (at + n) (length bytes)) (λ z. rw (z, lt-leb (held + n) longest_line (f (eqb-true (at + n) (length bytes) z)))) (λ z. rw z) in
          ap (λ (u : Turn). reaches u stack' counts') e
          ∙ ap (reached_by line (at + n + 1) (length bytes)) q
          ∙ ap (λ (l : List ℕ). reached_by line (at + n + 1) (length bytes) (end_taken reads extents stack counts phase line held l)) rest-is
          ∙ sym (way-counted ∙ rw no)
