-- The test `sound` as named facts: sound rows, true sums over them, and reads within the limit.
use Prim.Native.Nat.{ℕ, ◌+◌, ◌-◌, ◌≤◌}
use mathlib.Core.Path.{◌≡◌, sym, ap, ◌∙◌}
use mathlib.Core.List.{List}
use mathlib.Core.Bool.{true}
use native.Mathlib.Omega.{arith}
use lib.ListN.{length, take, replicate, length-replicate, length-reverse}
use lib.Seq.{length-take-le}
use Rattle.reuse.specs.Lists.{mem, sum}
use Rattle.reuse.specs.Limits.{max_reads, max_extents, slot_count, levels}
use Rattle.session_sums.specs.Sums.{sums_of, marks_in, same, Trued}
use Rattle.session_soundness.specs.Soundness.{Wide, sound_rows}
use Rattle.reuse.proofs.Lists.{both}
use Rattle.session_sums.proofs.Tests.{same_of, same-eq}
use Rattle.session_marks.specs.Marks.{marked}
use Rattle.session_calls.specs.Sessions.{FullSession, FullWide, fresh, marks, extents, stack_of, first_row, sound}
use Rattle.session_sums.proofs.Tree.{leaves, full, take-sums, sums-blank-row, trued-of, trued-wide}
use Rattle.session_marks.proofs.Marks.{row-length, row_count}
use Rattle.session_marks.proofs.Rows.{Rows, rows_new}
use Rattle.session_soundness.proofs.Sound as fields

-- a session's rows are sound, and its sums are true
pub record Kept (s : FullSession) : Type 0 where
  pub rows : Rows slot_count max_extents (marks s) s.slots s.first s.hist s.next s.reads
  pub tree : s.sums ≡ sums_of levels (marks s)

-- what the test of a session says
pub record Sound (s : FullSession) : Type 0 where
  pub kept : Kept s
  pub short : s.reads ≤ max_reads

-- the marks under sums that were made over them
pub marks-of : (s : FullSession) (ms : List ℕ) → s.sums ≡ sums_of levels ms → length ms ≡ slot_count → marks s ≡ ms
unfolding marks
marks-of s ms e w = ap (marks_in) e ∙ take-sums levels slot_count ms w

-- a session over sound rows
pub kept_of : (s : FullSession) (ms : List ℕ) → s.sums ≡ sums_of levels ms → Rows slot_count max_extents ms s.slots s.first s.hist s.next s.reads → Kept s
kept_of s ms e h = let m : marks s ≡ ms = marks-of s ms e h.wide in record { rows = rw m h; tree = e ∙ ap (sums_of levels) (sym m) }

-- the widths of its rows, with its marks
rows-wide : (s : FullSession) → FullWide s → Wide s.first s.hist s.slots (marks s)
unfolding marks
rows-wide s w = record {
  first-wide = w.first-wide;
  hist-wide = w.hist-wide;
  slots-wide = w.slots-wide;
  marks-wide = length-take-le slot_count s.sums (omega (arith, w.sums-wide));
}

-- the test gives the facts
pub true-sound : (s : FullSession) → FullWide s → sound s ≡ true → Sound s
unfolding sound
true-sound s w h =
    let p = both (sound_rows s.reads s.first s.hist s.slots (marks s) s.next) (same s.sums (sums_of levels (marks s))) h in
    let f = fields.true-sound s.reads s.first s.hist s.slots (marks s) s.next (rows-wide s w) p.0 in
    record { kept = record { rows = f.rows; tree = same-eq s.sums (sums_of levels (marks s)) p.1 }; short = f.short }

module _ (s : FullSession) (k : Kept s) where
  -- the stack has the extents of F
  pub kept-listed : (y : ℕ) → mem y (first_row s) ≡ mem y (stack_of s)
  unfolding first_row stack_of extents
  kept-listed y = fields.kept-listed s.reads s.first s.hist s.slots (marks s) s.next k.rows y

  -- no more marks than the limit of extents
  pub kept-few : extents s ≤ max_extents
  unfolding extents
  kept-few = k.rows.few

  -- F has v words
  pub length-first : length (first_row s) ≡ extents s
  unfolding first_row extents
  length-first = length-take-le (sum (marks s)) s.first (omega (arith, k.rows.few, k.rows.first-wide))

  -- the stack has as many
  pub length-stack : length (stack_of s) ≡ extents s
  unfolding stack_of extents
  length-stack = length-reverse (marked (marks s) s.slots) ∙ row_count k.rows.row

  -- the sums as the walks take them
  pub kept-trued : Trued levels slot_count s.sums
  kept-trued = trued-of levels slot_count s.sums (marks s) k.tree k.rows.wide (omega (arith, k.rows.few))

  -- the arrays' widths
  pub kept-wide : FullWide s
  kept-wide = record {
    first-wide = k.rows.first-wide;
    hist-wide = k.rows.hist-wide;
    slots-wide = row-length k.rows.row ∙ k.rows.wide;
    sums-wide = trued-wide s.sums kept-trued;
  }

  -- H adds up to the reads that are not cold
  pub hist-total : extents s + sum (take (extents s) s.hist) ≡ s.reads
  unfolding extents
  hist-total = fields.hist-total s.reads s.first s.hist s.slots (marks s) s.next k.rows

  -- the facts pass the test
  pub kept-sound : s.reads ≤ max_reads → sound s ≡ true
  unfolding sound
  kept-sound short = simp (fields.kept-sound s.reads s.first s.hist s.slots (marks s) s.next k.rows short, same_of k.tree)

-- the rows of a sound session
pub rows_of : (s : FullSession) → FullWide s → sound s ≡ true → Kept s
rows_of s w ok = (true-sound s w ok).kept

-- the sums of a new session
fresh-tree : (n : ℕ) → leaves levels ≡ n → 1 ≤ n → replicate (n + n - 1) 0 ≡ sums_of levels (replicate n 0)
fresh-tree n e pos =
    let most : n + n - 1 + 1 ≡ leaves levels + leaves levels = omega arith in
    sym (sums-blank-row levels (n + n - 1) most) ∙ ap (λ (k : ℕ). sums_of levels (replicate k 0)) e

-- a new session has no mark
pub fresh-marks : marks fresh ≡ replicate slot_count 0
fresh-marks = marks-of fresh (replicate slot_count 0) (fresh-tree slot_count full (omega arith)) (length-replicate {A = ℕ} slot_count 0)

-- a new session's rows are sound
pub fresh_kept : Kept fresh
fresh_kept = kept_of fresh (replicate slot_count 0) (fresh-tree slot_count full (omega arith)) (rows_new slot_count max_extents)

-- a new session is sound
pub fresh-sound : sound fresh ≡ true
fresh-sound = kept-sound fresh fresh_kept (omega arith)
