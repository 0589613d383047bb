-- The test of a session's fields, as the code makes it: by the count of its marks, and by the extents gathered from its slots.
use Prim.Native.Nat.{ℕ, ◌+◌, ◌-◌, ◌≤◌}
use mathlib.Core.Path.{◌≡◌, sym, ap, ◌∙◌}
use mathlib.Core.List.{List}
use mathlib.Core.Bool.{true, false}
use native.Mathlib.Omega.{arith}
use lib.ListN.{length, take, drop, replicate}
use lib.Seq.{length-take-le, take_at}
use borrow.Author.Tests.{leb-true, le-leb}
use Rattle.reuse.specs.Lists.{mem, distinct, all_in, sum}
use Rattle.reuse.specs.Limits.{max_reads, max_extents, slot_count}
use Rattle.reuse_rows.specs.Rows.{blank}
use Rattle.session_sums.specs.Sums.{filled}
use Rattle.session_marks.specs.Marks.{marked, tidy, gathered_row}
use Rattle.session_soundness.specs.Soundness.{extents_in, sound_rows, Wide, marks_hold}
use Rattle.reuse.proofs.Lists.{clash, by-test, both}
use Rattle.reuse.proofs.Sizes.{full-distinct, full-same, all_in_lem, in_all}
use Rattle.reuse.proofs.Counts.{sum-split}
use Rattle.session_soundness.proofs.Tests.{blank-sum, sum-blank}
use Rattle.session_marks.proofs.Marks.{Row, row_count, row-tidy, tidy-row}
use Rattle.session_marks.proofs.Passes.{gathered-pair}
use Rattle.session_marks.proofs.Search.{pair_of}
use Rattle.session_soundness.proofs.Sound.{Sound, kept-sound, hist-total, unsound}

-- the marks as the code tests them
pub record Held (slots marks : List ℕ) (next : ℕ) : Type 0 where
  pub low : next ≤ slot_count
  pub neat : tidy marks slots ≡ true
  pub free : sum (drop next marks) ≡ 0

-- the test of the marks gives these
marks-held : (slots marks : List ℕ) (next : ℕ) → marks_hold slots marks next ≡ true → Held slots marks next
unfolding marks_hold
marks-held slots marks next h =
    let h₁ = both _ _ h in
    let h₂ = both _ _ h₁.0 in
    record { low = leb-true _ _ h₂.0; neat = h₂.1; free = blank-sum _ h₁.1 }

-- what the code has tested, v being the count
pub record Passed (reads : ℕ) (first hist slots marks : List ℕ) (next v : ℕ) : Type 0 where
  pub short : reads ≤ max_reads
  pub held : marks_hold slots marks next ≡ true
  pub few : v ≤ max_extents
  pub first_rest : blank (drop v first) ≡ true
  pub hist-rest : blank (drop v hist) ≡ true
  pub total : sum (take v hist) + v ≡ reads
  pub first-apart : distinct (take v first) ≡ true

module _ (reads : ℕ) (first hist slots marks : List ℕ) (next v : ℕ) (w : Wide first hist slots marks) (is : sum marks ≡ v) where
  -- sound fields pass each test
  sound-passed : Sound reads first hist slots marks next → Passed reads first hist slots marks next v
  unfolding marks_hold
  sound-passed f =
      let k = f.rows in
      record {
        short = f.short;
        held = simp (le-leb next slot_count k.low, row-tidy k.row, sum-blank (drop next marks) k.free);
        few = omega (arith, is, k.few);
        first_rest = rw (← is) (sum-blank (drop (extents_in marks) first) k.first_rest);
        hist-rest = rw (← is) (sum-blank (drop (extents_in marks) hist) k.hist-rest);
        total = rw (← is) (omega (arith, hist-total reads first hist slots marks next k));
        first-apart = rw (← is) k.first-apart;
      }

  -- fields that fail a test are not sound
  pub failed : (Passed reads first hist slots marks next v → ⊥) → false ≡ sound_rows reads first hist slots marks next
  failed h = sym (unsound reads first hist slots marks next w (λ f. h (sound-passed f)))

  -- all tests but the last are passed
  module _ (p : Passed reads first hist slots marks next v) where
    -- the marks
    held : Held slots marks next
    held = marks-held slots marks next p.held

    -- the slots beside their marks
    row : Row marks slots
    row = tidy-row marks slots (w.slots-wide ∙ sym w.marks-wide) held.neat

    -- what is gathered is the marked slots
    front : take v (gathered_row slots marks) ≡ marked marks slots
    unfolding filled
    front =
        ap (take v) (gathered-pair slots marks (pair_of slots marks w.slots-wide w.marks-wide))
        ∙ take_at (marked marks slots) (replicate (slot_count - length (marked marks slots)) 0) v (row_count row ∙ is)

    -- as many extents in F as in the slots
    long : length (marked marks slots) ≡ length (take v first)
    long = row_count row ∙ is ∙ sym (length-take-le v first (omega (arith, p.few, w.first-wide)))

    -- F in the slots makes the fields sound
    facts : all_in (take v first) (take v (gathered_row slots marks)) ≡ true → Sound reads first hist slots marks next
    facts h =
        let inside : (x : ℕ) → mem x (take v first) ≡ true → mem x (marked marks slots) ≡ true =
        λ x q. rw (← front) (in_all (take v first) (take v (gathered_row slots marks)) h x q) in
        let after : (l : List ℕ) → blank (drop v l) ≡ true → sum (drop (extents_in marks) l) ≡ 0 = λ l b. rw is (blank-sum (drop v l) b) in
        record {
          rows = record {
            row = row;
            wide = w.marks-wide;
            low = held.low;
            free = held.free;
            apart = full-distinct (take v first) (marked marks slots) p.first-apart inside long;
            few = omega (arith, is, p.few);
            first-wide = w.first-wide;
            first-apart = rw is p.first-apart;
            listed = λ y. rw is (sym (full-same (take v first) (marked marks slots) p.first-apart inside long y));
            first_rest = after first p.first_rest;
            hist-wide = w.hist-wide;
            hist-rest = after hist p.hist-rest;
            total = omega (arith, is, p.total, sum-split v hist, blank-sum (drop v hist) p.hist-rest);
          };
          short = p.short;
        }

    -- sound fields have F in the slots
    listed : Sound reads first hist slots marks next → all_in (take v first) (take v (gathered_row slots marks)) ≡ true
    listed f =
        all_in_lem (take v first) (take v (gathered_row slots marks))
        (λ x q. rw front (sym (f.rows.listed x) ∙ rw (← is) at q))

    -- the last test decides
    pub passed-sound : all_in (take v first) (take v (gathered_row slots marks)) ≡ sound_rows reads first hist slots marks next
    passed-sound =
        by-test (all_in (take v first) (take v (gathered_row slots marks)))
        (λ t. t ∙ sym (kept-sound reads first hist slots marks next (facts t).rows (facts t).short))
        (λ f. f ∙ sym (unsound reads first hist slots marks next w (λ g. clash (listed g) f)))
