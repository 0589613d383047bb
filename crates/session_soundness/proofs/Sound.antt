-- The test of a session's fields as named facts: sound rows, and reads within the limit.
use Prim.Native.Nat.{ℕ, ◌+◌, ◌≤◌}
use mathlib.Core.Path.{◌≡◌, sym, ◌∙◌}
use mathlib.Core.List.{List}
use mathlib.Core.Bool.{true, false, ◌&&◌, and-false}
use native.Mathlib.Omega.{arith}
use lib.ListN.{length, take, drop}
use borrow.Author.Tests.{eq-eqb, eqb-true, leb-true, le-leb}
use Rattle.reuse.specs.Lists.{mem, distinct, sum}
use Rattle.reuse.specs.Limits.{max_reads, max_extents, slot_count, right_count, levels}
use Rattle.session_rights.specs.Rights.{marks_from, in_totals, rightly, Gives}
use Rattle.session_rights.proofs.Rights.{rightly-marks}
use Rattle.session_rights.proofs.Totals.{totals-length}
use Rattle.session_marks.specs.Marks.{marked}
use Rattle.session_soundness.specs.Soundness.{extents_in, stack_in, first_in, sound_rows, intact_rows, Wide}
use Rattle.reuse.proofs.Lists.{by-test, both, mem-reverse}
use Rattle.reuse.proofs.Distinct.{distinct-reverse}
use Rattle.reuse.proofs.Sizes.{all_in_lem, all_same}
use Rattle.reuse.proofs.Counts.{sum-split}
use Rattle.session_soundness.proofs.Tests.{blank-sum, sum-blank}
use Rattle.session_marks.proofs.Marks.{row-tidy, tidy-row, row-zero-one}
use Rattle.session_marks.proofs.Rows.{Rows}

-- what the test says: the rows are sound, and the reads within the limit
pub record Sound (reads : ℕ) (first hist slots marks : List ℕ) (next : ℕ) : Type 0 where
  pub rows : Rows slot_count max_extents marks slots first hist next reads
  pub short : reads ≤ max_reads

module _ (reads : ℕ) (first hist slots marks : List ℕ) (next : ℕ) where
  -- the test gives the facts
  pub true-sound : Wide first hist slots marks → sound_rows reads first hist slots marks next ≡ true → Sound reads first hist slots marks next
  unfolding sound_rows
  true-sound w h =
      let h₁ = both _ _ h in
      let h₂ = both _ _ h₁.0 in
      let h₃ = both _ _ h₂.0 in
      let h₄ = both _ _ h₃.0 in
      let h₅ = both _ _ h₄.0 in
      let h₆ = both _ _ h₅.0 in
      let h₇ = both _ _ h₆.0 in
      let h₈ = both _ _ h₇.0 in
      let h₉ = both _ _ h₈.0 in
      let h₁₀ = both _ _ h₉.0 in
      let h₁₁ = both _ _ h₁₀.0 in
      let ms = marked marks slots in
      record {
        rows = record {
          row = tidy-row marks slots (w.slots-wide ∙ sym w.marks-wide) h₈.1;
          wide = w.marks-wide;
          low = leb-true _ _ h₁₀.1;
          free = blank-sum _ h₁₁.1;
          apart = sym (distinct-reverse ms) ∙ h₉.1;
          few = leb-true _ _ h₁₁.0;
          first-wide = w.first-wide;
          first-apart = h₇.1;
          listed = λ y. all_same _ _ h₆.1 h₅.1 y ∙ mem-reverse y ms;
          first_rest = blank-sum _ h₄.1;
          hist-wide = w.hist-wide;
          hist-rest = blank-sum _ h₃.1;
          total = eqb-true _ _ h₂.1;
        };
        short = leb-true _ _ h₁.1;
      }

  -- fields that break a fact are not sound
  pub unsound : Wide first hist slots marks → (Sound reads first hist slots marks next → ⊥) → sound_rows reads first hist slots marks next ≡ false
  unsound w h = by-test (sound_rows reads first hist slots marks next) (λ t. absurd (h (true-sound w t))) (λ f. f)

  -- sound rows pass
  module _ (k : Rows slot_count max_extents marks slots first hist next reads) where
    -- the stack has no extent twice
    pub kept-apart : distinct (stack_in slots marks) ≡ true
    kept-apart = distinct-reverse (marked marks slots) ∙ k.apart

    -- the stack has the extents of F
    pub kept-listed : (y : ℕ) → mem y (first_in first marks) ≡ mem y (stack_in slots marks)
    kept-listed y = k.listed y ∙ sym (mem-reverse y (marked marks slots))

    -- H adds up to the reads that are not cold
    pub hist-total : extents_in marks + sum (take (extents_in marks) hist) ≡ reads
    hist-total = omega (arith, sum-split (extents_in marks) hist, k.hist-rest, k.total)

    -- the facts pass the test
    pub kept-sound : reads ≤ max_reads → sound_rows reads first hist slots marks next ≡ true
    unfolding sound_rows
    kept-sound short =
        simp (
          le-leb (extents_in marks) max_extents k.few,
          sum-blank (drop next marks) k.free,
          le-leb next slot_count k.low,
          kept-apart,
          row-tidy k.row,
          k.first-apart,
          all_in_lem (first_in first marks) (stack_in slots marks) (λ y m. sym (kept-listed y) ∙ m),
          all_in_lem (stack_in slots marks) (first_in first marks) (λ y m. kept-listed y ∙ m),
          sum-blank (drop (extents_in marks) first) k.first_rest,
          sum-blank (drop (extents_in marks) hist) k.hist-rest,
          eq-eqb reads (extents_in marks + sum hist) k.total,
          le-leb reads max_reads short,
        )

-- the widths of a session's rows, by its right-hand sums
pub record Widths (first hist slots rights : List ℕ) : Type 0 where
  pub first-wide : length first ≡ max_extents
  pub hist-wide : length hist ≡ max_extents
  pub slots-wide : length slots ≡ slot_count
  pub rights-wide : length rights ≡ right_count

module _ (first hist slots : List ℕ) (count : ℕ) (rights : List ℕ) (k : Widths first hist slots rights) where
  -- the marks worked out are as many as the slots
  pub worked-wide : length (marks_from levels count rights) ≡ slot_count
  worked-wide = totals-length levels count rights (omega (arith, k.rights-wide))

  -- so the rows have their widths
  pub kept-wide : Wide first hist slots (marks_from levels count rights)
  kept-wide = record { first-wide = k.first-wide; hist-wide = k.hist-wide; slots-wide = k.slots-wide; marks-wide = worked-wide }

  -- the test of the widths too, where they are a session's
  pub intact-wide : (reads next : ℕ) → intact_rows reads first hist slots count rights next
      ≡ rightly levels count rights && sound_rows reads first hist slots (marks_from levels count rights) next
  unfolding intact_rows
  intact-wide reads next =
      simp (
        eq-eqb (length first) max_extents k.first-wide,
        eq-eqb (length hist) max_extents k.hist-wide,
        eq-eqb (length slots) slot_count k.slots-wide,
        eq-eqb (length rights) right_count k.rights-wide,
      )

  -- a right-hand sum above its point's total
  pub intact-above : (reads next : ℕ) → in_totals levels count rights ≡ false → intact_rows reads first hist slots count rights next ≡ false
  intact-above reads next f = intact-wide reads next ∙ unfold rightly in simp f

  -- with none above, the rows decide: marks beside tidy slots are 0 or 1
  pub intact-within : (reads next : ℕ) → in_totals levels count rights ≡ true
      → intact_rows reads first hist slots count rights next ≡ sound_rows reads first hist slots (marks_from levels count rights) next
  intact-within reads next t =
      intact-wide reads next ∙
      by-test (sound_rows reads first hist slots (marks_from levels count rights) next)
      (λ ok. let r = (true-sound reads first hist slots (marks_from levels count rights) next kept-wide ok).rows.row in
      unfold rightly in simp (t, row-zero-one r, ok))
      (λ bad. simp (bad, and-false))

-- what the test of all fields says: their widths, marks that give the count and the right-hand sums, and sound rows
pub record Intact (reads : ℕ) (first hist slots : List ℕ) (count : ℕ) (rights : List ℕ) (next : ℕ) : Type 0 where
  pub wide : Widths first hist slots rights
  pub given : Gives levels count rights (marks_from levels count rights)
  pub sound : Sound reads first hist slots (marks_from levels count rights) next

-- right-hand sums and a count that some marks give, beside rows that are sound over them
pub true-rightly : (reads : ℕ) (first hist slots : List ℕ) (count : ℕ) (rights : List ℕ) (next : ℕ) → Widths first hist slots rights
    → rightly levels count rights ≡ true → sound_rows reads first hist slots (marks_from levels count rights) next ≡ true → Intact reads first hist slots count rights next
true-rightly reads first hist slots count rights next k r ok = record {
  wide = k;
  given = (rightly-marks levels count rights (omega (arith, k.rights-wide)) r).0;
  sound = true-sound reads first hist slots (marks_from levels count rights) next (kept-wide first hist slots count rights k) ok;
}

-- fields that pass the test
pub true-intact : (reads : ℕ) (first hist slots : List ℕ) (count : ℕ) (rights : List ℕ) (next : ℕ)
    → intact_rows reads first hist slots count rights next ≡ true → Intact reads first hist slots count rights next
unfolding intact_rows
true-intact reads first hist slots count rights next h =
    let h₁ = both _ _ h in
    let h₂ = both _ _ h₁.0 in
    let h₃ = both _ _ h₂.0 in
    let h₄ = both _ _ h₃.0 in
    let h₅ = both _ _ h₄.0 in
    true-rightly reads first hist slots count rights next
    (record { first-wide = eqb-true _ _ h₅.0; hist-wide = eqb-true _ _ h₅.1; slots-wide = eqb-true _ _ h₄.1; rights-wide = eqb-true _ _ h₃.1 })
    h₂.1 h₁.1
