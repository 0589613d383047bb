-- The session and the one with all sums: each gives the other, and what is sound of one is sound of the other.
use Prim.Native.Nat.{ℕ, ◌≤◌}
use mathlib.Core.Path.{◌≡◌, refl, sym, ap, ◌∙◌}
use mathlib.Core.List.{List}
use mathlib.Core.Bool.{Bool, true}
use native.Mathlib.Omega.{arith}
use lib.ListN.{replicate}
use Rattle.reuse.specs.Lists.{sum}
use Rattle.reuse.specs.Limits.{max_reads, max_extents, slot_count, right_count, levels}
use Rattle.session_sums.specs.Sums.{sums_of}
use Rattle.session_rights.specs.Rights.{rights_of, marks_from, rightly, Gives}
use Rattle.session_soundness.specs.Soundness.{sound_rows, intact_rows}
use Rattle.session_calls.specs.Sessions as full
use Rattle.session_calls.specs.Sessions.{FullSession, FullWide}
use Rattle.session_calls.specs.Reads as full-reads
use Rattle.session.specs.declared.Session.{Session}
use Rattle.session.specs.Sessions.{Wide, new_of, marks, old_of, fresh, sound}
use Rattle.session.specs.Reads.{new_step, read_of}
use Rattle.session.specs.Steps.{Summed}
use Rattle.reuse.proofs.Lists.{both}
use Rattle.session_sums.proofs.Tree.{take-sums}
use Rattle.session_rights.proofs.Rights.{rights-length, marks-back, gives-rightly}
use Rattle.session_rights.proofs.Trees.{rights-none}
use Rattle.session_marks.proofs.Marks.{row-zero-one}
use Rattle.session_soundness.proofs.Sound as fields
use Rattle.reuse.proofs.Sums.{sum-blank-row}
use Rattle.session_calls.proofs.Sound.{Kept, Sound, true-sound, kept-sound, kept-wide, kept-few, fresh-marks}

-- an old session whose rows are sound comes back from its new one
pub old-new : (o : FullSession) → Kept o → old_of (new_of o) ≡ o
unfolding marks full.extents
old-new o k =
    let back : marks_from levels (sum (full.marks o)) (rights_of levels (full.marks o)) ≡ full.marks o = marks-back levels (full.marks o) k.rows.wide in
    let tree : sums_of levels (marks_from levels (sum (full.marks o)) (rights_of levels (full.marks o))) ≡ o.sums = ap (sums_of levels) back ∙ sym k.tree in
    ap (λ (l : List ℕ). record { reads = o.reads; first = o.first; hist = o.hist; slots = o.slots; sums = l; next = o.next }) tree

-- so two that have one new session are one
pub one-old : (o o' : FullSession) → Kept o → Kept o' → new_of o ≡ new_of o' → o ≡ o'
one-old o o' k k' e = sym (old-new o k) ∙ ap old_of e ∙ old-new o' k'

-- what the test of a session says
abbrev pub Facts : Session → Type 0
Facts s = fields.Intact s.reads s.first s.hist s.slots s.count s.rights s.next

module _ (s : Session) where
  -- a session's widths, as its fields have them
  fields-wide : Wide s → fields.Widths s.first s.hist s.slots s.rights
  fields-wide w = record { first-wide = w.first-wide; hist-wide = w.hist-wide; slots-wide = w.slots-wide; rights-wide = w.rights-wide }

  -- the test gives the facts
  pub sound-facts : Wide s → sound s ≡ true → Facts s
  unfolding sound marks
  sound-facts w ok =
      let p = both (rightly levels s.count s.rights) (sound_rows s.reads s.first s.hist s.slots (marks_from levels s.count s.rights) s.next) ok in
      fields.true-rightly s.reads s.first s.hist s.slots s.count s.rights s.next (fields-wide w) p.0 p.1

  -- the test of a session's fields is the test of the session
  pub tested : Wide s → intact_rows s.reads s.first s.hist s.slots s.count s.rights s.next ≡ sound s
  unfolding sound marks
  tested w = fields.intact-wide s.first s.hist s.slots s.count s.rights (fields-wide w) s.reads s.next

  -- so is that of numbers and rows that are a session's
  pub lent-tested : Wide s → {answer : Bool} {reads count next : ℕ} {first hist slots rights : List ℕ}
      → answer ≡ intact_rows reads first hist slots count rights next
      → reads ≡ s.reads → first ≡ s.first → hist ≡ s.hist → slots ≡ s.slots → count ≡ s.count → rights ≡ s.rights → next ≡ s.next
      → answer ≡ sound s
  lent-tested w a reads first hist slots count rights next = a ∙ rw (reads, first, hist, slots, count, rights, next) (tested w)

  module _ (f : Facts s) where
    -- the marks of the old session are those worked out
    pub old-marks : full.marks (old_of s) ≡ marks s
    unfolding full.marks marks
    old-marks = take-sums levels slot_count (marks_from levels s.count s.rights) f.given.full

    -- a session comes back from its old one
    pub new-old : new_of (old_of s) ≡ s
    unfolding full.extents marks
    new-old =
        let counted : sum (full.marks (old_of s)) ≡ s.count = ap sum old-marks ∙ f.given.counted in
        let summed : rights_of levels (full.marks (old_of s)) ≡ s.rights = ap (rights_of levels) old-marks ∙ f.given.summed in
        ap (λ (n : ℕ). record { reads = s.reads; first = s.first; hist = s.hist; slots = s.slots; count = n; rights = rights_of levels (full.marks (old_of s)); next = s.next }) counted
        ∙ ap (λ (l : List ℕ). record { reads = s.reads; first = s.first; hist = s.hist; slots = s.slots; count = s.count; rights = l; next = s.next }) summed

    -- the old session's rows are sound, and its sums are true
    pub old-kept : Sound (old_of s)
    old-kept = record {
      kept = record { rows = rw old-marks (unfold marks in f.sound.rows); tree = ap (sums_of levels) (sym old-marks) };
      short = f.sound.short;
    }

    -- so it is sound
    pub old-sound : FullWide (old_of s) × (full.sound (old_of s) ≡ true)
    old-sound = (kept-wide (old_of s) old-kept.kept, kept-sound (old_of s) old-kept.kept old-kept.short)

    -- what the parts of a read rely on
    pub summed : Summed s
    summed = record { new = new-old; wide = old-kept.kept.rows.wide; few = kept-few (old_of s) old-kept.kept }

module _ (o : FullSession) (k : Kept o) where
  -- the marks worked out are the old session's
  pub new-marks : marks (new_of o) ≡ full.marks o
  unfolding marks full.extents
  new-marks = marks-back levels (full.marks o) k.rows.wide

  -- its count and right-hand sums are given by them
  new-given : Gives levels (full.extents o) (rights_of levels (full.marks o)) (full.marks o)
  unfolding full.extents
  new-given = record { full = k.rows.wide; counted = refl; summed = refl }

  -- the new session's widths
  pub new-wide : Wide (new_of o)
  new-wide = record {
    first-wide = k.rows.first-wide;
    hist-wide = k.rows.hist-wide;
    slots-wide = (kept-wide o k).slots-wide;
    rights-wide = omega (arith, rights-length levels (full.marks o) k.rows.wide);
  }

  -- it is sound
  pub new-sound : o.reads ≤ max_reads → sound (new_of o) ≡ true
  unfolding sound
  new-sound short =
      simp (
        gives-rightly new-given (row-zero-one k.rows.row),
        new-marks,
        fields.kept-sound o.reads o.first o.hist o.slots (full.marks o) o.next k.rows short,
      )

-- a new session is the new one of the old new one
pub fresh-new : new_of full.fresh ≡ fresh
unfolding full.extents
fresh-new =
    let ms : full.marks full.fresh ≡ replicate slot_count 0 = fresh-marks in
    let counted : sum (full.marks full.fresh) ≡ 0 = ap sum ms ∙ sum-blank-row slot_count in
    let rights : rights_of levels (full.marks full.fresh) ≡ replicate right_count 0 = ap (rights_of levels) ms ∙ rights-none levels in
    ap (λ (n : ℕ). record { reads = 0; first = replicate max_extents 0; hist = replicate max_extents 0; slots = replicate slot_count 0; count = n; rights = rights_of levels (full.marks full.fresh); next = 0 }) counted
    ∙ ap (λ (l : List ℕ). record { reads = 0; first = replicate max_extents 0; hist = replicate max_extents 0; slots = replicate slot_count 0; count = 0; rights = l; next = 0 }) rights

-- a read of the session of a sound old one answers what the old one does, and leaves the session that corresponds
pub read-new : (o : FullSession) → FullWide o → full.sound o ≡ true → (x : ℕ) → read_of (new_of o) x ≡ new_step (full-reads.read_of o x)
unfolding read_of
read-new o w ok x =
    let f = true-sound o w ok in
    rw (new-sound o f.kept f.short, old-new o f.kept)
