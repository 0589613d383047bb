-- The ways of a read: what its parts rely on, and what each of its returns answers.
use Rattle.reuse.specs.declared.refusals.Refusal.TheVariants.{TooManyReads, TooManyExtents, Unsound}
use Rattle.reuse.specs.declared.refusals.Refusal.{Refusal}
use Rattle.std.specs.Prelude.{Option, None, Some}
use Prim.Native.Nat.{ℕ, suc, ◌<◌}
use mathlib.Core.Path.{◌≡◌, refl, sym, ap, subst, ◌∙◌}
use mathlib.Core.List.{List}
use mathlib.Core.Bool.{true, false}
use native.Mathlib.Omega.{arith}
use lib.Dec.{eqb}
use lib.ListN.{length, drop, get_or}
use borrow.Author.Tests.{ne_eqb, eqb-false}
use Rattle.reuse.specs.Lists.{mem, sum}
use Rattle.reuse.specs.Lru.{cold, at}
use Rattle.reuse.specs.Limits.{max_reads, max_extents, slot_count, levels}
use Rattle.session_rights.specs.Rights.{marks_from}
use Rattle.session_marks.specs.declared.Found.{Found}
use Rattle.session_marks.specs.Marks.{slot_from, slot_at, looked_below, found_in, Searched}
use Rattle.session_refusals.specs.Refusals.{overfull, refusal_of}
use Rattle.session_calls.specs.Sessions as full
use Rattle.session_calls.specs.Sessions.{FullSession}
use Rattle.session_calls.specs.Reads as full-reads
use Rattle.session_calls.specs.Reads.{step_at, taken, too_many}
use Rattle.session_soundness.specs.declared.Fields.{Fields}
use Rattle.session.specs.declared.Session.{Session}
use Rattle.session.specs.Sessions.{Lent, Wide, new_of, marks, old_of, sound}
use Rattle.session.specs.Reads.{new_step, gathered, slot_of, looked_at, refused, read_of}
use Rattle.session.specs.Steps.{Summed, Movable, Enterable, Gatherable}
use Rattle.reuse.proofs.Lists.{by-test}
use Rattle.reuse.proofs.Depth.{depth-absent}
use Rattle.reuse.proofs.Sums.{at-le-sum, sum_drop, sum-drop-le, free-at}
use Rattle.session_marks.proofs.Marks.{row-tidy, slot-absent, slot-marked}
use Rattle.session_marks.proofs.Search.{slot-nothing, slot-is, found-slot}
use Rattle.session_calls.proofs.Sound.{Kept, length-stack, kept-wide, kept-few}
use Rattle.session_calls.proofs.Taken.{Roomed, room-made, room-there, stack-mem, slot-below, slot-depth, kept-gathered}
use Rattle.session_calls.proofs.Looked.{searched, count-old, count-absent}
use Rattle.session.proofs.Corresponds.{Facts, sound-facts, tested, old-new, old-marks, new-old, old-kept, new-marks, new-wide, old-sound, summed}

-- what the search for x comes to
abbrev pub search_of : Session → ℕ → Found
search_of s x = record { slot = slot_at (slot_of s x); looked = length (looked_at s x) }

-- an extent of the old session has a slot exactly where it is in the stack
module _ (o : FullSession) (k : Kept o) (x : ℕ) where
  -- an extent with no slot is not in the stack
  not-held : full-reads.slot_of o x ≡ slot_count → mem x (full.stack_of o) ≡ false
  not-held e = by-test (mem x (full.stack_of o)) (λ t. absurd (omega (arith, slot-below o k x t, k.rows.low))) (λ f. f)

  -- an extent that is not in the stack has no slot
  no_slot : mem x (full.stack_of o) ≡ false → full-reads.slot_of o x ≡ slot_count
  unfolding full-reads.slot_of
  no_slot f = slot-absent k.rows.row x (sym (stack-mem o k x) ∙ f) ∙ k.rows.wide

  -- an extent with a slot is in the stack
  is_held : (full-reads.slot_of o x ≡ slot_count → ⊥) → mem x (full.stack_of o) ≡ true
  is_held n = by-test (mem x (full.stack_of o)) (λ t. t) (λ f. absurd (n (no_slot f)))

-- what gathering relies on
pub gatherable : (s : Session) → Facts s → Gatherable s
gatherable s f =
    let k = (old-kept s f).kept in
    record { summed = summed s f; slots-wide = (kept-wide (old_of s) k).slots-wide; neat = row-tidy k.rows.row }

-- σ is s with room for one more
pub record Ready (s σ : Session) : Type 0 where
  pub new : new_of (old_of σ) ≡ σ
  pub roomed : Roomed (old_of s) (old_of σ)

module _ (s : Session) (f : Facts s) where
  -- room that was made
  pub ready_made : s.next ≡ slot_count → Ready s (gathered s)
  unfolding gathered
  ready_made e =
      let k = (old-kept s f).kept in
      let back : old_of (new_of (full-reads.gathered (old_of s))) ≡ full-reads.gathered (old_of s) = old-new (full-reads.gathered (old_of s)) (kept-gathered (old_of s) k) in
      record { new = ap new_of back; roomed = subst (λ (o : FullSession). Roomed (old_of s) o) (sym back) (room-made (old_of s) k e) }

  -- room that was there
  pub ready-there : (s.next ≡ slot_count → ⊥) → Ready s s
  ready-there n = record { new = new-old s f; roomed = room-there (old_of s) (old-kept s f).kept n }

module _ (s σ : Session) (m : Ready s σ) where
  -- the old session's rows
  abbrev kept : Kept (old_of σ)
  kept = m.roomed.kept

  -- what its parts rely on
  ready-summed : Summed σ
  ready-summed = record { new = m.new; wide = kept.rows.wide; few = kept-few (old_of σ) kept }

  -- the slot next is free
  next-free : get_or (full.marks (old_of σ)) σ.next 0 ≡ 0
  next-free = free-at (full.marks (old_of σ)) σ.next σ.next kept.rows.free (omega arith)

  -- the marks worked out are the old session's
  worked : marks_from levels σ.count σ.rights ≡ full.marks (old_of σ)
  worked = unfold marks in ap marks (sym m.new) ∙ new-marks (old_of σ) kept

  -- the search finds the slot of x
  pub found : (x : ℕ) → found_in σ.slots σ.count σ.rights σ.next x ≡ search_of σ x
  unfolding full-reads.slot_of full-reads.looked_at
  found x =
      let wide = (subst (λ (r : Session). Wide r) m.new (new-wide (old_of σ) kept)).rights-wide in
      found-slot σ.slots σ.count σ.rights σ.next x wide
      (subst (λ (l : List ℕ). Searched σ.slots l σ.next) (sym worked) (searched (old_of σ) kept))
      ∙ ap (λ (l : List ℕ). record { slot = slot_at (slot_from l σ.slots x); looked = length (looked_below σ.slots l x σ.next) }) worked

  -- the mark of a known extent can move
  movable : (x : ℕ) → σ.reads < max_reads → mem x (full.stack_of (old_of σ)) ≡ true → Movable σ x (slot_of σ x) (length (looked_at σ x))
  movable x short t = record {
    summed = ready-summed;
    here = refl;
    seen = count-old (old_of σ) kept x t;
    below = slot-below (old_of σ) kept x t;
    room = m.roomed.room;
    held = mark;
    free = next-free;
    behind = omega (arith, mark, sum_drop (slot_of σ x) (full.marks (old_of σ)), sum-drop-le (slot_of σ x) (full.marks (old_of σ)), kept.rows.few);
    counted = omega (arith, at-le-sum σ.hist (sum (drop (suc (slot_of σ x)) (full.marks (old_of σ)))), kept.rows.total);
    short = short;
  }
    where
      mark : get_or (full.marks (old_of σ)) (slot_of σ x) 0 ≡ 1
      mark = unfold full-reads.slot_of in (slot-marked kept.rows.row x (sym (stack-mem (old_of σ) kept x) ∙ t)).0

-- one extent too many, by the session's fields
over : (s : Session) → Facts s → (x : ℕ) → overfull s.slots (marks_from levels s.count s.rights) x ≡ too_many (old_of s) x
unfolding overfull too_many full.stack_of full.extents
over s f x = ap (λ (l : List ℕ). overfull s.slots l x) (sym (unfold marks in old-marks s f))

-- what refuses a read of x
abbrev refusal : Session → ℕ → Option Refusal
refusal s x = refusal_of s.reads s.first s.hist s.slots s.count s.rights s.next x

-- fields that are a session's are refused as it is
pub lent-refusal : (s : Session) (f : Fields) → Lent s f → (x : ℕ)
    → refusal_of f.reads f.first.now f.hist.now f.slots.now f.count f.rights.now f.next x ≡ refusal_of s.reads s.first s.hist s.slots s.count s.rights s.next x
lent-refusal s f l x = rw (l.reads, l.first, l.hist, l.slots, l.count, l.rights, l.next)

-- what is known of a session that accepts a read of x
pub record Accepted (s : Session) (x : ℕ) : Type 0 where
  pub ok : sound s ≡ true
  pub short : s.reads ≡ max_reads → ⊥
  pub few : too_many (old_of s) x ≡ false

module _ (s : Session) (w : Wide s) (x : ℕ) where
  module _ (ok : sound s ≡ true) where
    -- the old session is sound too
    ok-old : full.sound (old_of s) ≡ true
    ok-old = (old-sound s (sound-facts s w ok)).1

    -- a refusal of the old session, with the session as it was
    refused-old : (r : Refusal) → new_step (full-reads.refused (old_of s) r) ≡ refused s r
    refused-old r = ap (λ (t : Session). refused t r) (new-old s (sound-facts s w ok))

  -- a read that is refused
  pub refused-way : (why : Refusal) → Some why ≡ refusal s x → refused s why ≡ read_of s x
  unfolding read_of refusal_of full-reads.read_of
  refused-way why e =
      by-test (sound s)
      (λ ok. by-test (eqb s.reads max_reads)
      (λ r. let q : ◌≡◌ {A = Option Refusal} (Some why) (Some TooManyReads) = simp (tested s w, ok, r) at e in
      let is : why ≡ TooManyReads = cc in
      rw is (simp (ok, ok-old ok, r) (sym (refused-old ok TooManyReads))))
      (λ r. by-test (too_many (old_of s) x)
      (λ m. let q : ◌≡◌ {A = Option Refusal} (Some why) (Some TooManyExtents) = simp (tested s w, ok, r, over s (sound-facts s w ok) x, m) at e in
      let is : why ≡ TooManyExtents = cc in
      rw is (simp (ok, ok-old ok, r, m) (sym (refused-old ok TooManyExtents))))
      (λ m. let q : ◌≡◌ {A = Option Refusal} (Some why) None = simp (tested s w, ok, r, over s (sound-facts s w ok) x, m) at e in absurd (cc))))
      (λ bad. let q : ◌≡◌ {A = Option Refusal} (Some why) (Some Unsound) = simp (tested s w, bad) at e in
      let is : why ≡ Unsound = cc in
      rw is (simp bad))

  -- a read that is not
  pub accepts : refusal s x ≡ None → Accepted s x
  unfolding refusal_of
  accepts e =
      by-test (sound s)
      (λ ok. by-test (eqb s.reads max_reads)
      (λ r. let z : ◌≡◌ {A = Option Refusal} (Some TooManyReads) None = simp (tested s w, ok, r) at e in absurd (cc))
      (λ r. by-test (too_many (old_of s) x)
      (λ m. let z : ◌≡◌ {A = Option Refusal} (Some TooManyExtents) None = simp (tested s w, ok, r, over s (sound-facts s w ok) x, m) at e in absurd (cc))
      (λ m. record { ok = ok; short = eqb-false s.reads max_reads r; few = m })))
      (λ bad. let z : ◌≡◌ {A = Option Refusal} (Some Unsound) None = simp (tested s w, bad) at e in absurd (cc))

  -- σ is s with room, and g is what the search for x comes to in it
  module _ (a : Accepted s x) (σ : Session) (g : Found) (m : Ready s σ) (is : g ≡ search_of σ x) where
    -- the slot of x, where it has one
    at_slot : g.slot ≡ slot_at (slot_of σ x)
    at_slot = ap (λ (r : Found). r.slot) is

    -- the reads are within the limit
    left : σ.reads < max_reads
    left = omega (arith, m.roomed.reads, (sound-facts s w a.ok).sound.short, a.short)

    -- an accepted read
    taken_is : new_step (taken (old_of σ) x) ≡ read_of s x
    unfolding read_of full-reads.read_of
    taken_is = rw (a.ok, ok-old a.ok, ne_eqb s.reads max_reads a.short, a.few, m.roomed.is)

    -- x is not in the stack where it has no slot
    absent : g.slot ≡ None → mem x (full.stack_of (old_of σ)) ≡ false
    absent e = not-held (old_of σ) (kept s σ m) x (slot-nothing (slot_of σ x) (sym at_slot ∙ e))

    module _ (k : ℕ) (here : g.slot ≡ Some k) where
      -- k is the slot of x
      this : (slot_of σ x ≡ k) × (slot_of σ x ≡ slot_count → ⊥)
      this = slot-is (slot_of σ x) k (sym at_slot ∙ here)

      -- x is in the stack
      known : mem x (full.stack_of (old_of σ)) ≡ true
      known = is_held (old_of σ) (kept s σ m) x this.1

      -- the mark of a known extent can move
      pub moves : Movable σ x k g.looked
      moves = rw (sym this.0, is) (movable s σ m x left known)

      -- a read of a known extent
      pub known-way : new_step (step_at (old_of σ) x (at (suc (sum (drop (suc k) (full.marks (old_of σ))))))) ≡ read_of s x
      known-way =
          let old : taken (old_of σ) x ≡ step_at (old_of σ) x (at (suc (sum (drop (suc (slot_of σ x)) (full.marks (old_of σ)))))) =
          unfold taken in rw (slot-depth (old_of σ) (kept s σ m) x known) in
          rw (sym this.0) (ap new_step (sym old) ∙ taken_is)

    -- a new extent can have a mark
    pub enters : g.slot ≡ None → Enterable σ g.looked
    unfolding too_many
    enters e =
        let new : mem x (full.stack_of (old_of s)) ≡ false = ap (mem x) (sym m.roomed.stacked) ∙ absent e in
        let below : eqb (full.extents (old_of s)) max_extents ≡ false = simp new at a.few in
        record {
          summed = ready-summed s σ m;
          seen = ap (λ (r : Found). r.looked) is ∙ count-absent (old_of σ) (kept s σ m) x (absent e);
          room = m.roomed.room;
          free = next-free s σ m;
          few = omega (arith, m.roomed.counted, kept-few (old_of s) (old-kept s (sound-facts s w a.ok)).kept, eqb-false (full.extents (old_of s)) max_extents below);
          short = left;
        }

    -- a read of a new extent
    pub cold-way : g.slot ≡ None → new_step (step_at (old_of σ) x (cold (suc (full.extents (old_of σ))))) ≡ read_of s x
    cold-way e =
        let new : taken (old_of σ) x ≡ step_at (old_of σ) x (cold (suc (full.extents (old_of σ)))) =
        unfold taken in ap (step_at (old_of σ) x) (depth-absent x (full.stack_of (old_of σ)) (absent e) ∙ ap (λ (n : ℕ). cold (suc n)) (length-stack (old_of σ) (kept s σ m))) in
        ap new_step (sym new) ∙ taken_is
