-- The laws of a read: of a sound session, and of one that has read a trace.
use Rattle.std.specs.Prelude.{Ok}
use Rattle.reuse.specs.declared.refusals.Refusal.TheVariants.{TooManyReads, TooManyExtents}
use Prim.Native.Nat.{ℕ, suc, ◌-◌, ◌≤◌, ◌<◌}
use mathlib.Core.Path.{◌≡◌, refl, sym, ap, ◌∙◌}
use mathlib.Core.List.{List, [], ◌∷◌, ◌++◌}
use mathlib.Core.Bool.{Bool, true, false, cond, not, ◌&&◌}
use native.Mathlib.Omega.{arith}
use lib.Dec.{eqb}
use lib.ListN.{length, length-append}
use borrow.Author.Tests.{ne_eqb, eqb-false}
use Rattle.reuse.specs.Lists.{mem, firsts}
use Rattle.reuse.specs.Lru.{depth, stack}
use Rattle.reuse.specs.Limits.{max_reads, max_extents, slot_count, levels}
use Rattle.session_calls.specs.Sessions.{FullSession, FullWide, marks, extents, stack_of, sound}
use Rattle.session_calls.specs.Reads.{roomed, slot_of, step_at, taken, refused, too_many, read_of}
use Rattle.session_calls.specs.declared.Answer.TheVariants.{Distance}
use Rattle.session_calls.specs.Walks.{on_the_way, total_at, Walks}
use Rattle.reuse.proofs.Lists.{by-test}
use Rattle.reuse.proofs.Stack.{mem-stack}
use Rattle.session_sums.proofs.Tree.{full}
use Rattle.session_sums.proofs.Walks.{neighbours-count, neighbours-total}
use Rattle.session_calls.proofs.Sound.{Kept, Sound, true-sound, kept-sound, kept-wide, kept-few, kept-trued}
use Rattle.session_calls.proofs.Taken.{Roomed, kept-roomed, kept-taken, taken-reads, slot-below, slot-depth}
use Rattle.session_calls.proofs.Stands.{Stands, stands-known, known-stands, known-extents, known-roomed, known-taken}

-- a sound session's read, refused or not, leaves a sound session, whether or not a trace gave it
module _ (s : FullSession) (w : FullWide s) (ok : sound s ≡ true) (x : ℕ) where
  -- the facts of the test
  facts : Sound s
  facts = true-sound s w ok

  -- an accepted read leaves sound rows
  taken-kept : too_many s x ≡ false → Kept (taken (roomed s) x).session
  unfolding too_many
  taken-kept few =
      let m = kept-roomed s facts.kept in
      kept-taken (roomed s) m.kept x m.room
      (λ new. let f : eqb (extents s) max_extents ≡ false = simp (sym (ap (mem x) m.stacked) ∙ new) at few in
      omega (arith, m.counted, kept-few s facts.kept, eqb-false (extents s) max_extents f))

  -- a read leaves sound rows, and no more reads than the limit
  pub read_keeps : Kept (read_of s x).session × ((read_of s x).session.reads ≤ max_reads)
  unfolding read_of
  read_keeps =
      let m = kept-roomed s facts.kept in
      by-test (eqb s.reads max_reads)
      (λ e. simp (ok, e) (facts.kept, facts.short))
      (λ e. by-test (too_many s x)
      (λ f. simp (ok, e, f) (facts.kept, facts.short))
      (λ f. simp (ok, e, f) (
        taken-kept f,
        omega (arith, taken-reads (roomed s) m.kept x m.room, m.reads, facts.short, eqb-false s.reads max_reads e),
      )))

  -- so it is sound
  pub read-sound : sound (read_of s x).session ≡ true
  read-sound = kept-sound (read_of s x).session read_keeps.0 read_keeps.1

  -- its arrays keep their widths
  pub read_wide : let r = (read_of s x).session in FullWide r
  read_wide = kept-wide (read_of s x).session read_keeps.0

-- an accepted read of a known extent by a session with room
taken-neighbours : (s : FullSession) → Kept s → (x : ℕ) → mem x (stack_of s) ≡ true
    → (taken s x).answer ≡ Ok (Distance (suc (total_at s (on_the_way s x))) (length (on_the_way s x)) (s.next - slot_of s x))
unfolding taken
taken-neighbours s k x old =
    let below : slot_of s x < slot_count = omega (arith, slot-below s k x old, k.rows.low) in
    rw (
      slot-depth s k x old,
      neighbours-total levels slot_count s.sums (slot_of s x) (kept-trued s k) full below,
      neighbours-count levels slot_count (slot_of s x) full below,
    )
    (unfold marks in refl)

-- the distance of an accepted read of a known extent is 1 plus the total of the sums on the way up, of every sound session
pub walks : Walks
unfolding read_of too_many
walks s w ok x old short =
    let m : Roomed s (roomed s) = kept-roomed s (true-sound s w ok).kept in
    let held : mem x (stack_of (roomed s)) ≡ true = ap (mem x) m.stacked ∙ old in
    let below : slot_of (roomed s) x < slot_count = omega (arith, slot-below (roomed s) m.kept x held, m.room) in
    record {
      answer = rw (ok, ne_eqb s.reads max_reads (λ e. omega arith), old) (taken-neighbours (roomed s) m.kept x held);
      zeros-read = neighbours-count levels slot_count (slot_of (roomed s) x) full below;
    }

-- x would be one extent too many for the trace t
abbrev pub over : List ℕ → ℕ → Bool
over t x = not (mem x t) && eqb (length (firsts t)) max_extents

module _ (s : FullSession) (t : List ℕ) (g : Stands s t) (x : ℕ) where
  -- an accepted read, by the trace's own stack
  taken_is : taken (roomed s) x ≡ step_at (roomed s) x (depth (stack t) x)
  unfolding taken
  taken_is = rw (known-roomed s t (stands-known s t g)).stacked

  -- x is one extent too many for the session where it is for the trace
  too_many_lem : too_many s x ≡ over t x
  unfolding too_many
  too_many_lem = rw (ap (mem x) g.stacked ∙ mem-stack x t, known-extents s t (stands-known s t g))

  -- what a read answers, by the trace alone
  pub read_is : read_of s x
      ≡ cond (eqb (length t) max_reads) (refused s TooManyReads) (cond (over t x) (refused s TooManyExtents) (step_at (roomed s) x (depth (stack t) x)))
  unfolding read_of
  read_is = rw (g.is-sound, ap (λ (n : ℕ). eqb n max_reads) g.counted, too_many_lem, taken_is)

  -- a read too many
  pub read-full : eqb (length t) max_reads ≡ true → read_of s x ≡ refused s TooManyReads
  read-full e = read_is ∙ rw e

  -- an extent too many
  pub read-many : eqb (length t) max_reads ≡ false → over t x ≡ true → read_of s x ≡ refused s TooManyExtents
  read-many short e = read_is ∙ rw (short, e)

  -- a read that is accepted
  pub read_taken_lem : eqb (length t) max_reads ≡ false → over t x ≡ false → read_of s x ≡ step_at (roomed s) x (depth (stack t) x)
  read_taken_lem short few = read_is ∙ rw (short, few)

  -- by the session's own stack
  pub read-accepted : eqb (length t) max_reads ≡ false → over t x ≡ false → read_of s x ≡ taken (roomed s) x
  read-accepted short few = read_taken_lem short few ∙ sym taken_is

  -- an accepted read takes t one read on
  pub read-stands : eqb (length t) max_reads ≡ false → over t x ≡ false → Stands (read_of s x).session (t ++ (x ∷ []))
  read-stands short few =
      let h = stands-known s t g in
      let m = kept-roomed s h.kept in
      rw (read-accepted short few)
      (known-stands (taken (roomed s) x).session (t ++ (x ∷ []))
      (known-taken (roomed s) t (known-roomed s t h) x m.room
      (λ new. let f : eqb (length (firsts t)) max_extents ≡ false = simp new at few in
      omega (arith, m.counted, known-extents s t h, kept-few s h.kept, eqb-false (length (firsts t)) max_extents f)))
      (simp length-append (omega (arith, g.counted, (true-sound s g.wide g.is-sound).short, eqb-false (length t) max_reads short))))
