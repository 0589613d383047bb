-- The laws of a read: of a sound session, and of one that has read a trace; each is that of the session with all sums.
use Rattle.reuse.specs.declared.refusals.Refusal.{Refusal}
use Rattle.reuse.specs.declared.refusals.Refusal.TheVariants.{TooManyReads, TooManyExtents}
use Prim.Native.Nat.{ℕ, suc, ◌-◌, ◌≤◌, ◌<◌}
use mathlib.Core.Path.{◌≡◌, sym, ap, subst, ◌∙◌}
use mathlib.Core.List.{List, [], ◌∷◌, ◌++◌, map}
use mathlib.Core.Bool.{Bool, true, false, cond}
use native.Mathlib.Omega.{arith}
use lib.Dec.{eqb}
use lib.ListN.{length, get_or}
use Rattle.reuse.specs.Lists.{mem, sum}
use Rattle.reuse.specs.Lru.{depth, stack}
use Rattle.reuse.specs.Limits.{max_reads, slot_count, levels}
use Rattle.session_sums.specs.Sums.{neighbours}
use Rattle.session_rights.specs.Rights.{rights_of}
use Rattle.session_rights.specs.Ways.{from_left}
use Rattle.session_calls.specs.Sessions as full
use Rattle.session_calls.specs.Sessions.{FullSession}
use Rattle.session_calls.specs.Reads as full-reads
use Rattle.session.specs.declared.Session.{Session}
use Rattle.session.specs.declared.Step.{Step}
use Rattle.session.specs.Sessions.{Wide, old_of, sound}
use Rattle.session.specs.Reads.{new_step, roomed, slot_of, step_at, refused, read_of}
use Rattle.session_traces.specs.Walks.{total_at, Walks}
use Rattle.session_rights.proofs.Trees.{left-count, same_total}
use Rattle.session_calls.proofs.Sound.{Kept}
use Rattle.session_calls.proofs.Taken.{slot-below}
use Rattle.session_calls.proofs.Read as old
use Rattle.session.proofs.Corresponds.{Facts, sound-facts, new-old, old-sound, new-wide, new-sound}
use Rattle.session.proofs.Parts.{same-distance}
use Rattle.session_traces.proofs.Stands.{Stands, stands-new, stands-facts, old-room, old-roomed}

-- x would be one extent too many for the trace t
abbrev pub over : List ℕ → ℕ → Bool
over t x = old.over t x

module _ (s : Session) (w : Wide s) (ok : sound s ≡ true) (x : ℕ) where
  -- a sound session's read is what the old one's is
  pub read-old : read_of s x ≡ new_step (full-reads.read_of (old_of s) x)
  unfolding read_of
  read-old = rw ok

  -- the facts of the test
  facts : Facts s
  facts = sound-facts s w ok

  -- the old session after it is sound
  kept : Kept (full-reads.read_of (old_of s) x).session × ((full-reads.read_of (old_of s) x).session.reads ≤ max_reads)
  kept = let p = old-sound s facts in old.read_keeps (old_of s) p.0 p.1 x

  -- so is the session, whether or not a trace gave it
  pub read-sound : sound (read_of s x).session ≡ true
  read-sound = ap (λ (r : Step). sound r.session) read-old ∙ new-sound (full-reads.read_of (old_of s) x).session kept.0 kept.1

  -- its arrays keep their widths
  pub read_wide : Wide (read_of s x).session
  read_wide = subst (λ (r : Step). Wide r.session) (sym read-old) (new-wide (full-reads.read_of (old_of s) x).session kept.0)

-- the right-hand sums on the way up from a slot add up to what the right-hand neighbours in the tree do, and are as many
module _ (o : FullSession) (k : Kept o) (n : ℕ) (l : n < slot_count) where
  same_way : sum (map (λ p. get_or (rights_of levels (full.marks o)) p 0) (from_left levels 0 n)) ≡ sum (map (λ p. get_or o.sums p 0) (neighbours slot_count levels n))
  same_way = same_total levels n l (full.marks o) k.rows.wide ∙ ap (λ (t : List ℕ). sum (map (λ p. get_or t p 0) (neighbours slot_count levels n))) (sym k.tree)

-- the distance of an accepted read of a known extent is 1 plus the total of the right-hand sums on the way up, of every sound session
pub walks : Walks
unfolding roomed
walks s w ok x old-one short =
    let f = sound-facts s w ok in
    let p = old-sound s f in
    let m = old-room s f in
    let ro = full-reads.roomed (old_of s) in
    let h = old.walks (old_of s) p.0 p.1 x old-one short in
    let held : mem x (full.stack_of ro) ≡ true = ap (mem x) m.stacked ∙ old-one in
    let below : full-reads.slot_of ro x < slot_count = omega (arith, slot-below ro m.kept x held, m.room) in
    let slot : slot_of (roomed s) x ≡ full-reads.slot_of ro x = ap (λ (o : FullSession). full-reads.slot_of o x) (old-roomed s f) in
    record {
      answer =
          ap (λ (r : Step). r.answer) (read-old s w ok x)
          ∙ h.answer
          ∙ same-distance
          (ap suc (sym (ap (λ (n : ℕ). total_at (roomed s) (from_left levels 0 n)) slot ∙ same_way ro m.kept (full-reads.slot_of ro x) below)))
          (h.zeros-read ∙ sym (left-count levels (full-reads.slot_of ro x) below) ∙ ap (λ (n : ℕ). length (from_left levels 0 n)) (sym slot))
          (ap (λ (n : ℕ). ro.next - n) (sym slot));
      zeros-read = left-count levels (slot_of (roomed s) x) (omega (arith, slot, below));
    }

module _ (s : Session) (t : List ℕ) (g : Stands s t) (x : ℕ) where
  -- the old session
  abbrev o : FullSession
  o = old_of s

  -- a refusal of the old session, with the session as it was
  refused-old : (n : Refusal) → new_step (full-reads.refused o n) ≡ refused s n
  refused-old n = ap (λ (r : Session). refused r n) (new-old s (stands-facts s t g))

  -- what a read answers, by the trace alone
  pub read_is : read_of s x
      ≡ cond (eqb (length t) max_reads) (refused s TooManyReads) (cond (over t x) (refused s TooManyExtents) (step_at (roomed s) x (depth (stack t) x)))
  read_is =
      read-old s g.wide g.is-sound x
      ∙ ap new_step (old.read_is o t g.full-stands x)
      ∙ by (eqb (length t) max_reads) (over t x)
    where
      by : (c d : Bool) → new_step (cond c (full-reads.refused o TooManyReads) (cond d (full-reads.refused o TooManyExtents) (full-reads.step_at (full-reads.roomed o) x (depth (stack t) x))))
          ≡ cond c (refused s TooManyReads) (cond d (refused s TooManyExtents) (step_at (roomed s) x (depth (stack t) x)))
      by true d = refused-old TooManyReads
      by false true = refused-old TooManyExtents
      by false false = sym (ap (λ (r : FullSession). new_step (full-reads.step_at r x (depth (stack t) x))) (old-roomed s (stands-facts s t g)))

  -- a read too many
  pub read-full : eqb (length t) max_reads ≡ true → read_of s x ≡ refused s TooManyReads
  read-full e = read_is ∙ rw e

  -- an extent too many
  pub read-many : eqb (length t) max_reads ≡ false → over t x ≡ true → read_of s x ≡ refused s TooManyExtents
  read-many short e = read_is ∙ rw (short, e)

  -- a read that is accepted
  pub read_taken_lem : eqb (length t) max_reads ≡ false → over t x ≡ false → read_of s x ≡ step_at (roomed s) x (depth (stack t) x)
  read_taken_lem short few = read_is ∙ rw (short, few)

  -- an accepted read takes t one read on
  pub read-stands : eqb (length t) max_reads ≡ false → over t x ≡ false → Stands (read_of s x).session (t ++ (x ∷ []))
  read-stands short few =
      subst (λ (r : Step). Stands r.session (t ++ (x ∷ []))) (sym (read-old s g.wide g.is-sound x))
      (stands-new (full-reads.read_of o x).session (t ++ (x ∷ [])) (old.read-stands o t g.full-stands x short few))
