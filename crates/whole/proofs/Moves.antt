-- When the marks of a log's session first move.
use Prim.Native.Nat.{ℕ, suc, ◌≤◌, ◌<◌}
use mathlib.Core.Path.{◌≡◌, refl, ap, ◌∙◌}
use mathlib.Core.List.{List, [], ◌∷◌, ◌++◌, append_assoc, append-nil}
use native.Mathlib.Omega.{arith}
use lib.ListN.{length, length-append}
use borrow.Author.Tests.{eq-eqb, ne_eqb}
use Rattle.reuse.specs.Limits.{slot_count}
use Rattle.reuse.specs.Lru.{Reuse, cold, at, depth, stack}
use Rattle.reuse.specs.Traces.{Within}
use Rattle.session.specs.declared.Session.{Session}
use Rattle.session.specs.declared.Step.{Step}
use Rattle.session.specs.Sessions.{fresh}
use Rattle.session_calls.specs.Reads as full
use Rattle.session.specs.Reads.{gathered, roomed, step_at, read_of}
use Rattle.session.proofs.Corresponds.{Facts, new-old}
use Rattle.session_traces.proofs.Stands.{Stands, stands-facts, fresh-stands}
use Rattle.session_traces.proofs.Read.{read_taken_lem, read-stands}
use Rattle.whole.specs.Runs.{session_after}
use Rattle.whole.specs.Moves.{FirstMove}
use Rattle.whole.proofs.Calls.{within-reads, within-extents, trace-stands}

-- with a slot left the marks stay
room-stays : (s : Session) → Facts s → s.next < slot_count → roomed s ≡ s
unfolding roomed full.roomed
room-stays s f l = rw (ne_eqb s.next slot_count (λ e. omega arith)) (new-old s f)

-- with none left they move
full-moves : (s : Session) → s.next ≡ slot_count → roomed s ≡ gathered s
unfolding roomed gathered full.roomed
full-moves s e = rw (eq-eqb s.next slot_count e)

-- an accepted read takes one slot
step-next : (s : Session) (x : ℕ) (r : Reuse) → (step_at s x r).session.next ≡ suc s.next
unfolding full.moved full.entered
step-next s x (cold n) = refl
step-next s x (at d) = refl

-- as many reads as slots, at most, take a slot each
next-along : (u : List ℕ) (s : Session) (t : List ℕ) → Stands s t → Within (t ++ u) → s.next ≡ length t → length (t ++ u) ≤ slot_count
    → (session_after s u).next ≡ length (t ++ u)
unfolding session_after
next-along [] s t g w e l = rw append-nil e
next-along (x ∷ u) s t g w e l =
    rw append_assoc at
    (next-along u (read_of s x).session (t ++ (x ∷ []))
    (read-stands s t g x (within-reads t u x w) (within-extents t u x w))
    (rw append_assoc w)
    one_more_lem
    (rw append_assoc l))
  where
    -- a slot is left for x
    room : s.next < slot_count
    room = omega (arith, length-append t (x ∷ u))

    -- and x takes it
    one_more_lem : (read_of s x).session.next ≡ length (t ++ (x ∷ []))
    one_more_lem =
        ap (λ (r : Step). r.session.next) (read_taken_lem s t g x (within-reads t u x w) (within-extents t u x w))
        ∙ step-next (roomed s) x (depth (stack t) x)
        ∙ ap (λ (r : Session). suc r.next) (room-stays s (stands-facts s t g) room)
        ∙ simp length-append (omega (arith, e))

-- of every log within the limits
pub first-move : (t : List ℕ) → Within t → FirstMove t
first-move t w = record {
  next = taken;
  stays = λ l. room-stays (session_after fresh t) (stands-facts (session_after fresh t) t (trace-stands t w)) (omega (arith, taken (omega arith)));
  moves = λ e. full-moves (session_after fresh t) (taken (omega arith) ∙ e);
}
  where
    taken : length t ≤ slot_count → (session_after fresh t).next ≡ length t
    taken l = next-along t fresh [] fresh-stands w refl l
