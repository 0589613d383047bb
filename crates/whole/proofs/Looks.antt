-- The slots that the reads of a log look at.
use Prim.Native.Nat.{ℕ}
use mathlib.Core.Path.{◌≡◌, refl, ap, ◌∙◌}
use mathlib.Core.List.{List, [], ◌∷◌, ◌++◌, map, append_assoc}
use mathlib.Core.Bool.{false}
use lib.Dec.{eqb}
use lib.ListN.{length}
use Rattle.reuse.specs.Limits.{max_reads}
use Rattle.reuse.specs.Traces.{Within}
use Rattle.reuse.specs.Lists.{mem}
use Rattle.reuse.proofs.Stack.{mem-stack}
use Rattle.reuse.proofs.Traces.{within-front}
use Rattle.session.specs.declared.Session.{Session}
use Rattle.session.specs.Sessions.{fresh}
use Rattle.session_calls.specs.Reads.{slots_looked}
use Rattle.session.specs.Reads.{roomed, looked_at, read_of}
use Rattle.session_traces.proofs.Stands.{Stands}
use Rattle.session_traces.proofs.Read.{over, read-stands}
use Rattle.session_traces.proofs.Looks.{trace-look, read_again}
use Rattle.whole.specs.Runs.{session_after, answers_of}
use Rattle.whole.specs.Looks.{looked_along, Looked}
use Rattle.whole.proofs.Calls.{within-reads, within-extents, trace-stands}

-- each answer tells how many slots were looked at
pub looked-along : (u : List ℕ) (s : Session) (t : List ℕ) → Stands s t → Within (t ++ u) → map slots_looked (answers_of s u) ≡ map length (looked_along s u)
unfolding answers_of looked_along
looked-along [] s t g w = refl
looked-along (x ∷ u) s t g w =
    ap {B = List ℕ} (λ n. n ∷ map slots_looked (answers_of (read_of s x).session u)) (trace-look s t g x short few).tells
    ∙ ap {B = List ℕ} (λ l. length (looked_at (roomed s) x) ∷ l)
    (looked-along u (read_of s x).session (t ++ (x ∷ [])) (read-stands s t g x short few) (rw append_assoc w))
  where
    -- no 8
    short : eqb (length t) max_reads ≡ false
    short = within-reads t u x w

    -- no 9
    few : over t x ≡ false
    few = within-extents t u x w

-- the session after one more call
after-snoc : (t : List ℕ) (s : Session) (x : ℕ) → session_after s (t ++ (x ∷ [])) ≡ (read_of (session_after s t) x).session
unfolding session_after
after-snoc [] s x = refl
after-snoc (y ∷ t) s x = after-snoc t (read_of s y).session x

-- what each read of a log looks at
pub log-looks : (t u : List ℕ) (x : ℕ) → Within (t ++ (x ∷ u)) → Looked t x
log-looks t u x w = record {
  has-mark = ap (mem x) stands.full-stands.stacked ∙ mem-stack x t;
  look = trace-look (session_after fresh t) t stands x (within-reads t u x w) (within-extents t u x w);
  again = λ earlier e. rw e (last-read earlier (rw (e, append_assoc) at w));
}
  where
    -- the session has read t
    stands : Stands (session_after fresh t) t
    stands = trace-stands t (within-front t (x ∷ u) w)

    -- after a read of x itself
    last-read : (earlier : List ℕ) → Within (earlier ++ (x ∷ x ∷ u)) → slots_looked (read_of (session_after fresh (earlier ++ (x ∷ []))) x).answer ≡ 1
    last-read earlier h =
        rw (after-snoc earlier fresh x)
        (read_again (session_after fresh earlier) earlier (trace-stands earlier (within-front earlier (x ∷ x ∷ u) h)) x
        (within-reads earlier (x ∷ u) x h)
        (within-extents earlier (x ∷ u) x h)
        (within-reads (earlier ++ (x ∷ [])) u x (rw append_assoc h)))
