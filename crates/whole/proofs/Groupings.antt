-- Groupings of parts: each hands over the summary of its log, or is refused with 6 where a buffer is too short.
use Prim.Native.Nat.{ℕ}
use mathlib.Core.Path.{◌≡◌, refl, sym, ap, ◌∙◌}
use mathlib.Core.List.{List, [], ◌∷◌, ◌++◌, append_assoc, append-nil}
use mathlib.Core.Bool.{Bool, true, false, cond, ◌&&◌}
use lib.Dec.{leb}
use lib.ListN.{length, drop}
use lib.Seq.{take-append_seam}
use Rattle.reuse.specs.Summary.{summary_of}
use Rattle.reuse.specs.Traces.{Within}
use Rattle.reuse.proofs.Lists.{by-test}
use Rattle.reuse.proofs.Words.{length-summary}
use Rattle.reuse.proofs.Traces.{within-front, within-back}
use Rattle.summary_calls.specs.Calls.{wrote}
use Rattle.summary_calls.proofs.Traces.{join-trace}
use Rattle.session.specs.declared.Session.{Session}
use Rattle.session_summary.specs.Summaries.{summary_call}
use Rattle.session_traces.proofs.Stands.{Stands}
use Rattle.session_summary.proofs.Summaries.{summary-trace}
use Rattle.whole.specs.Runs.{gives, refused, outcome, room_for}
use Rattle.whole.specs.Moments.{state_after, begun}
use Rattle.whole.specs.Groupings.{Part, part_log, AllUnset, Grouping, part, joined, parts, log_of, joined_with, grouped, roomy}
use Rattle.whole.proofs.Moments.{run-reads}

-- the log of some parts and then others
pub log-append : (p q : List Part) → log_of (p ++ q) ≡ log_of p ++ log_of q
unfolding log_of
log-append [] q = refl
log-append (a ∷ p) q = rw (log-append p q) (sym (append_assoc (part_log a) (log_of p) (log_of q)))

-- the log of one part
pub log-one : (p : Part) → log_of (p ∷ []) ≡ part_log p
unfolding log_of
log-one p = append-nil (part_log p)

-- some parts and then others begin with no name set
unset-both : (p q : List Part) → AllUnset (p ++ q) → AllUnset p × AllUnset q
unfolding AllUnset
unset-both [] q u = (tt, u)
unset-both (a ∷ p) q u = let r = unset-both p q u.1 in ((u.0, r.0), r.1)

-- what is handed over after words are written, or 6
pub outcome-wrote : (w buffer : List ℕ) → outcome (wrote w buffer) ≡ cond (leb (length w) (length buffer)) (gives w) (refused 6)
unfolding wrote
outcome-wrote w buffer =
    by-test (leb (length w) (length buffer))
    (λ e. simp e (ap gives (take-append_seam w (drop (length w) buffer))))
    (λ e. simp e)

-- a log's summary written, or 6
pub outcome-summary : (t buffer : List ℕ) → outcome (wrote (summary_of t) buffer) ≡ cond (room_for t buffer) (gives (summary_of t)) (refused 6)
outcome-summary t buffer =
    outcome-wrote (summary_of t) buffer
    ∙ ap (λ (n : ℕ). cond (leb n (length buffer)) (gives (summary_of t)) (refused 6)) (length-summary t)

-- the summary of a session that stands for a log
pub session-outcome : (s : Session) (t buffer : List ℕ) → Stands s t → outcome (summary_call s buffer) ≡ cond (room_for t buffer) (gives (summary_of t)) (refused 6)
session-outcome s t buffer g = ap outcome (summary-trace s t buffer g) ∙ outcome-summary t buffer

-- a grouping hands over its log's summary; a call of it is refused with 6 alone
pub grouping-outcome : (g : Grouping) → AllUnset (parts g) → Within (log_of (parts g)) → grouped g ≡ cond (roomy g) (gives (summary_of (log_of (parts g)))) (refused 6)
unfolding grouped parts roomy AllUnset
grouping-outcome (part p buffer) u w =
    session-outcome (state_after (begun p.names) p.calls).session (part_log p) buffer (run-reads p.names u.0 p.calls).stands
    ∙ rw (log-one p)
grouping-outcome (joined g h buffer) u w =
    by (roomy g) (roomy h) (grouping-outcome g each.0 front) (grouping-outcome h each.1 back)
  where
    -- the parts of each begin with no name set
    each : AllUnset (parts g) × AllUnset (parts h)
    each = unset-both (parts g) (parts h) u

    -- the two logs end to end
    ends : log_of (parts g ++ parts h) ≡ log_of (parts g) ++ log_of (parts h)
    ends = log-append (parts g) (parts h)

    -- they are within the limits
    both : Within (log_of (parts g) ++ log_of (parts h))
    both = rw ends at w

    -- so is the first
    front : Within (log_of (parts g))
    front = within-front (log_of (parts g)) (log_of (parts h)) both

    -- and the second
    back : Within (log_of (parts h))
    back = within-back (log_of (parts g)) (log_of (parts h)) both

    -- by the room of each
    by : (b c : Bool)
        → grouped g ≡ cond b (gives (summary_of (log_of (parts g)))) (refused 6)
        → grouped h ≡ cond c (gives (summary_of (log_of (parts h)))) (refused 6)
        → joined_with (grouped g) (grouped h) buffer
        ≡ cond (b && c && room_for (log_of (parts g ++ parts h)) buffer) (gives (summary_of (log_of (parts g ++ parts h)))) (refused 6)
    by true true e f =
        rw (e, f, ends)
        (ap outcome (join-trace (log_of (parts g)) (log_of (parts h)) buffer both) ∙ outcome-summary (log_of (parts g) ++ log_of (parts h)) buffer)
    by true false e f = rw (e, f)
    by false true e f = rw e
    by false false e f = rw e

-- every grouping of every cutting of t
pub groupings : (t : List ℕ) → Within t → (g : Grouping) → AllUnset (parts g) → log_of (parts g) ≡ t → grouped g ≡ cond (roomy g) (gives (summary_of t)) (refused 6)
groupings t w g u e = rw e at (grouping-outcome g u (rw e w))
