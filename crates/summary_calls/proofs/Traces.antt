-- Calls on the summaries of traces within the limits.
use Prim.Native.Nat.{ℕ, ◌+◌, ◌≤◌}
use mathlib.Core.Path.{◌≡◌}
use mathlib.Core.List.{List, ◌++◌}
use native.Mathlib.Omega.{arith}
use lib.ListN.{length, length-append}
use borrow.Author.Tests.{le-leb}
use Rattle.reuse.specs.Limits.{max_reads, max_extents}
use Rattle.reuse.specs.Summary.{summary_of, reads_of, joined_first}
use Rattle.reuse.specs.Traces.{Within}
use Rattle.reuse.proofs.Words.{reads-summary}
use Rattle.reuse.proofs.Join.{join-law, joined-first}
use Rattle.reuse.proofs.Formed.{summary-well-formed}
use Rattle.reuse.proofs.Traces.{within-front, within-back}
use Rattle.summary_calls.specs.Calls.{wrote, join_call, trace_call}
use Rattle.summary_calls.proofs.Calls.{trace-wrote}

-- the join of two logs' summaries, within the limits, is written or refused with 6
pub join-trace : (a b buffer : List ℕ) → Within (a ++ b) → join_call (summary_of a) (summary_of b) buffer ≡ wrote (summary_of (a ++ b)) buffer
unfolding join_call
join-trace a b buffer w =
    rw (
      summary-well-formed a front.reads front.extents,
      summary-well-formed b back.reads back.extents,
      le-leb (reads_of (summary_of a) + reads_of (summary_of b)) max_reads reads,
      le-leb (length (joined_first (summary_of a) (summary_of b))) max_extents extents,
      join-law a b,
    )
  where
    -- A is within the limits
    front : Within a
    front = within-front a b w

    -- so is B
    back : Within b
    back = within-back a b w

    -- no 8
    reads : reads_of (summary_of a) + reads_of (summary_of b) ≤ max_reads
    reads = omega (arith, reads-summary a, reads-summary b, length-append a b)

    -- no 9
    extents : length (joined_first (summary_of a) (summary_of b)) ≤ max_extents
    extents = rw (joined-first a b) w.extents

-- the summary of a trace within the limits is written or refused with 6
pub trace-within : (t buffer : List ℕ) → Within t → trace_call t buffer ≡ wrote (summary_of t) buffer
trace-within t buffer w = trace-wrote t buffer w.reads w.extents
