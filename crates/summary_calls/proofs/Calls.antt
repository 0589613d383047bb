-- The calls' definitions, case by case.
use Rattle.std.specs.Prelude.{Ok}
use Rattle.reuse.specs.declared.refusals.Refusal.TheVariants.{NotASummary, NoRoom, TooManyReads, TooManyExtents}
use mathlib.Core.Path.{◌≡◌, ap}
use Prim.Native.Nat.{ℕ, ◌+◌, ◌≤◌, ◌<◌}
use native.Mathlib.Omega.{arith}
use mathlib.Core.List.{List, ◌++◌}
use mathlib.Core.Bool.{true, false}
use lib.ListN.{length, drop, get_or}
use borrow.Author.Tests.{le-leb, lt-leb}
use Rattle.reuse.specs.Limits.{max_reads, max_extents}
use Rattle.reuse.specs.Lists.{firsts}
use Rattle.reuse.specs.Summary.{summary_of, well_formed, reads_of, joined_first, join_of}
use Rattle.summary_calls.specs.Calls.{wrote, join_call, trace_call, refused}
use Rattle.reuse_rows.specs.Rows.{put_at}

-- words for which there is no room
pub wrote-short : (w out : List ℕ) → length out < length w → wrote w out ≡ refused NoRoom out
unfolding wrote
wrote-short w out l = simp (lt-leb (length w) (length out) l)

-- n words that are written
pub wrote-all : (w out : List ℕ) (n : ℕ) → length w ≡ n → n ≤ length out → wrote w out ≡ record { answer = Ok n; buffer = put_at out 0 w }
unfolding wrote put_at
wrote-all w out n e l =
    let z : 0 + length w ≡ length w = omega arith in
    rw z (simp (le-leb (length w) (length out) (omega arith))
    (ap (λ (k : ℕ). record { answer = Ok k; buffer = w ++ drop (length w) out }) e))

module _ (a b out : List ℕ) where
  -- A is not well formed
  pub refused-left : well_formed a ≡ false → join_call a b out ≡ refused NotASummary out
  unfolding join_call
  refused-left e = simp e

  module _ (ha : well_formed a ≡ true) where
    -- B is not
    pub refused-right : well_formed b ≡ false → join_call a b out ≡ refused NotASummary out
    unfolding join_call
    refused-right e = simp (ha, e)

    module _ (hb : well_formed b ≡ true) where
      -- too many reads
      pub refused-reads : max_reads < get_or a 0 0 + get_or b 0 0 → join_call a b out ≡ refused TooManyReads out
      unfolding join_call reads_of
      refused-reads l = simp (ha, hb, lt-leb (get_or a 0 0 + get_or b 0 0) max_reads l)

      module _ (hl : get_or a 0 0 + get_or b 0 0 ≤ max_reads) where
        -- too many extents
        pub refused-extents : max_extents < length (joined_first a b) → join_call a b out ≡ refused TooManyExtents out
        unfolding join_call reads_of
        refused-extents l = simp (ha, hb, le-leb (get_or a 0 0 + get_or b 0 0) max_reads hl, lt-leb (length (joined_first a b)) max_extents l)

        module _ (hv : length (joined_first a b) ≤ max_extents) where
          -- past the tests of the two summaries
          pub join-wrote : join_call a b out ≡ wrote (join_of a b) out
          unfolding join_call reads_of
          join-wrote = simp (ha, hb, le-leb (get_or a 0 0 + get_or b 0 0) max_reads hl, le-leb (length (joined_first a b)) max_extents hv)

module _ (t out : List ℕ) where
  -- too many reads of a trace
  pub trace-refused-reads : max_reads < length t → trace_call t out ≡ refused TooManyReads out
  unfolding trace_call
  trace-refused-reads l = simp (lt-leb (length t) max_reads l)

  module _ (hl : length t ≤ max_reads) where
    -- too many extents
    pub trace-refused-extents : max_extents < length (firsts t) → trace_call t out ≡ refused TooManyExtents out
    unfolding trace_call
    trace-refused-extents l = simp (le-leb (length t) max_reads hl, lt-leb (length (firsts t)) max_extents l)

    module _ (hv : length (firsts t) ≤ max_extents) where
      -- past the tests of the trace
      pub trace-wrote : trace_call t out ≡ wrote (summary_of t) out
      unfolding trace_call
      trace-wrote = simp (le-leb (length t) max_reads hl, le-leb (length (firsts t)) max_extents hv)
