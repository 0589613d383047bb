-- What each call on a summary's words answers, and what it leaves in the buffer lent to it.
use Rattle.std.specs.Prelude.{ℕ, ◌+◌, List, ◌++◌, false, cond, eqb, leb, length, drop, Result, Ok, Err}
use Rattle.reuse.specs.declared.refusals.Refusal.{Refusal}
use Rattle.reuse.specs.declared.refusals.Refusal.TheVariants.{NotASummary, NoRoom, TooManyReads, TooManyExtents}
use Rattle.std.specs.Float.{binary64}
use Rattle.std.specs.Float.Ieee.{round}
use Rattle.reuse.specs.Limits.{max_reads, max_extents}
use Rattle.reuse.specs.Lists.{firsts}
use Rattle.reuse.specs.Summary.{words, well_formed, reads_of, hits_of, misses_of, servable_of, joined_first, join_of, summary_of}
use Rattle.summary_calls.specs.declared.HitShare.{HitShare}
use Rattle.summary_calls.specs.declared.HitShare.TheVariants.{Share, NoReads}

-- the answer of a call that writes words, and the lent buffer after it
pub record Wrote : Type 0 where
  pub answer : Result ℕ Refusal
  pub buffer : List ℕ

-- the refusal n, with the buffer as it was
abbrev pub refused : Refusal → List ℕ → Wrote
refused n buffer = record { answer = Err n; buffer = buffer }

-- these words at the front of the buffer and the rest as it was, or 6 where it is too short
unfoldable pub wrote : List ℕ → List ℕ → Wrote
wrote w buffer =
    cond (leb (length w) (length buffer))
    (record { answer = Ok (length w); buffer = w ++ drop (length w) buffer })
    (refused NoRoom buffer)

-- a summary with these reads, F, R and H: 9, 6
unfoldable pub words_call : ℕ → List ℕ → List ℕ → List ℕ → List ℕ → Wrote
words_call reads first recent counts buffer =
    cond (leb (length first) max_extents) (wrote (words reads first recent counts) buffer) (refused TooManyExtents buffer)

-- the join of A, then B: 5 for A, 5 for B, 8, 9, 6
unfoldable pub join_call : List ℕ → List ℕ → List ℕ → Wrote
join_call a b buffer =
    cond (well_formed a)
    (cond (well_formed b)
    (cond (leb (reads_of a + reads_of b) max_reads)
    (cond (leb (length (joined_first a b)) max_extents) (wrote (join_of a b) buffer) (refused TooManyExtents buffer))
    (refused TooManyReads buffer))
    (refused NotASummary buffer))
    (refused NotASummary buffer)

-- the summary of a trace: 8, 9, 6
unfoldable pub trace_call : List ℕ → List ℕ → Wrote
trace_call t buffer =
    cond (leb (length t) max_reads)
    (cond (leb (length (firsts t)) max_extents) (wrote (summary_of t) buffer) (refused TooManyExtents buffer))
    (refused TooManyReads buffer)

-- the misses at size c, or 5
unfoldable pub misses_call : List ℕ → ℕ → Result ℕ Refusal
misses_call w c = cond (well_formed w) (Ok (misses_of w c)) (Err NotASummary)

-- hits by the reads that some size could have served: 'no reads' where there are none, else the exact quotient, rounded
-- once to a binary64, to nearest, ties to even
unfoldable pub share_of : ℕ → ℕ → HitShare
share_of hits servable = cond (eqb servable 0) NoReads (Share (round binary64 false hits servable))

-- the hit share at size c of a summary's words
abbrev pub share_at : List ℕ → ℕ → HitShare
share_at w c = share_of (hits_of w c) (servable_of w)

-- the hit share at size c, or 5
unfoldable pub share_call : List ℕ → ℕ → Result HitShare Refusal
share_call w c = cond (well_formed w) (Ok (share_at w c)) (Err NotASummary)
