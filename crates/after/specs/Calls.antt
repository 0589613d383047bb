-- What the call on a part after a prefix answers, and what it leaves in the buffer lent to it.
use Rattle.std.specs.Prelude.{ℕ, ◌+◌, List, ◌++◌, map, cond, leb, length}
use Rattle.reuse.specs.declared.refusals.Refusal.TheVariants.{NotASummary, TooManyReads, TooManyExtents}
use Rattle.reuse.specs.Limits.{max_reads, max_extents}
use Rattle.reuse.specs.Lists.{firsts}
use Rattle.reuse.specs.Lru.{reuses}
use Rattle.reuse.specs.Written.{word_of}
use Rattle.reuse.specs.Summary.{well_formed, reads_of, first_of, recent_of}
use Rattle.summary_calls.specs.Calls.{Wrote, wrote, refused}

-- the answers to the reads, a word each, with R of the prefix as their stack: 5, 8, 9, 6
unfoldable pub after_call : List ℕ → List ℕ → List ℕ → Wrote
after_call prefix reads buffer =
    cond (well_formed prefix)
    (cond (leb (reads_of prefix + length reads) max_reads)
    (cond (leb (length (firsts (first_of prefix ++ reads))) max_extents)
    (wrote (map word_of (reuses (recent_of prefix) reads)) buffer)
    (refused TooManyExtents buffer))
    (refused TooManyReads buffer))
    (refused NotASummary buffer)
