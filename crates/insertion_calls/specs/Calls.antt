-- What the call on one more read answers.
use Rattle.std.specs.Prelude.{ℤ, ℕ, List, cond, leb, length, Result, Ok, Err}
use Rattle.reuse.specs.declared.refusals.Refusal.{Refusal}
use Rattle.reuse.specs.declared.refusals.Refusal.TheVariants.{OutOfRange, TooManyReads, TooManyExtents}
use Rattle.reuse.specs.Limits.{max_reads, max_extents}
use Rattle.reuse.specs.Lists.{firsts}
use Rattle.insertion_calls.specs.Insertion.{put, change_of}

-- the change at size c by a read of x put into the log at the place: 2 for the place, then 8 and 9 for the longer log
unfoldable pub insertion_call : List ℕ → ℕ → ℕ → ℕ → Result ℤ Refusal
insertion_call log place x c =
    cond (leb place (length log))
    (cond (leb (length (put place x log)) max_reads)
    (cond (leb (length (firsts (put place x log))) max_extents)
    (Ok (change_of c place x log))
    (Err TooManyExtents))
    (Err TooManyReads))
    (Err OutOfRange)
