-- The answers of the call on one more read, by what is tested.
use Rattle.std.specs.Prelude.{Ok, Err}
use Rattle.reuse.specs.declared.refusals.Refusal.TheVariants.{OutOfRange, TooManyReads, TooManyExtents}
use mathlib.Core.Path.{◌≡◌}
use Prim.Native.Nat.{ℕ, ◌≤◌, ◌<◌}
use native.Mathlib.Omega.{arith}
use mathlib.Core.List.{List}
use lib.ListN.{length}
use borrow.Author.Tests.{le-leb, lt-leb}
use Rattle.reuse.specs.Limits.{max_reads, max_extents}
use Rattle.reuse.specs.Lists.{firsts}
use Rattle.reuse.specs.Traces.{Within}
use Rattle.insertion_calls.specs.Insertion.{put, change_of}
use Rattle.insertion_calls.specs.Calls.{insertion_call}
use Rattle.insertion_calls.proofs.Puts.{length-put}

module _ (log : List ℕ) (place x c : ℕ) where
  -- a place past the end
  pub call-past : length log < place → insertion_call log place x c ≡ Err OutOfRange
  unfolding insertion_call
  call-past l = rw (lt-leb place (length log) l)

  -- a place in the log
  module _ (l : place ≤ length log) where
    -- as many reads as the limit before the read is put in
    pub call-reads : max_reads ≤ length log → insertion_call log place x c ≡ Err TooManyReads
    unfolding insertion_call
    call-reads m = rw (le-leb place (length log) l, lt-leb (length (put place x log)) max_reads (omega (arith, length-put place x log)))

    -- fewer, and extents over the limit
    pub call-extents : length log < max_reads → max_extents < length (firsts (put place x log)) → insertion_call log place x c ≡ Err TooManyExtents
    unfolding insertion_call
    call-extents s m =
        rw (
          le-leb place (length log) l,
          le-leb (length (put place x log)) max_reads (omega (arith, length-put place x log)),
          lt-leb (length (firsts (put place x log))) max_extents m,
        )

    -- the longer log is within the limits
    pub call-change : Within (put place x log) → insertion_call log place x c ≡ Ok (change_of c place x log)
    unfolding insertion_call
    call-change w =
        rw (
          le-leb place (length log) l,
          le-leb (length (put place x log)) max_reads w.reads,
          le-leb (length (firsts (put place x log))) max_extents w.extents,
        )
