-- The call's definition, case by case, and the stack that the code works on.
use Rattle.std.specs.Prelude.{Ok}
use Rattle.reuse.specs.declared.refusals.Refusal.TheVariants.{NotASummary, NoRoom, TooManyReads, TooManyExtents}
use mathlib.Core.Path.{◌≡◌, ap, ◌∙◌}
use Prim.Native.Nat.{ℕ, ◌+◌, ◌-◌, ◌≤◌, ◌<◌}
use native.Mathlib.Omega.{arith}
use mathlib.Core.List.{List, ◌++◌, map}
use mathlib.Core.Bool.{false}
use lib.ListN.{length, take, drop, length-map}
use borrow.Author.Tests.{le-leb, lt-leb}
use Rattle.reuse.specs.Limits.{max_reads, max_extents}
use Rattle.reuse.specs.Lists.{firsts}
use Rattle.reuse.specs.Lru.{reuses}
use Rattle.reuse.specs.Written.{word_of}
use Rattle.reuse_rows.specs.Rows.{padded}
use Rattle.reuse.specs.Summary.{well_formed, recent_of}
use Rattle.reuse.proofs.Stack.{length-reuses}
use Rattle.reuse_copies.proofs.Padding.{padded-front, padded-length}
use Rattle.reuse.proofs.Formed.{formed, recent-distinct, prefix-stack}
use Rattle.summary_calls.specs.Calls.{wrote, refused}
use Rattle.summary_calls.proofs.Fields.{given}
use Rattle.summary_calls.proofs.Fields.{recent-few}
use Rattle.summary_formed.specs.declared.Parts.{Parts}
use Rattle.summary_formed.specs.Parting.{PartsOf}
use Rattle.summary_formed.proofs.Parting.{reads-few}
use Rattle.after.specs.Calls.{after_call}
use Rattle.after.specs.Passes.{Stacked, Traceable}

-- R of a prefix, laid into a stack
module _ (w : List ℕ) (p : Parts) (h : PartsOf w p) (stack : List ℕ) (e : stack ≡ padded p.recent.now) where
  -- R is the front of the stack
  pub front : take (length p.recent.now) stack ≡ recent_of w
  front = rw (e, h.recent) (padded-front (recent_of w) (recent-few w (given w h.formed)))

  -- the stack has room for the limit
  pub whole : length stack ≡ max_extents
  whole = rw (e, h.recent) (padded-length (recent_of w) (recent-few w (given w h.formed)))

  -- it holds no extent twice
  stacked : Stacked stack (length p.recent.now)
  stacked = record { held = omega (arith, whole, recent-few w (given w h.formed), ap length h.recent); once = rw front (recent-distinct w (formed w h.formed)) }

  -- the distances can be written where no more extents than the limit result
  pub traceable : (reads out : List ℕ) → length (firsts (p.first.now ++ reads)) ≤ max_extents → length reads ≤ length out → Traceable stack (length p.recent.now) reads out
  traceable reads out few wide = record {
    stacked = stacked;
    small = omega (arith, whole);
    room = rw (front, whole, prefix-stack w (formed w h.formed) reads, ← h.first) few;
    wide = wide;
  }

module _ (w reads out : List ℕ) where
  -- the prefix is not well formed
  pub refused-words : well_formed w ≡ false → after_call w reads out ≡ refused NotASummary out
  unfolding after_call
  refused-words e = simp e

  module _ (p : Parts) (h : PartsOf w p) where
    -- too many reads
    pub refused-reads : max_reads - p.reads < length reads → after_call w reads out ≡ refused TooManyReads out
    unfolding after_call
    refused-reads l = rw (h.formed, ← h.reads, ← h.first, lt-leb (p.reads + length reads) max_reads (omega (arith, reads-few w p h)))

    module _ (hl : length reads ≤ max_reads - p.reads) where
      -- too many extents
      pub refused-extents : max_extents < length (firsts (p.first.now ++ reads)) → after_call w reads out ≡ refused TooManyExtents out
      unfolding after_call
      refused-extents e =
          rw (h.formed, ← h.reads, ← h.first, le-leb (p.reads + length reads) max_reads (omega (arith, reads-few w p h)), lt-leb (length (firsts (p.first.now ++ reads))) max_extents e)

      module _ (he : length (firsts (p.first.now ++ reads)) ≤ max_extents) where
        -- past the tests of the prefix and the reads
        traces : after_call w reads out ≡ wrote (map word_of (reuses (recent_of w) reads)) out
        unfolding after_call
        traces =
            rw (h.formed, ← h.reads, ← h.first, le-leb (p.reads + length reads) max_reads (omega (arith, reads-few w p h)), le-leb (length (firsts (p.first.now ++ reads))) max_extents he)

        -- a word for each read
        size : length (map word_of (reuses (recent_of w) reads)) ≡ length reads
        size = simp length-map (length-reuses (recent_of w) reads)

        -- too few words for the answer
        pub refused-room : length out < length reads → after_call w reads out ≡ refused NoRoom out
        unfolding wrote
        refused-room l = traces ∙ simp (lt-leb (length (map word_of (reuses (recent_of w) reads))) (length out) (omega (arith, size)))

        -- the distances are written
        pub traced : length reads ≤ length out
            → after_call w reads out ≡ record { answer = Ok (length reads); buffer = map word_of (reuses (recent_of w) reads) ++ drop (length reads) out }
        unfolding wrote
        traced l =
            traces ∙ simp (le-leb (length (map word_of (reuses (recent_of w) reads))) (length out) (omega (arith, size)))
            (ap (λ (k : ℕ). record { answer = Ok k; buffer = map word_of (reuses (recent_of w) reads) ++ drop k out }) size)
