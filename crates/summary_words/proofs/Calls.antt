-- The call's definition, case by case.
use Rattle.std.specs.Prelude.{Ok}
use Rattle.reuse.specs.declared.refusals.Refusal.TheVariants.{NoRoom, TooManyExtents}
use mathlib.Core.Path.{◌≡◌, ◌∙◌}
use Prim.Native.Nat.{ℕ, ◌+◌, ◌≤◌, ◌<◌}
use native.Mathlib.Omega.{arith}
use mathlib.Core.List.{List}
use lib.ListN.{length, length-append}
use borrow.Author.Tests.{le-leb, lt-leb}
use Rattle.reuse.specs.Limits.{max_extents}
use Rattle.reuse.specs.Summary.{words}
use Rattle.reuse_rows.specs.Rows.{put_at}
use Rattle.summary_calls.specs.Calls.{wrote, refused, words_call}
use Rattle.summary_calls.proofs.Calls.{wrote-short, wrote-all}

-- two words and three parts
parts-length : (l : ℕ) (f r h : List ℕ) → length (words l f r h) ≡ 2 + length f + length r + length h
unfolding words
parts-length l f r h = simp length-append (omega arith)

module _ (l : ℕ) (f r h out : List ℕ) where
  -- more extents than the limit
  pub words-many : max_extents < length f → words_call l f r h out ≡ refused TooManyExtents out
  unfolding words_call
  words-many k = simp (lt-leb (length f) max_extents k)

  module _ (few : length f ≤ max_extents) where
    -- past that test
    written : words_call l f r h out ≡ wrote (words l f r h) out
    unfolding words_call
    written = simp (le-leb (length f) max_extents few)

    -- too few words for the answer
    pub words-short : length out < 2 + length f + length r + length h → words_call l f r h out ≡ refused NoRoom out
    words-short k = written ∙ wrote-short (words l f r h) out (omega (arith, parts-length l f r h))

    -- all are written
    pub words-all : 2 + length f + length r + length h ≤ length out
        → words_call l f r h out ≡ record { answer = Ok (2 + length f + length r + length h); buffer = put_at out 0 (words l f r h) }
    words-all k = written ∙ wrote-all (words l f r h) out (2 + length f + length r + length h) (parts-length l f r h) k
