-- The trace with one more read: its reads and its extents.
use mathlib.Core.Path.{◌≡◌, sym, ap, ◌∙◌}
use Prim.Native.Nat.{ℕ, suc, ◌+◌}
use native.Mathlib.Omega.{arith}
use mathlib.Core.List.{List, [], ◌∷◌, ◌++◌}
use mathlib.Core.Bool.{cond, ◌||◌, or-true, or-false}
use lib.Dec.{eqb}
use lib.ListN.{length, take, drop, take-append-drop, length-append, length-take, length-drop}
use Rattle.reuse.specs.Lists.{mem, firsts}
use Rattle.reuse.specs.Traces.{Within}
use Rattle.reuse.proofs.Lists.{by-test, mem-append, mem-firsts, firsts-known, firsts-new}
use Rattle.reuse.proofs.Distinct.{distinct-firsts}
use Rattle.reuse.proofs.Sizes.{same_size}
use Rattle.insertion_calls.specs.Insertion.{put}

-- the members of a trace are those of its two parts, wherever it is cut
pub mem-cut : (z k : ℕ) (t : List ℕ) → (mem z (take k t) || mem z (drop k t)) ≡ mem z t
mem-cut z k t = sym (mem-append z (take k t) (drop k t)) ∙ ap (mem z) (take-append-drop k t)

-- a read of x put in at a place
module _ (p x : ℕ) (t : List ℕ) where
  -- one read more
  pub length-put : length (put p x t) ≡ suc (length t)
  unfolding put
  length-put = simp (length-append, length-take, length-drop) (omega arith)

  -- the extents of the trace, and x
  pub mem-put : (z : ℕ) → mem z (put p x t) ≡ mem z (t ++ (x ∷ []))
  unfolding put mem
  mem-put z = simp mem-append (by-test (eqb z x) (λ e. simp (e, or-true)) (λ e. simp (e, or-false, mem-cut)))

  -- one extent more, unless x is one of the trace's
  pub extents-put : length (firsts (put p x t)) ≡ cond (mem x t) 0 1 + length (firsts t)
  extents-put =
      same_size (firsts (put p x t)) (firsts (t ++ (x ∷ []))) (distinct-firsts (put p x t)) (distinct-firsts (t ++ (x ∷ [])))
      (λ z. simp mem-firsts (mem-put z))
      ∙ by-test (mem x t) (λ m. simp (m, firsts-known) (omega arith)) (λ m. simp (m, firsts-new, length-append) (omega arith))

  -- a trace whose longer one is within the limits is so itself
  pub within-put : Within (put p x t) → Within t
  within-put w = record { reads = omega (arith, w.reads, length-put); extents = omega (arith, w.extents, extents-put) }
