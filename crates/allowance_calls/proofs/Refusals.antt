-- Each refusal of the call for the smallest cache is given exactly under its condition, in order.
use Rattle.std.specs.Prelude.{Ok, Err}
use Rattle.reuse.specs.declared.refusals.Refusal.TheVariants.{NotASummary, BelowCold}
use mathlib.Core.Path.{◌≡◌, refl, sym, ap, ◌∙◌}
use Prim.Native.Nat.{ℕ, ◌≤◌}
use native.Mathlib.Omega.{arith}
use mathlib.Core.List.{List}
use mathlib.Core.Bool.{Bool, true, false, cond}
use lib.Dec.{leb}
use lib.ListN.{length}
use borrow.Author.Tests.{leb-true, leb-false, lt-leb}
use Rattle.reuse.specs.Summary.{extents_of, well_formed}
use Rattle.reuse.proofs.Tests.{exactly-first, exactly-second, exactly-rest}
use Rattle.allowance_calls.specs.Smallest.{smallest}
use Rattle.allowance_calls.specs.Search.{words_searched}
use Rattle.allowance_calls.specs.Calls.{smallest_call}
use Rattle.allowance_calls.specs.Refusals.{size_refusal, Refusals}
use Rattle.allowance_calls.proofs.Smallest.{below-cold, cold-below}
use Rattle.allowance_calls.proofs.Calls.{call-size}

-- the number of a refusal by two tests; a third one never fails
number : (s n : ℕ) (p q : Bool) → size_refusal (cond p (cond q (Ok (record { size = s; words_read = n })) (Err BelowCold)) (Err NotASummary)) ≡ cond p (cond q (cond true 0 1) 12) 5
number s n true true = refl
number s n true false = refl
number s n false q = refl

module _ (w : List ℕ) (m : ℕ) where
  -- the second test: the allowance is at least the cold reads
  abbrev enough : Bool
  enough = leb (extents_of w) m

  -- the refusal's number by the two tests
  same : size_refusal (smallest_call w m) ≡ cond (well_formed w) (cond enough (cond true 0 1) 12) 5
  unfolding smallest_call
  same = number (smallest w m) (length (words_searched w m)) (well_formed w) enough

  -- a size is answered for well-formed words and such an allowance only
  size-only : (s n : ℕ) → smallest_call w m ≡ Ok (record { size = s; words_read = n }) → (well_formed w ≡ true) × (extents_of w ≤ m)
  size-only s n e =
      let rest = exactly-rest 5 12 1 (λ e. omega arith) (λ e. omega arith) (λ e. omega arith) 0 0 (λ e. omega arith) (λ e. omega arith) (λ e. omega arith) (well_formed w) enough true in
      let h = rest.0 (sym same ∙ ap size_refusal e) in
      (h.0, leb-true (extents_of w) m h.1)

  -- of every call
  pub refusals : Refusals w m
  refusals =
      let first = exactly-first 5 12 1 (λ e. omega arith) (λ e. omega arith) (λ e. omega arith) 0 (λ e. omega arith) (well_formed w) enough true in
      let second = exactly-second 5 12 1 (λ e. omega arith) (λ e. omega arith) (λ e. omega arith) 0 (λ e. omega arith) (well_formed w) enough true in
      record {
        five = rw same first;
        twelve = rw same (
          λ e. let h = second.0 e in (h.0, leb-false (extents_of w) m h.1),
          λ h. second.1 (h.0, lt-leb (extents_of w) m h.1),
        );
        none-suffices = rw same (
          λ e. let h = second.0 e in (h.0, below-cold w m (leb-false (extents_of w) m h.1)),
          λ h. second.1 (h.0, lt-leb (extents_of w) m (cold-below w m h.1)),
        );
        answered = (size-only (smallest w m) (smallest w m), λ h. call-size w m h.0 h.1);
      }
