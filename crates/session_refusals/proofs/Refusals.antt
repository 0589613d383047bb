-- The ways of a refusal: what each test of it says.
use Rattle.reuse.specs.declared.refusals.Refusal.TheVariants.{Unsound, TooManyReads, TooManyExtents}
use Rattle.std.specs.Prelude.{Some, None}
use Prim.Native.Nat.{ℕ, ◌≤◌}
use mathlib.Core.Path.{◌≡◌, sym, ap, ◌∙◌}
use mathlib.Core.List.{List}
use mathlib.Core.Bool.{true, false}
use native.Mathlib.Omega.{arith}
use lib.ListN.{length}
use lib.Seq.{take_all}
use borrow.Author.Tests.{eq-eqb, ne_eqb}
use Rattle.reuse.specs.Limits.{max_reads, max_extents, levels}
use Rattle.session_rights.specs.Rights.{marks_from}
use Rattle.reuse.specs.Lists.{mem}
use Rattle.session_soundness.specs.Soundness.{extents_in, stack_in, intact_rows}
use Rattle.session_refusals.specs.Refusals.{overfull, refusal_of}
use Rattle.reuse.proofs.Lists.{by-test}
use Rattle.session_soundness.proofs.Sound.{Intact, true-intact, kept-listed}

module _ (reads : ℕ) (first hist slots : List ℕ) (count : ℕ) (rights : List ℕ) (next : ℕ) where
  -- the marks worked out
  abbrev marks : List ℕ
  marks = marks_from levels count rights

  -- fields that are not
  pub refusal-unsound : (x : ℕ) → intact_rows reads first hist slots count rights next ≡ false → refusal_of reads first hist slots count rights next x ≡ Some Unsound
  unfolding refusal_of
  refusal-unsound x e = rw e

  module _ (ok : intact_rows reads first hist slots count rights next ≡ true) (x : ℕ) where
    -- what the test says
    facts : Intact reads first hist slots count rights next
    facts = true-intact reads first hist slots count rights next ok

    -- where there are as many extents as the limit, F is all of its row, and has the extents of the stack
    listed : count ≡ max_extents → mem x first ≡ mem x (stack_in slots marks)
    listed v =
        let all : length first ≤ extents_in marks = omega (arith, facts.wide.first-wide, facts.given.counted) in
        sym (ap (mem x) (take_all (extents_in marks) first all)) ∙ kept-listed reads first hist slots marks next facts.sound.rows x

    -- a read too many
    pub refusal-reads : reads ≡ max_reads → refusal_of reads first hist slots count rights next x ≡ Some TooManyReads
    unfolding refusal_of
    refusal-reads e = rw (ok, eq-eqb reads max_reads e)

    module _ (n : reads ≡ max_reads → ⊥) where
      -- an extent too many
      pub refusal-extents : count ≡ max_extents → mem x first ≡ false → refusal_of reads first hist slots count rights next x ≡ Some TooManyExtents
      unfolding refusal_of overfull
      refusal-extents v f =
          rw (
            ok,
            ne_eqb reads max_reads n,
            sym (listed v) ∙ f,
            eq-eqb (extents_in marks) max_extents (facts.given.counted ∙ v),
          )

      -- an extent that is known
      pub refusal-known : count ≡ max_extents → mem x first ≡ true → refusal_of reads first hist slots count rights next x ≡ None
      unfolding refusal_of overfull
      refusal-known v t = rw (ok, ne_eqb reads max_reads n, sym (listed v) ∙ t)

      -- fewer extents than the limit
      pub refusal-few : (count ≡ max_extents → ⊥) → refusal_of reads first hist slots count rights next x ≡ None
      unfolding refusal_of overfull
      refusal-few v =
          by-test (mem x (stack_in slots marks)) (λ t. rw (ok, ne_eqb reads max_reads n, t))
          (λ f. rw (ok, ne_eqb reads max_reads n, f, ne_eqb (extents_in marks) max_extents (λ e. v (sym facts.given.counted ∙ e))))
