-- Hit shares: of hits by reads, and of a summary's words.
use Rattle.reuse.specs.declared.refusals.Refusal.TheVariants.{NotASummary}
use Rattle.summary_calls.specs.declared.HitShare.{HitShare}
use Rattle.std.specs.Prelude.{Result, Ok, Err}
use Rattle.reuse.specs.declared.refusals.Refusal.{Refusal}
use mathlib.Core.Path.{◌≡◌, refl, ap, ◌∙◌}
use Prim.Native.Nat.{ℕ, ◌-◌, ◌≤◌, ◌<◌}
use native.Mathlib.Omega.{arith}
use native.Mathlib.Nat.{pos_of_ne-zero}
use mathlib.Core.List.{List}
use mathlib.Core.Bool.{Bool, true, false, cond}
use lib.Dec.{eqb, ltb}
use lib.Ieee.{Float, binary64, round, le, lt, eq}
use lib.Ieee.Bits.{is_true}
use lib.Ieee.Order.{round_mono}
use lib.Ieee.Scale.{round_same}
use borrow.Author.Tests.{eq-eqb, eqb-true, eqb-false, ltb-true, ltb-false}
use Rattle.reuse.specs.Limits.{max_reads}
use Rattle.reuse.specs.Summary.{extents_of, well_formed, hits_of, servable_of}
use Rattle.reuse.proofs.Lists.{by-test, clash}
use Rattle.reuse.proofs.Formed.{formed}
use Rattle.reuse.proofs.Servable.{hits-servable, all-servable}
use Rattle.summary_calls.specs.declared.HitShare.TheVariants.{Share, NoReads}
use Rattle.summary_calls.specs.Calls.{share_of, share_at, share_call}
use Rattle.summary_calls.specs.HitShares.{nought, one, NoneOf, Between, Full}

-- 0 by 1 and 1 by 1, rounded
rounded-nought : round binary64 false 0 1 ≡ nought
unfolding round
rounded-nought = refl

rounded-one : round binary64 false 1 1 ≡ one
unfolding round
rounded-one = refl

-- all reads of the longest log but one, by all of them, rounded: below 1
rounded-below : le one (round binary64 false (max_reads - 1) max_reads) ≡ false
unfolding round le lt eq
rounded-below = refl

module _ (h n : ℕ) where
  -- a number answered is the rounded quotient, by a number above 0
  quotient-of : (x : Float) → ◌≡◌ {A = Result HitShare Refusal} (Ok (share_of h n)) (Ok (Share x)) → (0 < n) × (x ≡ round binary64 false h n)
  unfolding share_of
  quotient-of x e =
      by-test (eqb n 0)
      (λ z. let q : ◌≡◌ {A = Result HitShare Refusal} (Ok NoReads) (Ok (Share x)) = simp z at e in clash {b = true} refl cc)
      (λ z. let q : ◌≡◌ {A = Result HitShare Refusal} (Ok (Share (round binary64 false h n))) (Ok (Share x)) = simp z at e in
      (pos_of_ne-zero (eqb-false n 0 z), cc))

  -- 'no reads' exactly for no reads
  pub share-none : NoneOf n (Ok (share_of h n))
  unfolding share_of
  share-none = (
    λ z. simp (eq-eqb n 0 z),
    λ e. by-test (eqb n 0) (λ z. eqb-true n 0 z)
        (λ z. let q : ◌≡◌ {A = Result HitShare Refusal} (Ok (Share (round binary64 false h n))) (Ok NoReads) = simp z at e in clash {b = true} refl cc),
  )

  -- of no more hits than reads: between 0 and 1
  pub share-between : h ≤ n → Between (Ok (share_of h n))
  share-between l x e =
      let q = quotient-of x e in
      let low : le (round binary64 false 0 1) (round binary64 false h n) ≡ true = is_true _ (round_mono binary64 0 1 h n (omega arith) q.0 (omega arith)) in
      let high : le (round binary64 false h n) (round binary64 false 1 1) ≡ true = is_true _ (round_mono binary64 h n 1 1 q.0 (omega arith) (omega arith)) in
      rw q.1 (rw rounded-nought at low, rw rounded-one at high)

  -- of as many hits as reads: exactly 1
  pub share-full : h ≡ n → Full (Ok (share_of h n))
  share-full k x e =
      let q = quotient-of x e in
      q.1 ∙ round_same binary64 false h n 1 1 q.0 (omega arith) (omega arith) ∙ rounded-one

  -- of a log's reads, exactly 1 only where all are hits
  pub share-one : h ≤ n → n ≤ max_reads → ◌≡◌ {A = Result HitShare Refusal} (Ok (share_of h n)) (Ok (Share one)) → h ≡ n
  share-one l m e =
      let q = quotient-of one e in
      by-test (ltb h n)
      (λ k. let high : le (round binary64 false h n) (round binary64 false (max_reads - 1) max_reads) ≡ true = is_true _ (round_mono binary64 h n (max_reads - 1) max_reads q.0 (omega arith) (omega (arith, ltb-true h n k))) in
      clash (ap (λ (x : Float). le x (round binary64 false (max_reads - 1) max_reads)) q.1 ∙ high) rounded-below)
      (λ k. omega (arith, ltb-false h n k))

-- a share is no refusal
pub given-share : (b : Bool) (a : Result HitShare Refusal) (n : Refusal) (x : Float) → cond b a (Err n) ≡ Ok (Share x) → (b ≡ true) × (a ≡ Ok (Share x))
given-share true a n x e = (refl, e)
given-share false a n x e = clash {b = true} refl cc

-- of a summary's words
module _ (w : List ℕ) (c : ℕ) where
  -- 'no reads' exactly where each read is cold
  pub words-none : well_formed w ≡ true → NoneOf (servable_of w) (share_call w c)
  unfolding share_call
  words-none ok = simp ok (share-none (hits_of w c) (servable_of w))

  -- between 0 and 1
  pub words-between : Between (share_call w c)
  unfolding share_call
  words-between x e =
      let q = given-share (well_formed w) (Ok (share_at w c)) NotASummary x e in
      share-between (hits_of w c) (servable_of w) (hits-servable w (formed w q.0) c) x q.1

  -- exactly 1 at a size of at least v
  pub words-full : extents_of w ≤ c → Full (share_call w c)
  unfolding share_call
  words-full l x e =
      let q = given-share (well_formed w) (Ok (share_at w c)) NotASummary x e in
      share-full (hits_of w c) (servable_of w) (all-servable w (formed w q.0) c l) x q.1
