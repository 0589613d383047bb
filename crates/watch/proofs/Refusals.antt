-- A refusal leaves the watch as it was.
use Rattle.reuse.specs.declared.refusals.Refusal.{Refusal}
use Rattle.std.specs.Prelude.{Result, Ok, Err}
use mathlib.Core.Path.{◌≡◌, refl}
use Prim.Native.Nat.{ℕ}
use mathlib.Core.Bool.{Bool, true, false, cond}
use lib.Dec.{eqb, leb}
use Rattle.reuse.specs.Limits.{max_reads}
use Rattle.reuse.proofs.Lists.{by-test}
use Rattle.watch.specs.declared.Watch.{Watch}
use Rattle.watch.specs.declared.Reading.{Reading}
use Rattle.watch.specs.declared.Reading.TheVariants.{Cold, Distance}
use Rattle.watch.specs.Watching.{sound_of, counted_by, takes, counts, noted_of}

-- a read more changes the watch only where it is counted
counted-only : (v : Watch) (c h : ℕ) (n : Refusal) → (counted_by v c h).outcome ≡ Err n → (counted_by v c h).watch ≡ v
unfolding counted_by
counted-only v c h n e = by (eqb v.reads max_reads) refl
  where
    -- by whether there is a read to spare
    by : (b : Bool) → eqb v.reads max_reads ≡ b → (counted_by v c h).watch ≡ v
    by true f = simp f
    by false f = let z : ◌≡◌ {A = Result Unit Refusal} (Ok tt) (Err n) = simp f at e in absurd (cc)

-- so does a reading that the watch takes
counts-only : (v : Watch) (q : Reading) (n : Refusal) → (counts v q).outcome ≡ Err n → (counts v q).watch ≡ v
counts-only v Cold n e = counted-only v 1 0 n e
counts-only v (Distance d) n e = counted-only v 0 (cond (leb d v.size) 1 0) n e

-- and every update
pub unchanged : (v : Watch) (q : Reading) (n : Refusal) → (noted_of v q).outcome ≡ Err n → (noted_of v q).watch ≡ v
unfolding noted_of
unchanged v q n e =
    by-test (sound_of v)
    (λ s. by-test (takes q) (λ t. simp (s, t) (counts-only v q n (simp (s, t) at e))) (λ t. simp (s, t)))
    (λ s. simp s)
