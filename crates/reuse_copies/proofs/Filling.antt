-- A buffer filled from the front, part by part.
use mathlib.Core.Path.{◌≡◌, refl, sym, ◌∙◌}
use Prim.Native.Nat.{ℕ, ◌+◌, ◌≤◌}
use native.Mathlib.Omega.{arith}
use mathlib.Core.List.{List, [], ◌∷◌, ◌++◌}
use lib.ListN.{length, set, length-append, length-set}
use Rattle.reuse_rows.specs.Rows.{put_at}
use Rattle.reuse_copies.proofs.Puts.{put-length, put-append, put-cons, put-none}

-- the words l stand at the front, and n is the place after them
pub record Filled (out l row : List ℕ) (n : ℕ) : Type 0 where
  pub same : row ≡ put_at out 0 l
  pub size : n ≡ length l
  pub fits : n ≤ length out

-- the buffer keeps its length
pub filled-length : (out l row : List ℕ) (n : ℕ) → Filled out l row n → length row ≡ length out
filled-length out l row n h = rw h.same (put-length out 0 l (omega (arith, h.size, h.fits)))

-- the first two words
pub fill_start : (out : List ℕ) (x y : ℕ) → 2 ≤ length out → Filled out (x ∷ y ∷ []) (set (set out 0 x) 1 y) 2
fill_start out x y l = record {
  same = sym (put-cons out 0 x (y ∷ []) (omega arith) ∙ put-cons (set out 0 x) 1 y [] (simp length-set (omega arith)) ∙ put-none (set (set out 0 x) 1 y) 2);
  size = refl;
  fits = l;
}

-- more words
pub fill_step : (out l row : List ℕ) (n : ℕ) → Filled out l row n → (m row' : List ℕ) (n' : ℕ) → n + length m ≤ length out
    → n' ≡ n + length m → row' ≡ put_at row n m → Filled out (l ++ m) row' n'
fill_step out l row n h m row' n' w e q = record {
  same =
      let z : n ≡ 0 + length l = omega (arith, h.size) in
      q ∙ rw (h.same, z) (put-append out 0 l m (omega (arith, h.size, h.fits)));
  size = rw (length-append l m) (omega (arith, h.size));
  fits = omega arith;
}
