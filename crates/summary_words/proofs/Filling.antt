-- The words of a summary, put one part after the other.
use mathlib.Core.Path.{◌≡◌, refl, ap, ◌∙◌}
use Prim.Native.Nat.{ℕ, ◌+◌, ◌≤◌}
use native.Mathlib.Omega.{arith}
use mathlib.Core.List.{List, [], ◌∷◌, ◌++◌, append_assoc}
use lib.ListN.{length, set}
use Rattle.reuse.specs.Summary.{words}
use Rattle.reuse_rows.specs.Rows.{put_at, placed}
use Rattle.reuse_copies.proofs.Puts.{placed-fits}
use Rattle.reuse_copies.proofs.Filling.{Filled, fill_start, fill_step, filled-length}
use Rattle.summary_words.specs.Parts.{Writable}

-- one part more, where there is room for it
placed-next : (out l row : List ℕ) (n : ℕ) → Filled out l row n → (m row' : List ℕ) → n + length m ≤ length out → row' ≡ placed row n m
    → Filled out (l ++ m) row' (n + length m)
placed-next out l row n h m row' w e =
    fill_step out l row n h m row' (n + length m) w refl (e ∙ placed-fits row n m (omega (arith, filled-length out l row n h)))

module _ (l : ℕ) (f r h out : List ℕ) (g : Writable f r h out) (one two three : List ℕ)
    (e1 : one ≡ placed (set (set out 0 l) 1 (length f)) 2 f)
    (e2 : two ≡ placed one (2 + length f) r)
    (e3 : three ≡ placed two (2 + length f + length r) h) where
  -- all parts are put
  filled : Filled out ((((l ∷ length f ∷ []) ++ f) ++ r) ++ h) three (2 + length f + length r + length h)
  filled =
      let a : Filled out (l ∷ length f ∷ []) (set (set out 0 l) 1 (length f)) 2 = fill_start out l (length f) (omega (arith, g.room)) in
      let b : Filled out ((l ∷ length f ∷ []) ++ f) one (2 + length f) = placed-next out _ _ 2 a f one (omega (arith, g.room)) e1 in
      let c : Filled out (((l ∷ length f ∷ []) ++ f) ++ r) two (2 + length f + length r) = placed-next out _ one (2 + length f) b r two (omega (arith, g.room)) e2 in
      placed-next out _ two (2 + length f + length r) c h three g.room e3

  -- the buffer keeps its length
  pub parts-length : length three ≡ length out
  parts-length = filled-length out _ three _ filled

  -- and the parts, one after the other, are the summary's words
  pub parts-put : three ≡ put_at out 0 (words l f r h)
  unfolding words
  parts-put = filled.same ∙ ap (put_at out 0) (simp append_assoc)
