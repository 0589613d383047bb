-- A row when a part of it that goes to its end was lent and is back.
use mathlib.Core.Path.{◌≡◌, sym, ap, ◌∙◌}
use Prim.Native.Nat.{ℕ, ◌+◌, ◌-◌, ◌≤◌}
use native.Mathlib.Omega.{arith}
use mathlib.Core.List.{List, ◌++◌, append-nil}
use lib.ListN.{length, take, drop, length-append, length-drop, drop_of_length-le}
use lib.Seq.{length-take-le, take-take, drop_at, drop-drop}
use borrow.Rule.Slice.PartMut.{mid_of, put_mid, take_put}
use Rattle.reuse_rows.proofs.Slices.{part-rest}

module _ (a : ℕ) (w y : List ℕ) (fits : a ≤ length w) (same : length y ≡ length w - a) where
  -- the row is what stood before that part, and the part
  pub back_is : put_mid a (length w - a) w y ≡ take a w ++ y
  back_is =
      ap (λ (v : List ℕ). take a w ++ v)
      (ap (λ (v : List ℕ). y ++ v) (drop_of_length-le (drop a w) {i = length w - a} (omega (arith, length-drop a w))) ∙ append-nil y)

  -- what stands before that part when it is back
  pub back-before : (n : ℕ) → n ≤ a → take n (put_mid a (length w - a) w y) ≡ take n w
  back-before n h =
      sym (take-take n a (put_mid a (length w - a) w y) h) ∙ ap (take n) (take_put a (length w - a) w y fits) ∙ take-take n a w h

  -- the part itself
  pub back-rest : drop a (put_mid a (length w - a) w y) ≡ y
  back-rest = ap (drop a) back_is ∙ drop_at (take a w) y a (length-take-le a w fits)

  -- as many words as before
  pub back-length : length (put_mid a (length w - a) w y) ≡ length w
  back-length = ap length back_is ∙ length-append (take a w) y ∙ omega (arith, length-take-le a w fits)

  -- words kept behind it are kept
  pub back-kept : (n : ℕ) → drop n y ≡ drop n (mid_of a (length w - a) w) → drop (a + n) (put_mid a (length w - a) w y) ≡ drop (a + n) w
  back-kept n e =
      sym (drop-drop n a (put_mid a (length w - a) w y)) ∙ ap (drop n) back-rest ∙ e ∙ ap (drop n) (part-rest w a) ∙ drop-drop n a w
