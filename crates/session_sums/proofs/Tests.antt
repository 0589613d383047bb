-- The test of two lists that are equal.
use Prim.Native.Nat.{ℕ}
use mathlib.Core.Path.{◌≡◌, refl, sym, ap, ◌∙◌}
use mathlib.Core.List.{List, [], ◌∷◌}
use mathlib.Core.Bool.{true}
use lib.Dec.{eqb}
use borrow.Author.Tests.{eqb-true}
use Rattle.session_sums.specs.Sums.{same}
use Rattle.reuse.proofs.Lists.{clash, both, eqb_same}

-- a list is the same as itself
pub same_refl : (l : List ℕ) → same l l ≡ true
unfolding same
same_refl [] = refl
same_refl (x ∷ l) = simp (eqb_same, same_refl l)

-- equal lists pass the test
pub same_of : {a b : List ℕ} → a ≡ b → same a b ≡ true
same_of {a} e = ap (same a) (sym e) ∙ same_refl a

-- only equal lists pass it
pub same-eq : (a b : List ℕ) → same a b ≡ true → a ≡ b
unfolding same
same-eq [] [] h = refl
same-eq [] (y ∷ b) h = clash h refl
same-eq (x ∷ a) [] h = clash h refl
same-eq (x ∷ a) (y ∷ b) h =
    let p = both (eqb x y) (same a b) h in
    let e : x ≡ y = eqb-true x y p.0 in
    let q : a ≡ b = same-eq a b p.1 in
    cc
