-- A number by three tests, each looked at after those before it: the first that fails gives its own, as refusals are given in order.
use mathlib.Core.Path.{◌≡◌, refl, sym}
use mathlib.Core.Logic.{◌↔◌}
use Prim.Native.Nat.{ℕ}
use mathlib.Core.Bool.{Bool, true, false, cond, true≢false, false≢true}

-- the numbers a, b and c of the tests, all different, and n where none fails
module _ (a b c : ℕ) (ab : a ≡ b → ⊥) (ac : a ≡ c → ⊥) (bc : b ≡ c → ⊥) (n : ℕ) where
  abbrev pub number_by : Bool → Bool → Bool → ℕ
  number_by p q r = cond p (cond q (cond r n c) b) a

  -- the first test's number, exactly if it fails
  pub exactly-first : (n ≡ a → ⊥) → (p q r : Bool) → number_by p q r ≡ a ↔ p ≡ false
  exactly-first h true true true = (λ e. absurd (h e), λ e. absurd (true≢false e))
  exactly-first h true true false = (λ e. absurd (ac (sym e)), λ e. absurd (true≢false e))
  exactly-first h true false r = (λ e. absurd (ab (sym e)), λ e. absurd (true≢false e))
  exactly-first h false q r = (λ e. refl, λ e. refl)

  -- the second's, exactly if the first holds and it fails
  pub exactly-second : (n ≡ b → ⊥) → (p q r : Bool) → number_by p q r ≡ b ↔ ((p ≡ true) × (q ≡ false))
  exactly-second h true true true = (λ e. absurd (h e), λ e. absurd (true≢false e.1))
  exactly-second h true true false = (λ e. absurd (bc (sym e)), λ e. absurd (true≢false e.1))
  exactly-second h true false r = (λ e. (refl, refl), λ e. refl)
  exactly-second h false q r = (λ e. absurd (ab e), λ e. absurd (false≢true e.0))

  -- the third's, exactly if the others hold and it fails
  pub exactly-third : (n ≡ c → ⊥) → (p q r : Bool) → number_by p q r ≡ c ↔ ((p ≡ true) × (q ≡ true) × (r ≡ false))
  exactly-third h true true true = (λ e. absurd (h e), λ e. absurd (true≢false e.2))
  exactly-third h true true false = (λ e. (refl, refl, refl), λ e. refl)
  exactly-third h true false r = (λ e. absurd (bc e), λ e. absurd (false≢true e.1))
  exactly-third h false q r = (λ e. absurd (ac e), λ e. absurd (false≢true e.0))

  -- any other number is n, where all tests hold
  pub exactly-rest : (m : ℕ) → (a ≡ m → ⊥) → (b ≡ m → ⊥) → (c ≡ m → ⊥) → (p q r : Bool)
      → number_by p q r ≡ m ↔ ((p ≡ true) × (q ≡ true) × (r ≡ true) × (n ≡ m))
  exactly-rest m x y z true true true = (λ e. (refl, refl, refl, e), λ e. e.3)
  exactly-rest m x y z true true false = (λ e. absurd (z e), λ e. absurd (false≢true e.2))
  exactly-rest m x y z true false r = (λ e. absurd (y e), λ e. absurd (false≢true e.1))
  exactly-rest m x y z false q r = (λ e. absurd (x e), λ e. absurd (false≢true e.0))
