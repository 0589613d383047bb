-- The difference of two natural numbers as a signed number.
use mathlib.Core.Path.{◌≡◌, refl, sym, ap, ◌∙◌}
use Prim.Native.Nat.{ℕ, zero, suc, ◌+◌, ◌-◌, ◌≤◌, ◌<◌}
use native.Mathlib.Omega.{arith}
use lib.Dec.{ltb, le→leb}
use lib.IntN.{pos, negsuc, neg_ℤ, ◌-ℤ◌, sub_ℕ}
use lib.Signed.{mag, ◌≤ℤ◌}
use borrow.Author.Tests.{ltb-true, ltb-false, lt-ltb, le-ltb}
use Rattle.reuse.proofs.Lists.{by-test}

-- by the smaller of the two
gap_by : (a b : ℕ) → pos a -ℤ pos b ≡ sub_ℕ a b
gap_by a zero = rw (le-ltb a 0 (omega arith)) (ap pos (omega arith))
gap_by a (suc b) = refl

-- where the first is no smaller
gap_up : (a b : ℕ) → b ≤ a → pos a -ℤ pos b ≡ pos (a - b)
gap_up a b h = gap_by a b ∙ rw (le-ltb a b h)

-- where it is
pub gap_down : (a b : ℕ) → a < b → pos a -ℤ pos b ≡ negsuc (b - suc a)
gap_down a b h = gap_by a b ∙ rw (lt-ltb a b h)

-- a difference upwards
pub gap_is : (a b n : ℕ) → a ≡ b + n → pos a -ℤ pos b ≡ pos n
gap_is a b n e = gap_up a b (omega arith) ∙ ap pos (omega arith)

-- what stands on both sides goes
pub gap_same : (k a b : ℕ) → pos (k + a) -ℤ pos (k + b) ≡ pos a -ℤ pos b
gap_same k a b =
    by-test (ltb a b)
    (λ e. let h : a < b = ltb-true a b e in
    gap_down (k + a) (k + b) (omega arith) ∙ ap negsuc (omega arith) ∙ sym (gap_down a b h))
    (λ e. let h : b ≤ a = ltb-false a b e in
    gap_up (k + a) (k + b) (omega arith) ∙ ap pos (omega arith) ∙ sym (gap_up a b h))

-- a difference of at least −1
pub gap-least : (a b : ℕ) → b ≤ a + 1 → neg_ℤ (pos 1) ≤ℤ (pos a -ℤ pos b)
gap-least a b h =
    by-test (ltb a b)
    (λ e. rw (gap_down a b (ltb-true a b e)) (record { le = le→leb (b - suc a) 0 (omega arith) }))
    (λ e. rw (gap_up a b (ltb-false a b e)) (record { le = tt }))

-- a difference of at most n
pub gap-most : (a b n : ℕ) → a ≤ b + n → (pos a -ℤ pos b) ≤ℤ pos n
gap-most a b n h =
    by-test (ltb a b)
    (λ e. rw (gap_down a b (ltb-true a b e)) (record { le = tt }))
    (λ e. rw (gap_up a b (ltb-false a b e)) (record { le = le→leb (a - b) n (omega arith) }))

-- a difference of numbers below n is in the signed range of 2 n numbers
pub gap-fits : (a b n : ℕ) → a < n → b < n → mag (pos a -ℤ pos b) < n
gap-fits a b n h k =
    by-test (ltb a b)
    (λ e. rw (gap_down a b (ltb-true a b e)) (omega arith))
    (λ e. rw (gap_up a b (ltb-false a b e)) (omega arith))

-- a difference of at least 0
pub gap-from-zero : (a b : ℕ) → b ≤ a → pos 0 ≤ℤ (pos a -ℤ pos b)
gap-from-zero a b h = rw (gap_up a b h) (record { le = le→leb 0 (a - b) (omega arith) })
