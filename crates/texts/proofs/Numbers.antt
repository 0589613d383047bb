-- The digits of a number are read back as that number, and only they are.
use mathlib.Core.Path.{◌≡◌, refl, sym, ap, ◌∙◌}
use Prim.Native.Nat.{ℕ, zero, suc, ◌+◌, ◌-◌, ◌*◌, ◌/◌, ◌%◌, ◌≤◌, ◌<◌}
use native.Mathlib.Omega.{arith}
use mathlib.Core.List.{List, [], ◌∷◌, ◌++◌, append_assoc}
use mathlib.Core.Bool.{Bool, true, false, not}
use lib.Dec.{eqb, ltb, leb}
use lib.ListN.{length, length-append}
use borrow.Author.Tests.{ltb-true, ltb-false, leb-true, eqb-false, lt-ltb, le-ltb, le-leb, ne_eqb}
use Rattle.texts.specs.Digits.{decimal_by, decimal, too_long, value, bad, is_digit, may_go_on, ended, number_from, number_of}
use Rattle.reuse.proofs.Lists.{by-test, clash, both}
use Rattle.texts.proofs.Tests.{never}

-- any bound from n on gives the same digits
decimal-bound : (k j n : ℕ) → n ≤ k → n ≤ j → decimal_by k n ≡ decimal_by j n
unfolding decimal_by
decimal-bound zero zero n h g = refl
decimal-bound zero (suc j) n h g = rw (lt-ltb n 10 (omega arith))
decimal-bound (suc k) zero n h g = rw (lt-ltb n 10 (omega arith))
decimal-bound (suc k) (suc j) n h g =
    by-test (ltb n 10) (λ e. rw e) (λ e. let b : 10 ≤ n = ltb-false n 10 e in rw (e, decimal-bound k j (n / 10) (omega arith) (omega arith)))

-- a number of one digit
pub decimal-short : (n : ℕ) → n < 10 → decimal n ≡ (48 + n) ∷ []
unfolding decimal decimal_by
decimal-short zero h = refl
decimal-short (suc n) h = rw (lt-ltb (suc n) 10 (omega arith))

-- a number of more: all but the last digit, then that
pub decimal-long : (n : ℕ) → 10 ≤ n → decimal n ≡ decimal (n / 10) ++ ((48 + n % 10) ∷ [])
unfolding decimal decimal_by
decimal-long zero h = absurd (omega arith)
decimal-long (suc n) h = rw (le-ltb (suc n) 10 h, decimal-bound n (suc n / 10) (suc n / 10) (omega arith) (omega arith))

-- one digit more
decimal-more : (v e : ℕ) → 0 < v → e < 10 → decimal (v * 10 + e) ≡ decimal v ++ ((48 + e) ∷ [])
decimal-more v e h g =
    let q : (v * 10 + e) / 10 ≡ v = omega arith in
    let r : (v * 10 + e) % 10 ≡ e = omega arith in
    decimal-long (v * 10 + e) (omega arith) ∙ rw (q, r)

-- a property of one digit, and of lists end to end, is one of all digits
pub by_digits : (P : List ℕ → Type 0) → ((e : ℕ) → e < 10 → P ((48 + e) ∷ [])) → ((a b : List ℕ) → P a → P b → P (a ++ b)) → (n : ℕ) → P (decimal n)
by_digits P one two n = upto n n (omega arith)
  where
    upto : (k n : ℕ) → n ≤ k → P (decimal n)
    upto zero n h = rw (decimal-short n (omega arith)) (one n (omega arith))
    upto (suc k) n h =
        by-test (ltb n 10)
        (λ e. let s = ltb-true n 10 e in rw (decimal-short n s) (one n s))
        (λ e. let s = ltb-false n 10 e in
        rw (decimal-long n s) (two (decimal (n / 10)) ((48 + n % 10) ∷ []) (upto k (n / 10) (omega arith)) (one (n % 10) (omega arith))))

-- ten times itself, k times
unfoldable pub ten : ℕ → ℕ
ten zero = 1
ten (suc k) = ten k * 10

-- below that, at most as many digits
pub length-by : (k n : ℕ) → n < ten (suc k) → length (decimal n) ≤ suc k
unfolding ten
length-by zero n h = rw (decimal-short n (omega arith)) (omega arith)
length-by (suc k) n h =
    by-test (ltb n 10) (λ e. rw (decimal-short n (ltb-true n 10 e)) (omega arith))
    (λ e. rw (decimal-long n (ltb-false n 10 e), length-append) (let g : length (decimal (n / 10)) ≤ suc k = length-by k (n / 10) (omega arith) in omega arith))

-- at most ten digits
pub decimal-length : (n : ℕ) → n < too_long → length (decimal n) ≤ 10
unfolding ten
decimal-length n h = length-by 9 n (omega arith)

-- a digit's bounds
digit-from : (x : ℕ) → is_digit x ≡ true → (48 ≤ x) × (x ≤ 57)
digit-from x e = let p = both (leb 48 x) (leb x 57) e in (leb-true 48 x p.0, leb-true x 57 p.1)

-- the value before a digit that may follow
on-from : (v : ℕ) → may_go_on false v ≡ true → (0 < v) × (v < 1_000_000_000)
on-from v e =
    let p = both (not (eqb v 0)) (ltb v 1_000_000_000) e in
    (by-test (eqb v 0) (λ z. clash p.0 (rw z)) (λ z. let n : v ≡ 0 → ⊥ = eqb-false v 0 z in omega arith), ltb-true v _ p.1)

-- what a byte does to a number
module _ (first : Bool) (v x : ℕ) (l : List ℕ) where
  -- a digit that may follow
  number_more : is_digit x ≡ true → may_go_on first v ≡ true → number_from first v (x ∷ l) ≡ number_from false (v * 10 + (x - 48)) l
  unfolding number_from
  number_more d m = rw (d, m)

  -- a digit that may not
  number-bad : is_digit x ≡ true → may_go_on first v ≡ false → number_from first v (x ∷ l) ≡ bad
  unfolding number_from
  number-bad d m = rw (d, m)

  -- any other byte
  number-end : is_digit x ≡ false → number_from first v (x ∷ l) ≡ ended first v (x ∷ l)
  unfolding number_from
  number-end d = rw d

-- the value and the rest, from an answer
same-value : (w v : ℕ) (r l : List ℕ) → v < too_long → value v l ≡ value w r → (decimal v ++ l ≡ decimal w ++ r) × (w < too_long)
same-value w v r l h e = (cc, (let z : v ≡ w = cc in omega arith))

-- a digit's byte from its value
digit-back : (x : ℕ) → 48 ≤ x → 48 + (x - 48) ≡ x
digit-back x h = omega arith

-- a number is read only where its digits stand
module _ (w : ℕ) (r : List ℕ) where
  -- after digits of the value v
  sound-on : (l : List ℕ) (v : ℕ) → v < too_long → number_from false v l ≡ value w r → (decimal v ++ l ≡ decimal w ++ r) × (w < too_long)
  unfolding number_from
  sound-on [] v h e = same-value w v r [] h e
  sound-on (x ∷ l) v h e =
      by-test (is_digit x)
      (λ d. by-test (may_go_on false v)
      (λ m. let b = on-from v m in let g = digit-from x d in
      let q = sound-on l (v * 10 + (x - 48)) (omega arith) (sym (number_more false v x l d m) ∙ e) in
      (sym (append_assoc (decimal v) (x ∷ []) l) ∙ ap (λ (z : List ℕ). z ++ l) (ap (λ (z : ℕ). decimal v ++ (z ∷ [])) (sym (digit-back x g.0)) ∙ sym (decimal-more v (x - 48) b.0 (omega arith))) ∙ q.0, q.1))
      (λ m. never (cc (number-bad false v x l d m))))
      (λ d. same-value w v r (x ∷ l) h (sym (number-end false v x l d) ∙ e))

  -- from the first digit on
  pub number-sound : (l : List ℕ) → number_of l ≡ value w r → (l ≡ decimal w ++ r) × (w < too_long)
  unfolding number_of number_from
  number-sound [] e = never (cc)
  number-sound (x ∷ l) e =
      by-test (is_digit x)
      (λ d. let g = digit-from x d in
      let q = sound-on l (0 * 10 + (x - 48)) (omega arith) (sym (number_more true 0 x l d refl) ∙ e) in
      let z : 0 * 10 + (x - 48) ≡ x - 48 = omega arith in
      (ap (λ (z : ℕ). z ∷ l) (sym (digit-back x g.0)) ∙ ap (λ (z : List ℕ). z ++ l) (sym (decimal-short (x - 48) (omega arith)) ∙ ap decimal (sym z)) ∙ q.0, q.1))
      (λ d. never (cc (number-end true 0 x l d)))

-- the byte of a digit is one
digit-yes : (e : ℕ) → e < 10 → is_digit (48 + e) ≡ true
digit-yes e h = rw (le-leb 48 (48 + e) (omega arith), le-leb (48 + e) 57 (omega arith))

-- a digit may follow a value of 1 to 9 digits
on-yes : (v : ℕ) → 0 < v → v < 1_000_000_000 → may_go_on false v ≡ true
on-yes v h g = rw (ne_eqb v 0 (λ (e : v ≡ 0). omega arith), lt-ltb v 1_000_000_000 g)

-- one digit is read
read_short : (n : ℕ) (l : List ℕ) → n < 10 → number_of (decimal n ++ l) ≡ number_from false n l
unfolding number_of
read_short n l h =
    rw (decimal-short n h)
    (number_more true 0 (48 + n) l (digit-yes n h) refl ∙ ap (λ (z : ℕ). number_from false z l) (let z : 0 * 10 + (48 + n - 48) ≡ n = omega arith in z))

-- all digits are read
read_by : (k n : ℕ) (l : List ℕ) → n ≤ k → n < too_long → number_of (decimal n ++ l) ≡ number_from false n l
read_by zero n l h b = read_short n l (omega arith)
read_by (suc k) n l h b =
    by-test (ltb n 10)
    (λ e. read_short n l (ltb-true n 10 e))
    (λ e. let s : 10 ≤ n = ltb-false n 10 e in
    rw (decimal-long n s, append_assoc)
    (read_by k (n / 10) ((48 + n % 10) ∷ l) (omega arith) (omega arith)
    ∙ number_more false (n / 10) (48 + n % 10) l (digit-yes (n % 10) (omega arith)) (on-yes (n / 10) (omega arith) (omega arith))
    ∙ ap (λ (z : ℕ). number_from false z l) (let z : n / 10 * 10 + (48 + n % 10 - 48) ≡ n = omega arith in z)))

-- the digits of a number are read as that number, where a bracket follows
pub number-reads : (n : ℕ) (l : List ℕ) → n < too_long → number_of (decimal n ++ (41 ∷ l)) ≡ value n (41 ∷ l)
number-reads n l h = read_by n n (41 ∷ l) (omega arith) h ∙ number-end false n 41 l refl
