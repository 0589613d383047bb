-- Counts among answers and numbers, and sums of tables.
use mathlib.Core.Path.{◌≡◌, refl, sym, ap, ap₂, ◌∙◌, fun_ext}
use Prim.Native.Nat.{ℕ, zero, suc, ◌+◌, ◌-◌, ◌≤◌, ◌<◌}
use native.Mathlib.Omega.{arith}
use native.Mathlib.Nat.{zero-add, suc-add, add-zero, add-suc}
use mathlib.Core.Logic.{◌≢◌}
use mathlib.Core.List.{List, [], ◌∷◌, ◌++◌, map, map-append}
use mathlib.Core.Bool.{Bool, true, false, cond}
use lib.Dec.{eqb, ltb}
use lib.ListN.{length, take, drop, get_or}
use borrow.Author.Tests.{eqb-true, eqb-false, ne_eqb, ltb-true, ltb-false}
use Rattle.reuse.specs.Lists.{mem, from, sum, count}
use Rattle.reuse.specs.Lru.{Reuse, cold, at, is_at, is_above, count_at}
use Rattle.reuse.specs.Summary.{count_for}
use Rattle.reuse.proofs.Lists.{by-test, clash, mem-head, mem-tail}

-- a count over two lists end to end
pub count-append : {A : Type 0} (p : A → Bool) (a b : List A) → count p (a ++ b) ≡ count p a + count p b
unfolding count
count-append p [] b = sym (zero-add (count p b))
count-append p (x ∷ a) b = by-test (p x) (λ e. simp (e, count-append p a b, suc-add)) (λ e. simp (e, count-append p a b))

-- the count where all pass
pub count-all : (p : ℕ → Bool) (l : List ℕ) → ((x : ℕ) → mem x l ≡ true → p x ≡ true) → count p l ≡ length l
unfolding count
count-all p [] h = refl
count-all p (x ∷ l) h = rw (h x (mem-head x l)) (ap suc (count-all p l (λ z m. h z (mem-tail z x l m))))

-- what is no member is not counted
pub count-absent : (d : ℕ) (l : List ℕ) → mem d l ≡ false → count (eqb d) l ≡ 0
unfolding count mem
count-absent d [] h = refl
count-absent d (x ∷ l) h = by-test (eqb d x) (λ e. clash (simp e) h) (λ e. simp (e, count-absent d l (simp e at h)))

-- no more pass than there are
pub count-le : {A : Type 0} (p : A → Bool) (l : List A) → count p l ≤ length l
unfolding count
count-le p [] = omega arith
count-le p (x ∷ l) = let i : count p l ≤ length l = count-le p l in by-test (p x) (λ e. simp e (omega arith)) (λ e. simp e (omega arith))

-- the distances among answers, in order
unfoldable pub finite : List Reuse → List ℕ
finite [] = []
finite (cold n ∷ rs) = finite rs
finite (at d ∷ rs) = d ∷ finite rs

-- to count a distance among answers is to count it among the distances
pub count-finite : (rs : List Reuse) (d : ℕ) → count_at rs d ≡ count (eqb d) (finite rs)
unfolding count_at count finite
count-finite [] d = refl
count-finite (cold n ∷ rs) d = count-finite rs d
count-finite (at e ∷ rs) d = simp (count-finite rs d)

-- so it is with those above c
pub above-finite : (rs : List Reuse) (c : ℕ) → count (is_above c) rs ≡ count (ltb c) (finite rs)
unfolding count finite
above-finite [] c = refl
above-finite (cold n ∷ rs) c = above-finite rs c
above-finite (at e ∷ rs) c = simp (above-finite rs c)

-- the count of a distance among answers, by the first and the rest
pub count-cons : (r : Reuse) (rs : List Reuse) (d : ℕ) → count_at (r ∷ rs) d ≡ count_at (r ∷ []) d + count_at rs d
unfolding count_at
count-cons r rs d = count-append (is_at d) (r ∷ []) rs

-- by the last and those before it
pub count-snoc : (rs : List Reuse) (r : Reuse) (d : ℕ) → count_at (rs ++ (r ∷ [])) d ≡ cond (is_at d r) (suc (count_at rs d)) (count_at rs d)
unfolding count_at
count-snoc rs r d =
    count-append (is_at d) rs (r ∷ []) ∙ unfold count in by-test (is_at d r) (λ e. simp e (omega arith)) (λ e. simp e (omega arith))

-- a cold answer counts for no distance
pub count-cold : (n : ℕ) (rs : List Reuse) (d : ℕ) → count_at (cold n ∷ rs) d ≡ count_at rs d
unfolding count_at count
count-cold n rs d = refl

-- the sum of two tables added
pub sum-add : (f g : ℕ → ℕ) (l : List ℕ) → sum (map (λ d. f d + g d) l) ≡ sum (map f l) + sum (map g l)
unfolding sum
sum-add f g [] = refl
sum-add f g (x ∷ l) = let i : sum (map (λ d. f d + g d) l) ≡ sum (map f l) + sum (map g l) = sum-add f g l in omega arith

-- the sum of a table of 0
pub sum-zero : (l : List ℕ) → sum (map (λ d. 0) l) ≡ 0
unfolding sum
sum-zero [] = refl
sum-zero (x ∷ l) = let i : sum (map (λ d. 0) l) ≡ 0 = sum-zero l in omega arith

-- the sum of a list, by its first c and the rest
pub sum-split : (c : ℕ) (l : List ℕ) → sum (take c l) + sum (drop c l) ≡ sum l
unfolding sum
sum-split zero l = zero-add (sum l)
sum-split (suc c) [] = refl
sum-split (suc c) (x ∷ l) = let i : sum (take c l) + sum (drop c l) ≡ sum l = sum-split c l in omega arith

-- a run of n numbers has n
pub length_from : (k n : ℕ) → length (from k n) ≡ n
unfolding from
length_from k zero = refl
length_from k (suc n) = ap suc (length_from (suc k) n)

-- one longer
pub from-snoc : (k n : ℕ) → from k (suc n) ≡ from k n ++ ((k + n) ∷ [])
unfolding from
from-snoc k zero = ap (λ (x : ℕ). x ∷ []) (let e : k ≡ k + 0 = omega arith in e)
from-snoc k (suc n) =
    ap {B = List ℕ} (λ r. k ∷ r)
    (from-snoc (suc k) n ∙ ap (λ (x : ℕ). from (suc k) n ++ (x ∷ [])) (let e : suc k + n ≡ k + suc n = omega arith in e))

-- a table moved by one
pub from_suc : (f : ℕ → ℕ) (k n : ℕ) → map f (from (suc k) n) ≡ map (λ d. f (suc d)) (from k n)
unfolding from
from_suc f k zero = refl
from_suc f k (suc n) = ap (λ (r : List ℕ). f (suc k) ∷ r) (from_suc f (suc k) n)

-- a table of f
module _ (f : ℕ → ℕ) where
  -- at a place before its end
  pub map-from-at : (k n i : ℕ) → i < n → get_or (map f (from k n)) i 0 ≡ f (k + i)
  unfolding from
  map-from-at k zero i h = absurd (omega arith)
  map-from-at k (suc n) zero h = ap f (let e : k ≡ k + 0 = omega arith in e)
  map-from-at k (suc n) (suc i) h = map-from-at (suc k) n i (omega arith) ∙ ap f (let e : suc k + i ≡ k + suc i = omega arith in e)

  -- one longer
  pub map-from-snoc : (k n : ℕ) → map f (from k (suc n)) ≡ map f (from k n) ++ (f (k + n) ∷ [])
  map-from-snoc k n = ap (map f) (from-snoc k n) ∙ map-append f (from k n) ((k + n) ∷ [])

-- a table without its first c
pub drop-from : (f : ℕ → ℕ) (c k n : ℕ) → drop c (map f (from k n)) ≡ map f (from (k + c) (n - c))
unfolding from
drop-from f zero k n = let e : k + 0 ≡ k = omega arith in let g : n - 0 ≡ n = omega arith in rw (e, g)
drop-from f (suc c) k zero = let e : 0 - suc c ≡ 0 = omega arith in rw e
drop-from f (suc c) k (suc n) =
    let e : suc k + c ≡ k + suc c = omega arith in
    let g : n - c ≡ suc n - suc c = omega arith in
    drop-from f c (suc k) n ∙ rw (e, g)

-- a table of f read past its end as 0, where f is 0 there
pub get_or-from : (f : ℕ → ℕ) (k n i : ℕ) → ((e : ℕ) → k + n ≤ e → f e ≡ 0) → get_or (map f (from k n)) i 0 ≡ f (k + i)
unfolding from
get_or-from f k zero i h = sym (h (k + i) (omega arith))
get_or-from f k (suc n) zero h = simp add-zero
get_or-from f k (suc n) (suc i) h =
    get_or-from f (suc k) n i (λ e l. h e (omega arith)) ∙ simp (suc-add, add-suc)

-- the front of a list that reads as f, from k on
pub take-from : (f : ℕ → ℕ) (l : List ℕ) (k v : ℕ) → v ≤ length l → ((i : ℕ) → i < v → get_or l i 0 ≡ f (k + i)) → take v l ≡ map f (from k v)
unfolding from
take-from f l k zero w h = refl
take-from f [] k (suc v) w h = absurd (omega arith)
take-from f (x ∷ l) k (suc v) w h =
    ap₂ (λ (y : ℕ) (r : List ℕ). y ∷ r) (h 0 (omega arith) ∙ ap f (omega arith))
    (take-from f l (suc k) v (omega arith) (λ i m. h (suc i) (omega arith) ∙ ap f (omega arith)))

-- a table with one mark
abbrev mark : ℕ → ℕ → ℕ
mark e d = cond (eqb d e) 1 0

-- no mark in a table past it
mark-past : (e k n : ℕ) → e < k → sum (map (mark e) (from k n)) ≡ 0
unfolding sum from
mark-past e k zero h = refl
mark-past e k (suc n) h = simp (ne_eqb k e (λ q. omega arith), mark-past e (suc k) n (omega arith))

-- one mark in a table that has its place
mark-in : (e k n : ℕ) → k ≤ e → e < k + n → sum (map (mark e) (from k n)) ≡ 1
unfolding sum from
mark-in e k zero h l = absurd (omega arith)
mark-in e k (suc n) h l =
    by-test (eqb k e)
    (λ q. simp (q, mark-past e (suc k) n (omega (arith, eqb-true k e q))))
    (λ q. let ne : k ≢ e = eqb-false k e q in simp (q, mark-in e (suc k) n (omega arith) (omega arith)))

-- a count is the marks of its values
count-mark : (e : ℕ) (l : List ℕ) (d : ℕ) → count (eqb d) (e ∷ l) ≡ mark e d + count (eqb d) l
unfolding count
count-mark e l d = by-test (eqb d e) (λ q. simp q (omega arith)) (λ q. simp q (omega arith))

-- the counts of a list's values from k + 1 to k + n, which no value exceeds, add up to the values above k
pub sum-counts : (l : List ℕ) (k n : ℕ) → ((d : ℕ) → mem d l ≡ true → d ≤ k + n)
    → sum (map (λ d. count (eqb d) l) (from (suc k) n)) ≡ count (ltb k) l
sum-counts [] k n h = unfold count in sum-zero (from (suc k) n)
sum-counts (e ∷ l) k n h =
    let i : sum (map (λ d. count (eqb d) l) (from (suc k) n)) ≡ count (ltb k) l = sum-counts l k n (λ d m. h d (mem-tail d e l m)) in
    let top : e ≤ k + n = h e (mem-head e l) in
    let parts : sum (map (λ d. count (eqb d) (e ∷ l)) (from (suc k) n))
    ≡ sum (map (mark e) (from (suc k) n)) + sum (map (λ d. count (eqb d) l) (from (suc k) n)) =
    ap (λ (f : ℕ → ℕ). sum (map f (from (suc k) n))) (fun_ext (count-mark e l))
    ∙ sum-add (mark e) (λ d. count (eqb d) l) (from (suc k) n) in
    parts ∙ rw i (unfold count in by-test (ltb k e)
    (λ q. let m : sum (map (mark e) (from (suc k) n)) ≡ 1 = mark-in e (suc k) n (omega (arith, ltb-true)) (omega arith) in simp (q, m) (omega arith))
    (λ q. let m : sum (map (mark e) (from (suc k) n)) ≡ 0 = mark-past e (suc k) n (omega (arith, ltb-false)) in simp (q, m) (omega arith)))

-- a list read past its end as 0 has the same sum
sum-get_or : (h : List ℕ) (n : ℕ) → length h ≤ n → sum (map (λ d. get_or h d 0) (from 0 n)) ≡ sum h
unfolding sum from
sum-get_or [] n l = sum-zero (from 0 n)
sum-get_or (x ∷ h) zero l = absurd (omega arith)
sum-get_or (x ∷ h) (suc n) l = rw (from_suc (λ d. get_or (x ∷ h) d 0) 0 n) (ap (λ (m : ℕ). x + m) (sum-get_or h n (omega arith)))

-- H read by distances from 1 on has the same sum
pub sum-table : (h : List ℕ) (n : ℕ) → length h ≤ n → sum (map (count_for h) (from 1 n)) ≡ sum h
unfolding count_for
sum-table h n l = ap sum (from_suc (λ d. get_or (0 ∷ h) d 0) 0 n) ∙ sum-get_or h n l
