-- Rows of marks beside rows of slots, of any length.
use Prim.Native.Nat.{ℕ, zero, suc, ◌≤◌, ◌<◌}
use mathlib.Core.Path.{◌≡◌, refl, sym, ap, ◌∙◌}
use mathlib.Core.List.{List, [], ◌∷◌, ◌++◌, reverse, reverse-cons}
use mathlib.Core.Bool.{true, false, ◌||◌, ◌&&◌}
use mathlib.Core.Logic.{◌≢◌}
use native.Mathlib.Omega.{arith}
use lib.Dec.{eqb, leb}
use lib.ListN.{length, drop, get_or, set, replicate, length-reverse}
use borrow.Author.Tests.{eq-eqb, ne_eqb, eqb-true, leb-true}
use Rattle.reuse.specs.Lists.{mem, remove, distinct, sum}
use Rattle.reuse.specs.Lru.{at, depth}
use Rattle.session_rights.specs.Rights.{zero_one}
use Rattle.session_marks.specs.Marks.{marked, tidy, slot_from}
use Rattle.reuse.proofs.Lists.{clash, by-test, both, remove_absent, mem-reverse, mem-head, mem-tail}
use Rattle.reuse.proofs.Distinct.{distinct_head, distinct_tail}
use Rattle.reuse.proofs.Depth.{depth-last, depth-top}

-- slots beside their marks: 0 beside 0, anything beside 1
pub data Row : List ℕ → List ℕ → Type 0 where
  none : Row [] []
  bare : {ms xs : List ℕ} → Row ms xs → Row (0 ∷ ms) (0 ∷ xs)
  kept : {ms xs : List ℕ} (x : ℕ) → Row ms xs → Row (1 ∷ ms) (x ∷ xs)

-- as many slots as marks
pub row-length : {ms xs : List ℕ} → Row ms xs → length xs ≡ length ms
row-length none = refl
row-length (bare r) = ap suc (row-length r)
row-length (kept x r) = ap suc (row-length r)

-- a row is tidy
pub row-tidy : {ms xs : List ℕ} → Row ms xs → tidy ms xs ≡ true
unfolding tidy
row-tidy none = refl
row-tidy (bare r) = row-tidy r
row-tidy (kept x r) = row-tidy r

-- a tidy row is one
pub tidy-row : (ms xs : List ℕ) → length xs ≡ length ms → tidy ms xs ≡ true → Row ms xs
unfolding tidy
tidy-row [] [] w h = none
tidy-row [] (x ∷ xs) w h = absurd (omega arith)
tidy-row (m ∷ ms) [] w h = absurd (omega arith)
tidy-row (zero ∷ ms) (x ∷ xs) w h =
    let p = both (eqb x 0) (tidy ms xs) h in
    rw (eqb-true x 0 p.0) (bare (tidy-row ms xs (omega arith) p.1))
tidy-row (suc zero ∷ ms) (x ∷ xs) w h = kept x (tidy-row ms xs (omega arith) h)
tidy-row (suc (suc m) ∷ ms) (x ∷ xs) w h =
    let p = both (leb (suc (suc m)) 1 && (eqb (suc (suc m)) 1 || eqb x 0)) (tidy ms xs) h in
    let q = both (leb (suc (suc m)) 1) (eqb (suc (suc m)) 1 || eqb x 0) p.0 in
    absurd (omega (arith, leb-true (suc (suc m)) 1 q.0))

-- a slot that does not hold 0 is marked
pub row-held : {ms xs : List ℕ} → Row ms xs → (i : ℕ) → get_or xs i 0 ≢ 0 → get_or ms i 0 ≡ 1
row-held none i n = absurd (n refl)
row-held (bare r) zero n = absurd (n refl)
row-held (bare r) (suc i) n = row-held r i n
row-held (kept x r) zero n = refl
row-held (kept x r) (suc i) n = row-held r i n

-- its marks are 0 or 1
pub row-zero-one : {ms xs : List ℕ} → Row ms xs → zero_one ms ≡ true
unfolding zero_one
row-zero-one none = refl
row-zero-one (bare r) = row-zero-one r
row-zero-one (kept x r) = row-zero-one r

-- the number of marks is that of the marked slots
pub row_count : {ms xs : List ℕ} → Row ms xs → length (marked ms xs) ≡ sum ms
unfolding marked sum
row_count none = refl
row_count (bare r) = row_count r ∙ (omega arith)
row_count (kept x r) = let h = row_count r in omega arith

-- no more marks than slots
pub row-few : {ms xs : List ℕ} → Row ms xs → sum ms ≤ length ms
unfolding sum
row-few none = omega arith
row-few (bare r) = let h = row-few r in omega arith
row-few (kept x r) = let h = row-few r in omega arith

-- no marks, no marked slots
row-none : {ms xs : List ℕ} → Row ms xs → sum ms ≡ 0 → marked ms xs ≡ []
unfolding marked sum
row-none none h = refl
row-none (bare r) h = row-none r (omega arith)
row-none (kept x r) h = absurd (omega arith)

-- a mark set at a free place stays in a row
pub put-row : {ms xs : List ℕ} → Row ms xs → (n x : ℕ) → sum (drop n ms) ≡ 0 → Row (set ms n 1) (set xs n x)
unfolding sum
put-row none n x h = none
put-row (bare r) zero x h = kept x r
put-row (bare r) (suc n) x h = bare (put-row r n x h)
put-row (kept y r) zero x h = absurd (omega arith)
put-row (kept y r) (suc n) x h = kept y (put-row r n x h)

-- its extent comes last
pub put-marked : {ms xs : List ℕ} → Row ms xs → (n x : ℕ) → n < length ms → sum (drop n ms) ≡ 0 → marked (set ms n 1) (set xs n x) ≡ marked ms xs ++ (x ∷ [])
unfolding marked sum
put-marked none n x w h = absurd (omega arith)
put-marked (bare r) zero x w h = let e = row-none r (omega arith) in ap {B = List ℕ} (λ l. x ∷ l) e ∙ sym (ap (λ (l : List ℕ). l ++ (x ∷ [])) e)
put-marked (bare r) (suc n) x w h = put-marked r n x (omega arith) h
put-marked (kept y r) zero x w h = absurd (omega arith)
put-marked (kept y r) (suc n) x w h = ap {B = List ℕ} (λ l. y ∷ l) (put-marked r n x (omega arith) h)

-- the slot of x loses its mark
pub out-row : {ms xs : List ℕ} → Row ms xs → (x : ℕ) → Row (set ms (slot_from ms xs x) 0) (set xs (slot_from ms xs x) 0)
unfolding slot_from
out-row none x = none
out-row (bare r) x = bare (out-row r x)
out-row (kept y r) x = by-test (eqb x y) (λ e. simp e (bare r)) (λ e. simp e (kept y (out-row r x)))

-- x is gone from the marked slots
pub out-marked : {ms xs : List ℕ} → Row ms xs → (x : ℕ) → distinct (marked ms xs) ≡ true
    → marked (set ms (slot_from ms xs x) 0) (set xs (slot_from ms xs x) 0) ≡ remove x (marked ms xs)
unfolding slot_from marked remove
out-marked none x d = refl
out-marked (bare r) x d = out-marked r x d
out-marked (kept {ms = ms} {xs = xs} y r) x d =
    by-test (eqb x y)
    (λ e. simp e (sym (remove_absent x (marked ms xs) (rw (eqb-true x y e) (distinct_head y (marked ms xs) d)))))
    (λ e. simp (e, out-marked r x (distinct_tail y (marked ms xs) d)))

-- the slot of a marked extent is below every free place
pub out_below : {ms xs : List ℕ} → Row ms xs → (x n : ℕ) → mem x (marked ms xs) ≡ true → sum (drop n ms) ≡ 0 → slot_from ms xs x < n
unfolding slot_from marked mem sum
out_below none x n h f = clash h refl
out_below (bare r) x zero h f = let l = out_below r x 0 h (omega arith) in omega arith
out_below (bare r) x (suc n) h f = let l = out_below r x n h f in omega arith
out_below (kept y r) x zero h f = absurd (omega arith)
out_below (kept y r) x (suc n) h f =
    by-test (eqb x y) (λ e. simp e (omega arith))
    (λ e. let l = out_below r x n (simp e at h) f in simp e (omega arith))

-- the extents of a list with marks at its front are a row
pub gather-row : (l : List ℕ) (k : ℕ) → Row (replicate (length l) 1 ++ replicate k 0) (l ++ replicate k 0)
gather-row [] zero = none
gather-row [] (suc k) = bare (gather-row [] k)
gather-row (x ∷ l) k = kept x (gather-row l k)

-- they are the marked slots, in order
pub gather-marked : (l : List ℕ) (k : ℕ) → marked (replicate (length l) 1 ++ replicate k 0) (l ++ replicate k 0) ≡ l
unfolding marked
gather-marked [] zero = refl
gather-marked [] (suc k) = gather-marked [] k
gather-marked (x ∷ l) k = ap {B = List ℕ} (λ r. x ∷ r) (gather-marked l k)

-- a marked slot holds one of the marked extents
pub mem-marked : {ms xs : List ℕ} → Row ms xs → (i x : ℕ) → get_or ms i 0 ≡ 1 → get_or xs i 0 ≡ x → mem x (marked ms xs) ≡ true
unfolding marked
mem-marked none i x m e = absurd (omega arith)
mem-marked (bare r) zero x m e = absurd (omega arith)
mem-marked (bare r) (suc i) x m e = mem-marked r i x m e
mem-marked (kept {ms = ms} {xs = xs} y r) zero x m e = rw (sym e) (mem-head y (marked ms xs))
mem-marked (kept {ms = ms} {xs = xs} y r) (suc i) x m e = mem-tail x y (marked ms xs) (mem-marked r i x m e)

-- the slot that holds x beside a mark is the slot of x
pub slot-found : {ms xs : List ℕ} → Row ms xs → (i x : ℕ) → distinct (marked ms xs) ≡ true → get_or ms i 0 ≡ 1 → get_or xs i 0 ≡ x → slot_from ms xs x ≡ i
unfolding marked slot_from
slot-found none i x d m e = absurd (omega arith)
slot-found (bare r) zero x d m e = absurd (omega arith)
slot-found (bare r) (suc i) x d m e = ap suc (slot-found r i x d m e)
slot-found (kept y r) zero x d m e = simp (eq-eqb x y (sym e))
slot-found (kept {ms = ms} {xs = xs} y r) (suc i) x d m e =
    simp (ne_eqb x y (λ q. clash (ap (λ (z : ℕ). mem z (marked ms xs)) (sym q) ∙ mem-marked r i x m e) (distinct_head y (marked ms xs) d)))
    (ap suc (slot-found r i x (distinct_tail y (marked ms xs) d) m e))

-- where no slot does, there is none
pub slot-none : {ms xs : List ℕ} → Row ms xs → (x : ℕ) → ((k : ℕ) → get_or ms k 0 ≡ 1 → get_or xs k 0 ≡ x → ⊥) → slot_from ms xs x ≡ length ms
unfolding slot_from
slot-none none x h = refl
slot-none (bare r) x h = ap suc (slot-none r x (λ k m e. h (suc k) m e))
slot-none (kept y r) x h =
    simp (ne_eqb x y (λ q. h 0 refl (sym q))) (ap suc (slot-none r x (λ k m e. h (suc k) m e)))

-- an extent that is not marked has no slot
pub slot-absent : {ms xs : List ℕ} → Row ms xs → (x : ℕ) → mem x (marked ms xs) ≡ false → slot_from ms xs x ≡ length ms
slot-absent r x h = slot-none r x (λ k m e. clash (mem-marked r k x m e) h)

-- the slot of a marked extent has a mark, and holds it
pub slot-marked : {ms xs : List ℕ} → Row ms xs → (x : ℕ) → mem x (marked ms xs) ≡ true → (get_or ms (slot_from ms xs x) 0 ≡ 1) × (get_or xs (slot_from ms xs x) 0 ≡ x)
unfolding slot_from marked mem
slot-marked none x h = clash h refl
slot-marked (bare r) x h = slot-marked r x h
slot-marked (kept y r) x h = by-test (eqb x y) (λ e. simp e (refl, sym (eqb-true x y e))) (λ e. simp e (slot-marked r x (simp e at h)))

-- the depth of x is one more than the marks behind its slot
pub depth-slot : {ms xs : List ℕ} → Row ms xs → (x : ℕ) → distinct (marked ms xs) ≡ true → mem x (marked ms xs) ≡ true
    → depth (reverse (marked ms xs)) x ≡ at (suc (sum (drop (suc (slot_from ms xs x)) ms)))
unfolding marked mem slot_from sum
depth-slot none x d h = clash h refl
depth-slot (bare r) x d h = depth-slot r x d h
depth-slot (kept {ms = ms} {xs = xs} y r) x d h =
    let m : mem y (marked ms xs) ≡ false = distinct_head y (marked ms xs) d in
    ap (λ (l : List ℕ). depth l x) (reverse-cons y (marked ms xs))
    ∙ by-test (eqb x y)
    (λ e. let n : mem x (marked ms xs) ≡ false = rw (eqb-true x y e) m in
    simp e
    (rw (sym (eqb-true x y e))
    (depth-last x (reverse (marked ms xs)) (mem-reverse x (marked ms xs) ∙ n)
    ∙ ap (λ (n : ℕ). at (suc n)) (length-reverse (marked ms xs) ∙ row_count r))))
    (λ e. let n : mem x (marked ms xs) ≡ true = simp e at h in
    simp e
    (depth-top x (reverse (marked ms xs)) (y ∷ []) (mem-reverse x (marked ms xs) ∙ n)
    ∙ depth-slot r x (distinct_tail y (marked ms xs) d) n))
