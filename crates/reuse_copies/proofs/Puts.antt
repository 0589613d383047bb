-- Words put into a row: the row afterwards, and a turn of the loop that puts them.
use mathlib.Core.Path.{◌≡◌, refl, sym, ap, ◌∙◌}
use Prim.Native.Nat.{ℕ, suc, ◌+◌, ◌-◌, ◌≤◌, ◌<◌}
use native.Mathlib.Omega.{arith}
use native.Mathlib.Numerals.{add-one}
use mathlib.Core.List.{List, [], ◌∷◌, ◌++◌, append_assoc}
use lib.ListN.{length, take, drop, get_or, set, drop_of_length-le, take-append-drop, length-append, length-take, length-drop, length-set}
use lib.Seq.{take-suc-set, drop-set-lt, drop-cons, drop-drop, drop_at, take_at, take-take, take-append-le, length-take-le, get_or-take, get_or-drop}
use borrow.Author.Tests.{le-leb, lt-leb}
use Rattle.reuse_rows.specs.Rows.{put_at, placed}

-- nothing put
pub put-none : {A : Type 0} (o : List A) (n : ℕ) → put_at o n [] ≡ o
unfolding put_at
put-none o n = let e : n + 0 ≡ n = omega arith in rw e (take-append-drop n o)

-- the first of the words put
pub put-cons : {A : Type 0} (o : List A) (n : ℕ) (x : A) (l : List A) → n < length o → put_at o n (x ∷ l) ≡ put_at (set o n x) (n + 1) l
unfolding put_at
put-cons o n x l h =
    let a : n + 1 ≡ suc n = omega arith in
    let b : n + suc (length l) ≡ suc n + length l = omega arith in
    sym (rw (a, take-suc-set o n x h, drop-set-lt (suc n + length l) o n x (omega arith), b) (simp append_assoc))

-- a row keeps its length
pub put-length : (o : List ℕ) (n : ℕ) (l : List ℕ) → n + length l ≤ length o → length (put_at o n l) ≡ length o
unfolding put_at
put-length o n l h = simp (length-append, length-take, length-drop) (omega arith)

-- words put, and then more
pub put-append : (o : List ℕ) (n : ℕ) (l m : List ℕ) → n + length l ≤ length o → put_at (put_at o n l) (n + length l) m ≡ put_at o n (l ++ m)
unfolding put_at
put-append o n l m h =
    let e : length (take n o ++ l) ≡ n + length l = simp (length-append, length-take-le n o (omega arith)) in
    let t : take n o ++ (l ++ drop (n + length l) o) ≡ (take n o ++ l) ++ drop (n + length l) o = simp append_assoc in
    let f : n + length l + length m ≡ n + length (l ++ m) = omega (arith, length-append l m) in
    let d : drop (n + length l + length m) ((take n o ++ l) ++ drop (n + length l) o) ≡ drop (n + length (l ++ m)) o =
    sym (drop-drop (length m) (n + length l) ((take n o ++ l) ++ drop (n + length l) o))
    ∙ ap (drop (length m)) (drop_at (take n o ++ l) (drop (n + length l) o) (n + length l) e)
    ∙ drop-drop (length m) (n + length l) o ∙ ap (λ (k : ℕ). drop k o) f in
    rw (t, take_at (take n o ++ l) (drop (n + length l) o) (n + length l) e, d) (simp append_assoc)

module _ (w : List ℕ) (at : ℕ) (l : List ℕ) (fits : at + length l ≤ length w) where
  -- as many words as stand before
  before : length (take at w) ≡ at
  before = length-take-le at w (omega arith)

  -- and with those put
  before-put : length (take at w ++ l) ≡ at + length l
  before-put = length-append (take at w) l ∙ ap (λ (n : ℕ). n + length l) before

  -- what stands before words that were put
  pub put-before : (n : ℕ) → n ≤ at → take n (put_at w at l) ≡ take n w
  unfolding put_at
  put-before n h = take-append-le n (take at w) (l ++ drop (at + length l) w) (omega (arith, before)) ∙ take-take n at w h

  -- the words that were put
  pub put-there : take (length l) (drop at (put_at w at l)) ≡ l
  unfolding put_at
  put-there =
      ap (take (length l)) (drop_at (take at w) (l ++ drop (at + length l) w) at before)
      ∙ take_at l (drop (at + length l) w) (length l) refl

  -- what stands after them
  pub put-after : (n : ℕ) → at + length l ≤ n → drop n (put_at w at l) ≡ drop n w
  unfolding put_at
  put-after n h =
      let e : at + length l + (n - (at + length l)) ≡ n = omega arith in
      ap (λ (k : ℕ). drop k (take at w ++ (l ++ drop (at + length l) w))) (sym e)
      ∙ sym (drop-drop (n - (at + length l)) (at + length l) (take at w ++ (l ++ drop (at + length l) w)))
      ∙ ap (λ (v : List ℕ). drop (n - (at + length l)) (drop (at + length l) v)) (sym (append_assoc (take at w) l (drop (at + length l) w)))
      ∙ ap (drop (n - (at + length l))) (drop_at (take at w ++ l) (drop (at + length l) w) (at + length l) before-put)
      ∙ drop-drop (n - (at + length l)) (at + length l) w
      ∙ ap (λ (k : ℕ). drop k w) e

  -- words put over them
  pub put-over : (m : List ℕ) → length m ≡ length l → put_at (put_at w at l) at m ≡ put_at w at m
  put-over m e = over-is (put_at w at l) ∙ rw (put-before at (omega arith), put-after (at + length m) (omega (arith, e))) (sym (over-is w))
    where
      over-is : (o : List ℕ) → put_at o at m ≡ take at o ++ (m ++ drop (at + length m) o)
      over-is o = unfold put_at in refl

-- a place of words that were put
pub put-at : (o : List ℕ) (at : ℕ) (l : List ℕ) (j : ℕ) → at + length l ≤ length o → j < length l → get_or (put_at o at l) (at + j) 0 ≡ get_or l j 0
put-at o at l j fits h =
    sym (get_or-drop at (put_at o at l) j 0)
    ∙ sym (get_or-take (length l) (drop at (put_at o at l)) j 0 h)
    ∙ ap (λ (r : List ℕ). get_or r j 0) (put-there o at l fits)

module _ {A : Type 0} (o : List A) (n : ℕ) (l : List A) where
  -- words that fit are put
  pub placed-fits : n + length l ≤ length o → placed o n l ≡ put_at o n l
  unfolding placed
  placed-fits h = rw (le-leb (n + length l) (length o) h)

  -- words that do not fit leave the row as it was
  pub placed-not : length o < n + length l → placed o n l ≡ o
  unfolding placed
  placed-not h = rw (lt-leb (n + length l) (length o) h)

-- the first i words of s are copied; what is left is still to be put
pub record Copying {A : Type 0} (o : List A) (at : ℕ) (s row : List A) (i : ℕ) : Type 0 where
  pub within : i ≤ length s
  pub long : length row ≡ length o
  pub fits : at + length s ≤ length o
  pub same : put_at row (at + i) (drop i s) ≡ put_at o at s

module _ {A : Type 0} (o : List A) (at : ℕ) (s : List A) where
  -- none is copied
  pub copy_start : at + length s ≤ length o → Copying o at s o 0
  copy_start h = let z : at + 0 ≡ at = omega arith in record { within = omega arith; long = refl; fits = h; same = rw z }

  module _ (row : List A) (i : ℕ) (h : Copying o at s row i) where
    -- one more
    pub copy-turn : (x : A) → x ≡ get_or s i x → i < length s → Copying o at s (set row (at + i) x) (i + 1)
    copy-turn x e l =
        let n : at + (i + 1) ≡ at + i + 1 = omega arith in
        let w : drop i s ≡ x ∷ drop (i + 1) s = rw (add-one i) (drop-cons s i x l ∙ ap (λ (y : A). y ∷ drop (suc i) s) (sym e)) in
        record {
          within = omega arith;
          long = simp length-set h.long;
          fits = h.fits;
          same = rw n (sym (put-cons row (at + i) x (drop (i + 1) s) (omega (arith, h.long, h.fits))) ∙ (rw w at h.same));
        }

    -- all are
    pub copy-end : length s ≤ i → row ≡ placed o at s
    copy-end l =
        let z : drop i s ≡ [] = drop_of_length-le s {i = i} l in
        sym (put-none row (at + i)) ∙ (rw z at h.same) ∙ sym (placed-fits o at s h.fits)
