-- The digits of a number, made from the last to the first.
use mathlib.Core.Path.{◌≡◌, sym, ap, ◌∙◌}
use Prim.Native.Nat.{ℕ, suc, ◌+◌, ◌-◌, ◌/◌, ◌%◌, ◌≤◌, ◌<◌}
use native.Mathlib.Omega.{arith}
use mathlib.Core.List.{List, [], ◌∷◌, ◌++◌, append_assoc, append-nil}
use lib.Dec.{ltb}
use lib.ListN.{length, take, drop, set, drop_of_length-le, length-append, length-drop, length-set}
use lib.Seq.{take_all, drop-cons, drop-set-lt, get_or-set_same}
use borrow.Author.Tests.{ltb-true, ltb-false}
use Rattle.reuse.proofs.Lists.{by-test}
use Rattle.texts.specs.Digits.{decimal, too_long}
use Rattle.texts.proofs.Numbers.{decimal-short, decimal-long, decimal-length}
use Rattle.listing_rows.specs.Laying.{Laid, lay}

-- what stands from a place on, once a byte is written there
drop-set : (l : List ℕ) (k x : ℕ) → k < length l → drop k (set l k x) ≡ x ∷ drop (suc k) l
drop-set l k x h =
    drop-cons (set l k x) k 0 (simp length-set h) ∙ rw (get_or-set_same l k x 0 h, drop-set-lt (suc k) l k x (omega arith))

-- the most digits of a number
abbrev number_room : ℕ
number_room = 10

-- the digits from `first` on are made; those of `left` stand before them
pub record Digits (n : ℕ) (digits : List ℕ) (first left : ℕ) : Type 0 where
  pub long : length digits ≡ number_room
  pub within : first ≤ number_room
  pub room : length (decimal left) ≤ first
  pub same : decimal left ++ drop first digits ≡ decimal n

-- none is made
pub digits-start : (n : ℕ) (digits : List ℕ) → n < too_long → length digits ≡ number_room → Digits n digits 10 n
digits-start n digits h g = record {
  long = g;
  within = omega arith;
  room = decimal-length n h;
  same = rw (drop_of_length-le digits {i = 10} (omega arith)) (append-nil (decimal n));
}

module _ (n : ℕ) (digits : List ℕ) (first left : ℕ) (h : Digits n digits first left) where
  -- there is a place for one more
  pub digits-room : 0 < first
  digits-room =
      by-test (ltb left 10)
      (λ e. let b : 1 ≤ first = rw (decimal-short left (ltb-true left 10 e)) at h.room in b)
      (λ e. let b : length (decimal (left / 10)) + 1 ≤ first = simp (decimal-long left (ltb-false left 10 e), length-append) at h.room in omega arith)

  -- the last of those left is made
  pub digits-turn : (left / 10 ≡ 0 → ⊥) → Digits n (set digits (first - 1) (48 + left % 10)) (first - 1) (left / 10)
  digits-turn f =
      let g : 10 ≤ left = omega arith in
      let b : length (decimal (left / 10)) + 1 ≤ first = simp (decimal-long left g, length-append) at h.room in
      let s : suc (first - 1) ≡ first = omega arith in
      record {
        long = simp length-set h.long;
        within = omega (arith, h.within);
        room = omega arith;
        same = rw (drop-set digits (first - 1) (48 + left % 10) (omega (arith, h.long, h.within)), s)
            (sym (append_assoc (decimal (left / 10)) ((48 + left % 10) ∷ []) (drop first digits)) ∙ rw (decimal-long left g) at h.same);
      }

  -- the first of all is made
  digits-end : left / 10 ≡ 0 → take (10 - (first - 1)) (drop (first - 1) (set digits (first - 1) (48 + left % 10))) ≡ decimal n
  digits-end e =
      let b = digits-room in
      let g : left < 10 = omega arith in
      let m : left % 10 ≡ left = omega arith in
      let s : suc (first - 1) ≡ first = omega arith in
      take_all (10 - (first - 1)) (drop (first - 1) (set digits (first - 1) (48 + left % 10))) (simp (length-drop, length-set) (omega (arith, h.long)))
      ∙ rw (drop-set digits (first - 1) (48 + left % 10) (omega (arith, h.long, h.within)), s, m) (rw (decimal-short left g) at h.same)

  -- all are laid
  pub digits-laid : left / 10 ≡ 0 → (d : Laid) {e : Laid}
      → e ≡ lay d (take (10 - (first - 1)) (drop (first - 1) (set digits (first - 1) (48 + left % 10)))) → e ≡ lay d (decimal n)
  digits-laid e d p = p ∙ ap (lay d) (digits-end e)
