-- Laws of the slots that a loop goes through: the marked ones gathered at the front.
use mathlib.Core.Path.{◌≡◌, refl, sym, ap, ◌∙◌}
use mathlib.Core.List.{List, [], ◌∷◌, ◌++◌, append-nil}
use mathlib.Core.Bool.{true, false, cond}
use Prim.Native.Nat.{ℕ, zero, suc, ◌+◌, ◌≤◌, ◌<◌}
use native.Mathlib.Omega.{arith}
use native.Mathlib.Numerals.{add-one}
use lib.Dec.{eqb}
use lib.ListN.{length, take, get_or, set, replicate, length-append}
use lib.Seq.{take_all}
use borrow.Author.Tests.{eq-eqb, ne_eqb}
use Rattle.reuse.specs.Limits.{slot_count}
use Rattle.session_sums.specs.Sums.{filled}
use Rattle.session_marks.specs.Marks.{marked, paired, gathered_row}
use Rattle.reuse.proofs.Lists.{by-test}
use Rattle.session_sums.proofs.Filled.{filled_more, filled_none}

-- the extent of a slot, where it is marked
one : ℕ → ℕ → List ℕ
one m x = cond (eqb m 1) (x ∷ []) []

-- the marked slots, with one slot more
marked_more : (i : ℕ) (ms xs : List ℕ) → i < length ms → i < length xs → marked (take (suc i) ms) (take (suc i) xs) ≡ marked (take i ms) (take i xs) ++ one (get_or ms i 0) (get_or xs i 0)
unfolding marked one
marked_more i [] xs h g = absurd (omega arith)
marked_more i (m ∷ ms) [] h g = absurd (omega arith)
marked_more zero (m ∷ ms) (x ∷ xs) h g = refl
marked_more (suc i) (m ∷ ms) (x ∷ xs) h g =
    let ih = marked_more i ms xs (omega arith) (omega arith) in
    by-test (eqb m 1) (λ e. simp (e, ih)) (λ e. simp (e, ih))

-- the slot is marked
one-some : (m x : ℕ) → m ≡ 1 → one m x ≡ x ∷ []
unfolding one
one-some m x h = simp (eq-eqb m 1 h)

-- it is not
one_none : (m x : ℕ) → (m ≡ 1 → ⊥) → one m x ≡ []
unfolding one
one_none m x h = simp (ne_eqb m 1 h)

-- slots up to i are moved: out has those that are marked, n of them
pub record Moved (N : ℕ) (ms xs out : List ℕ) (n i : ℕ) : Type 0 where
  pub long : length ms ≡ N
  pub wide : length xs ≡ N
  pub upto : i ≤ N
  pub few : n ≤ i
  pub count : length (marked (take i ms) (take i xs)) ≡ n
  pub moved : out ≡ filled N (marked (take i ms) (take i xs))

-- before the first slot
pub moved-start : (N : ℕ) (ms xs : List ℕ) → length ms ≡ N → length xs ≡ N → Moved N ms xs (replicate N 0) 0 0
unfolding marked
moved-start N ms xs h g = record { long = h; wide = g; upto = omega arith; few = omega arith; count = refl; moved = filled_none N }

module _ (N : ℕ) (ms xs out : List ℕ) (n i : ℕ) (b : Moved N ms xs out n i) (h : i < N) where
  -- one slot more, that is marked
  pub moved-some : get_or ms i 0 ≡ 1 → Moved N ms xs (set out n (get_or xs i 0)) (n + 1) (i + 1)
  moved-some z = record {
    long = b.long;
    wide = b.wide;
    upto = omega arith;
    few = omega (arith, b.few);
    count = ap length next ∙ simp length-append (omega (arith, b.count));
    moved = ap (λ (l : List ℕ). set l n (get_or xs i 0)) b.moved
        ∙ ap (λ (k : ℕ). set (filled N kept) k (get_or xs i 0)) (sym b.count)
        ∙ filled_more N kept (get_or xs i 0) (omega (arith, b.count, b.few))
        ∙ ap (filled N) (sym next);
  }
    where
      kept : List ℕ
      kept = marked (take i ms) (take i xs)

      next : marked (take (i + 1) ms) (take (i + 1) xs) ≡ kept ++ (get_or xs i 0 ∷ [])
      next = rw add-one (marked_more i ms xs (omega (arith, b.long)) (omega (arith, b.wide)) ∙ ap (λ (l : List ℕ). kept ++ l) (one-some (get_or ms i 0) (get_or xs i 0) z))

  -- one that is not
  pub moved_none : (get_or ms i 0 ≡ 1 → ⊥) → Moved N ms xs out n (i + 1)
  moved_none z = record {
    long = b.long;
    wide = b.wide;
    upto = omega arith;
    few = omega (arith, b.few);
    count = ap length next ∙ b.count;
    moved = b.moved ∙ ap (filled N) (sym next);
  }
    where
      next : marked (take (i + 1) ms) (take (i + 1) xs) ≡ marked (take i ms) (take i xs)
      next = rw add-one (marked_more i ms xs (omega (arith, b.long)) (omega (arith, b.wide)) ∙ ap (λ (l : List ℕ). marked (take i ms) (take i xs) ++ l) (one_none (get_or ms i 0) (get_or xs i 0) z) ∙ append-nil (marked (take i ms) (take i xs)))

-- all slots are moved
pub moved-end : (N : ℕ) (ms xs out : List ℕ) (n i : ℕ) → Moved N ms xs out n i → N ≤ i → out ≡ filled N (marked ms xs)
moved-end N ms xs out n i b h =
    let at : i ≡ N = omega (arith, b.upto) in
    b.moved ∙ ap (λ (k : ℕ). filled N (marked (take k ms) (take k xs))) at ∙ ap (λ (l : List ℕ). filled N (marked l (take N xs))) (take_all N ms (omega (arith, b.long))) ∙ ap (λ (l : List ℕ). filled N (marked ms l)) (take_all N xs (omega (arith, b.wide)))

-- what is gathered from a session's rows
pub gathered-pair : (xs ms : List ℕ) → paired xs ms ≡ true → gathered_row xs ms ≡ filled slot_count (marked ms xs)
unfolding gathered_row
gathered-pair xs ms h = rw h

-- from other rows nothing is
pub gathered-other : (xs ms : List ℕ) → paired xs ms ≡ false → gathered_row xs ms ≡ replicate slot_count 0
unfolding gathered_row
gathered-other xs ms h = rw h (sym (filled_none slot_count))
