-- Extents laid into a stack, and the stack that they make.
use mathlib.Core.Path.{◌≡◌, refl, sym, ap, ◌∙◌}
use Prim.Native.Nat.{ℕ, ◌+◌, ◌-◌, ◌≤◌, ◌<◌, min}
use native.Mathlib.Omega.{arith}
use mathlib.Core.List.{List, [], ◌++◌, append_assoc, append-nil}
use lib.Dec.{leb}
use lib.ListN.{length, take, drop, get_or, replicate, length-append, length-take, length-drop, length-replicate, drop_of_length-le, get_or-eq_default, get_or-append}
use lib.Seq.{get_or-append-add, get_or-drop, take_all, take_at, drop-drop, drop-append-add, take-append-le}
use borrow.Author.Tests.{leb-true, leb-false}
use Rattle.std.proofs.lemmas.List.{take_min, drop_min}
use Rattle.reuse.specs.Limits.{max_extents}
use Rattle.reuse_rows.specs.Rows.{put_at, padded}
use Rattle.reuse.proofs.Lists.{by-test}
use Rattle.reuse.proofs.Sums.{get_or-blank-row}

-- the first of the words, as many as fit, laid over a row of zeros
pub laid-over : (w : List ℕ) (n : ℕ) → n ≡ min (length w) max_extents → take n w ++ drop n (replicate max_extents 0) ≡ padded w
unfolding padded
laid-over w n h =
    let z : List ℕ = replicate max_extents 0 in
    let t : take n w ≡ take max_extents w = ap (λ (k : ℕ). take k w) (omega arith) ∙ take_min max_extents w in
    let m : n ≡ min (length w) (length z) = omega (arith, length-replicate {A = ℕ} max_extents 0) in
    let d : drop n z ≡ drop (length w) z = ap (λ (k : ℕ). drop k z) m ∙ drop_min (length w) z in
    rw (t, d)

-- laid over a longer row, the extents stand on top
laid-front : (e z : List ℕ) → length e ≤ length z → take (length e) (take (length z) e ++ drop (length e) z) ≡ e
laid-front e z l = rw (take_all (length z) e l) (take_at e (drop (length e) z) (length e) refl)

-- and the row keeps its length
laid-length : (e z : List ℕ) → length e ≤ length z → length (take (length z) e ++ drop (length e) z) ≡ length z
laid-length e z l = rw (take_all (length z) e l) (simp (length-append, length-drop) (omega arith))

-- a stack of no more extents than the limit
module _ (e : List ℕ) (few : length e ≤ max_extents) where
  -- the extents stand on top
  pub padded-front : take (length e) (padded e) ≡ e
  unfolding padded
  padded-front = laid-front e (replicate max_extents 0) few

  -- the whole has as many words as the limit
  pub padded-length : length (padded e) ≡ max_extents
  unfolding padded
  padded-length = laid-length e (replicate max_extents 0) few

  -- the words after them are 0
  pub padded-word : (i : ℕ) → get_or (padded e) i 0 ≡ get_or e i 0
  unfolding padded
  padded-word i =
      rw (take_all max_extents e few)
      (by-test (leb (length e) i)
      (λ q.
      let l : length e ≤ i = leb-true (length e) i q in
      let n : length e + (i - length e) ≡ i = omega arith in
      rw⁻¹ n (get_or-append-add e (drop (length e) (replicate max_extents 0)) (i - length e) 0
      ∙ get_or-drop (length e) (replicate max_extents 0) (i - length e) 0 ∙ get_or-blank-row max_extents (length e + (i - length e)))
      ∙ sym (get_or-eq_default e 0 {n = i} l))
      (λ q. get_or-append e (drop (length e) (replicate max_extents 0)) 0 i (leb-false (length e) i q)))

-- as many words as the limit, whatever they are
pub padded-wide : (e : List ℕ) → length (padded e) ≡ max_extents
unfolding padded
padded-wide e = simp (length-append, length-take, length-drop, length-replicate) (omega arith)

-- the words and what is left of a row of zeros, cut at the limit
padded-cut : (l : List ℕ) → take max_extents (l ++ drop (length l) (replicate max_extents 0)) ≡ padded l
unfolding padded
padded-cut l = by-test (leb (length l) max_extents)
    (λ q.
    let k : length l ≤ max_extents = leb-true (length l) max_extents q in
    rw (take_all max_extents l k) (take_all max_extents (l ++ drop (length l) (replicate max_extents 0)) (simp (length-append, length-drop, length-replicate) (omega arith))))
    (λ q.
    let k : max_extents < length l = leb-false (length l) max_extents q in
    take-append-le max_extents l (drop (length l) (replicate max_extents 0)) (omega arith)
    ∙ sym (append-nil (take max_extents l)) ∙ ap (λ (z : List ℕ). take max_extents l ++ z) (sym (none_left l (omega arith))))
  where
    -- a longer row leaves no zeros
    none_left : (l : List ℕ) → max_extents ≤ length l → drop {A = ℕ} (length l) (replicate max_extents 0) ≡ []
    none_left l k = drop_of_length-le (replicate {A = ℕ} max_extents 0) {i = length l} (simp length-replicate (omega arith))

-- fewer words than the limit come first
pub short : (s : List ℕ) → length s ≤ max_extents → padded s ≡ s ++ drop (length s) (replicate max_extents 0)
unfolding padded
short s k = rw (take_all max_extents s k)

-- more words put after them, as many as fit
pub padded-more : (s t : List ℕ) → take max_extents (put_at (padded s) (length s) t) ≡ padded (s ++ t)
unfolding put_at
padded-more s t = by-test (leb (length s) max_extents)
    (λ q.
    let k : length s ≤ max_extents = leb-true (length s) max_extents q in
    let e : padded s ≡ s ++ drop (length s) (replicate max_extents 0) = short s k in
    let d : drop (length s + length t) (s ++ drop (length s) (replicate max_extents 0)) ≡ drop (length (s ++ t)) (replicate max_extents 0) =
    drop-append-add s (drop (length s) (replicate max_extents 0)) (length t) ∙ drop-drop (length t) (length s) (replicate max_extents 0)
    ∙ ap (λ (n : ℕ). drop n (replicate max_extents 0)) (sym (length-append s t)) in
    rw (e, take_at s (drop (length s) (replicate max_extents 0)) (length s) refl, d) (ap (take max_extents) (sym (append_assoc s t _)) ∙ padded-cut (s ++ t)))
    (λ q.
    let k : max_extents < length s = leb-false (length s) max_extents q in
    let w : length (padded s) ≡ max_extents = padded-wide s in
    let e : take (length s) (padded s) ≡ padded s = take_all (length s) (padded s) (omega arith) in
    rw e (take_at (padded s) (t ++ drop (length s + length t) (padded s)) max_extents w
    ∙ sym (padded-cut s) ∙ take-append-le max_extents s _ (omega arith)
    ∙ sym (take-append-le max_extents s t (omega arith))
    ∙ sym (take-append-le max_extents (s ++ t) _ (omega (arith, length-append s t))) ∙ padded-cut (s ++ t)))
