-- What one more read does to the misses of a trace.
use mathlib.Core.Path.{◌≡◌, refl, ap, ap₂, ◌∙◌}
use mathlib.Core.Logic.{◌⊎◌, inl, inr, ⊎_elim}
use mathlib.Core.Bool.{true, false, cond}
use lib.Dec.{eqb}
use Prim.Native.Nat.{ℕ, suc, ◌+◌, ◌≤◌, ◌<◌}
use native.Mathlib.Omega.{arith}
use mathlib.Core.List.{List, [], ◌∷◌, append_assoc}
use lib.IntN.{pos, ◌-ℤ◌, +ℤ_invr}
use lib.Signed.{◌≤ℤ◌}
use lib.ListN.{length, take, drop, get_or}
use lib.Seq.{take-suc, drop-cons}
use borrow.Author.Tests.{eqb-true, le-leb, lt-leb}
use Rattle.reuse.specs.Lists.{mem, remove, before, distinct, firsts}
use Rattle.reuse.specs.Lru.{depth, touch, stack, reuses, misses_at}
use Rattle.reuse.specs.Cache.{cache_misses, servable}
use Rattle.reuse.proofs.Lists.{by-test, eqb_same, mem-remove, remove_absent}
use Rattle.reuse.proofs.Distinct.{distinct_head}
use Rattle.reuse.proofs.Depth.{depth-present, depth-absent}
use Rattle.reuse.proofs.Stack.{distinct_stack, length-reuses}
use Rattle.reuse.proofs.Misses.{cache-misses, cache-hits, within-misses}
use Rattle.reuse.proofs.Newcomers.{cold-count}
use Rattle.reuse.proofs.Servable.{cache-all}
use Rattle.insertion_calls.specs.Insertion.{put, change_of, Bounded}
use Rattle.insertion_calls.specs.Misses.{miss_of, misses_from, misses_with}
use Rattle.insertion_calls.proofs.Steps.{misses-step, miss-one, misses-zero, misses-cut, misses-put}
use Rattle.insertion_calls.proofs.Moved.{moved-least, moved-most}
use Rattle.insertion_calls.proofs.Integers.{gap_is, gap_same, gap-least, gap-most, gap-from-zero}
use Rattle.insertion_calls.proofs.Puts.{length-put, extents-put}

-- a read of x put in at a place of a trace, which may be of any length; a place past its end is its end
module _ (c p x : ℕ) (t : List ℕ) where
  -- the change is that of the misses of the cache itself
  pub change-cache : change_of c p x t ≡ pos (cache_misses c (put p x t)) -ℤ pos (cache_misses c t)
  unfolding change_of
  change-cache = rw (cache-misses c (put p x t), cache-misses c t)

  -- it spares at most one miss
  put-least : misses_from c [] t ≤ misses_from c [] (put p x t) + 1
  unfolding misses_with touch
  put-least =
      omega (
        arith,
        misses-cut c p t,
        misses-put c p t x,
        moved-least c x [] (stack (take p t)) (drop p t) (distinct_stack (take p t)),
      )

  -- it adds at most as many as the size, and its own
  put-most : misses_from c [] (put p x t) ≤ misses_from c [] t + (c + 1)
  unfolding misses_with touch distinct
  put-most =
      omega (
        arith,
        misses-cut c p t,
        misses-put c p t x,
        miss-one c (stack (take p t)) x,
        moved-most c x [] (stack (take p t)) (drop p t) refl,
      )

  -- the change is from −1 to c + 1
  pub change-bounded : Bounded c (change_of c p x t)
  unfolding change_of misses_from
  change-bounded =
      record {
        least = gap-least (misses_from c [] (put p x t)) (misses_from c [] t) put-least;
        most = gap-most (misses_from c [] (put p x t)) (misses_from c [] t) (c + 1) put-most;
      }

  -- the change from the stack after the reads before the place: the misses of x and then the rest, less those of the rest alone
  pub change-rest : let s : List ℕ = stack (take p t) in
      change_of c p x t ≡ pos (misses_with c s x (drop p t)) -ℤ pos (misses_from c s (drop p t))
  unfolding change_of misses_from
  change-rest =
      let s : List ℕ = stack (take p t) in
      ap₂ (λ (a b : ℕ). pos a -ℤ pos b) (misses-put c p t x) (misses-cut c p t)
      ∙ gap_same (misses_from c [] (take p t)) (misses_with c s x (drop p t)) (misses_from c s (drop p t))

  -- a read that misses itself spares none
  miss-spares-none : miss_of c (stack (take p t)) x ≡ 1 → pos 0 ≤ℤ change_of c p x t
  unfolding misses_with touch
  miss-spares-none m =
      rw (change-rest) (gap-from-zero (misses_with c (stack (take p t)) x (drop p t)) (misses_from c (stack (take p t)) (drop p t))
      (omega (arith, moved-least c x [] (stack (take p t)) (drop p t) (distinct_stack (take p t)))))

-- at size 1 a read of x hits only where x was read last, and then leaves the stack as it is
hit-on-top : (s : List ℕ) (x : ℕ) → distinct s ≡ true → (miss_of 1 s x ≡ 1) ⊎ ((miss_of 1 s x ≡ 0) × (touch s x ≡ s))
unfolding miss_of depth touch remove
hit-on-top [] x d = inl refl
hit-on-top (y ∷ s) x d =
    by-test (eqb x y)
    (λ e. let m : mem x s ≡ false = rw (eqb-true x y e) (distinct_head y s d) in
    inr (simp e, rw (e, eqb-true x y e) (ap {B = List ℕ} (λ l. y ∷ l) (remove_absent x s m))))
    (λ e. inl (by-test (mem x s)
    (λ m. simp (e, depth-present x s m, lt-leb (suc (suc (length (before x s)))) 1 (omega arith)))
    (λ m. simp (e, depth-absent x s m))))

-- at size 1 no read spares a miss
pub change-one : (p x : ℕ) (t : List ℕ) → pos 0 ≤ℤ change_of 1 p x t
unfolding misses_with
change-one p x t =
    let s : List ℕ = stack (take p t) in
    ⊎_elim (miss-spares-none 1 p x t)
    (λ h. rw (change-rest 1 p x t, h.0, h.1) (gap-from-zero (0 + misses_from 1 s (drop p t)) (misses_from 1 s (drop p t)) (omega arith)))
    (hit-on-top s x (distinct_stack (take p t)))

-- at size 0 the change is +1
pub change-zero : (p x : ℕ) (t : List ℕ) → change_of 0 p x t ≡ pos 1
unfolding change_of misses_from
change-zero p x t =
    gap_is (misses_from 0 [] (put p x t)) (misses_from 0 [] t) 1 (omega (arith, misses-zero [] (put p x t), misses-zero [] t, length-put p x t))

-- a cache with room for all extents has the cold reads as its misses, one for each extent
misses-all : (c : ℕ) (t : List ℕ) → length (firsts t) ≤ c → misses_from c [] t ≡ length (firsts t)
unfolding misses_from misses_at servable
misses-all c t l =
    omega (
      arith,
      within-misses c (reuses [] t),
      length-reuses [] t,
      cache-hits c t,
      cache-all c t l,
      cold-count t,
    )

-- so the change is 1 for an extent that the trace has not, else 0
pub change-all : (c p x : ℕ) (t : List ℕ) → length (firsts (put p x t)) ≤ c → change_of c p x t ≡ pos (cond (mem x t) 0 1)
unfolding change_of misses_from
change-all c p x t l =
    let n : length (firsts (put p x t)) ≡ cond (mem x t) 0 1 + length (firsts t) = extents-put p x t in
    gap_is (misses_from c [] (put p x t)) (misses_from c [] t) (cond (mem x t) 0 1)
    (omega (arith, misses-all c (put p x t) l, misses-all c t (omega arith)))

-- a read of the extent just read hits at every size from 1 up, and leaves the stack as it is
read_again : (c : ℕ) (s : List ℕ) (x : ℕ) (t : List ℕ) → 1 ≤ c → misses_from c (touch s x) (x ∷ t) ≡ misses_from c (touch s x) t
unfolding misses_with miss_of touch remove depth
read_again c s x t h =
    misses-step c (touch s x) x t
    ∙ simp (eqb_same, le-leb 1 c h, remove_absent x (remove x s) (simp (mem-remove, eqb_same))) (omega arith)

-- a read of x put in beside the read of x that stands at the place p
module _ (c p x : ℕ) (t : List ℕ) (stands : p < length t) (same : get_or t p 0 ≡ x) (some : 1 ≤ c) where
  -- the reads from the place on
  rest : drop p t ≡ x ∷ drop (suc p) t
  rest = drop-cons t p 0 stands ∙ rw same

  -- directly before it: no change
  pub change-before : change_of c p x t ≡ pos 0
  unfolding misses_with
  change-before =
      let s : List ℕ = stack (take p t) in
      change-rest c p x t
      ∙ rw (rest, misses-step c s x (drop (suc p) t), read_again c s x (drop (suc p) t) some)
      (+ℤ_invr (pos (misses_with c s x (drop (suc p) t))))

  -- directly after it, the longer trace is the same
  put-after : put (suc p) x t ≡ put p x t
  unfolding put
  put-after = rw (take-suc t p 0 stands, same, append_assoc (take p t) (x ∷ []) (x ∷ drop (suc p) t), rest)

  -- directly after it: no change
  pub change-after : change_of c (suc p) x t ≡ pos 0
  unfolding change_of misses_from
  change-after = rw put-after change-before
