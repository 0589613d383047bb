-- The first in the full list of misses is the smallest of all sizes that suffice.
use mathlib.Core.Path.{◌≡◌, ap, ◌∙◌}
use Prim.Native.Nat.{ℕ, zero, suc, ◌≤◌, ◌<◌}
use native.Mathlib.Nat.{zero-add}
use native.Mathlib.Omega.{arith}
use mathlib.Core.List.{List, [], ◌∷◌}
use lib.Dec.{leb}
use lib.ListN.{length, get_or, length-map}
use borrow.Author.Tests.{leb-true, leb-false}
use Rattle.reuse.specs.Lists.{from}
use Rattle.reuse.specs.Summary.{extents_of, misses_of}
use Rattle.reuse.proofs.Lists.{by-test}
use Rattle.reuse.proofs.Counts.{length_from, map-from-at}
use Rattle.reuse.proofs.Misses.{misses-fall, misses-cold, misses-all}
use Rattle.allowance_calls.specs.Smallest.{misses_list, first_within, smallest, SmallestOfAll}

-- every number before the first that is at most m is more
before-first : (m : ℕ) (ns : List ℕ) (c : ℕ) → c < first_within m ns → m < get_or ns c 0
unfolding first_within
before-first m [] c h = absurd (omega arith)
before-first m (n ∷ ns) zero h = by-test (leb n m) (λ t. absurd (let g : 0 < 0 = rw t at h in omega arith)) (λ t. leb-false n m t)
before-first m (n ∷ ns) (suc c) h =
    by-test (leb n m)
    (λ t. absurd (let g : suc c < 0 = rw t at h in omega arith))
    (λ t. let g : suc c < suc (first_within m ns) = rw t at h in before-first m ns c (omega arith))

-- r is no later a place of the list than c, and the number there is at most m
record Reached (m : ℕ) (ns : List ℕ) (c r : ℕ) : Type 0 where
  early : r ≤ c
  enough : get_or ns r 0 ≤ m

-- where the number at c is at most m, so is the first such one
first-reached : (m : ℕ) (ns : List ℕ) (c : ℕ) → c < length ns → get_or ns c 0 ≤ m → Reached m ns c (first_within m ns)
unfolding first_within
first-reached m [] c l e = absurd (omega arith)
first-reached m (n ∷ ns) zero l e =
    by-test (leb n m)
    (λ t. rw t (record { early = omega arith; enough = e }))
    (λ t. absurd (omega (arith, leb-false n m t)))
first-reached m (n ∷ ns) (suc c) l e =
    by-test (leb n m)
    (λ t. rw t (record { early = omega arith; enough = leb-true n m t }))
    (λ t. let r : Reached m ns c (first_within m ns) = first-reached m ns c (omega arith) e in
    rw t (record { early = omega (arith, r.early); enough = r.enough }))

module _ (w : List ℕ) where
  -- the full list has a place for each size to v
  list_length : length (misses_list w) ≡ suc (extents_of w)
  unfolding misses_list
  list_length = length-map (from 0 (suc (extents_of w))) (misses_of w) ∙ length_from 0 (suc (extents_of w))

  -- with the misses of that size
  list_at : (c : ℕ) → c ≤ extents_of w → get_or (misses_list w) c 0 ≡ misses_of w c
  unfolding misses_list
  list_at c h = map-from-at (misses_of w) 0 (suc (extents_of w)) c (omega arith) ∙ ap (misses_of w) (zero-add c)

  module _ (m : ℕ) where
    -- for an allowance of at least the cold reads some size to v suffices
    reached : extents_of w ≤ m → Reached m (misses_list w) (extents_of w) (smallest w m)
    unfolding smallest
    reached h =
        first-reached m (misses_list w) (extents_of w) (omega (arith, list_length))
        (omega (arith, list_at (extents_of w) (omega arith), misses-all w))

    -- the first is one of the list
    pub smallest-listed : extents_of w ≤ m → smallest w m ≤ extents_of w
    smallest-listed h = (reached h).early

    -- a smaller size has more misses
    smaller-more : extents_of w ≤ m → (c : ℕ) → c < smallest w m → m < misses_of w c
    unfolding smallest
    smaller-more h c l = omega (arith, before-first m (misses_list w) c l, list_at c (omega (arith, smallest-listed h)))

    -- the first is the smallest of all sizes, of those above v too
    pub smallest-of-all : extents_of w ≤ m → SmallestOfAll (misses_of w) m (smallest w m)
    smallest-of-all h c = (
      λ e. by-test (leb (smallest w m) c)
          (λ t. leb-true (smallest w m) c t)
          (λ t. absurd (omega (arith, smaller-more h c (leb-false (smallest w m) c t)))),
      λ l. omega (arith, misses-fall w (smallest w m) c l, list_at (smallest w m) (smallest-listed h), (reached h).enough),
    )

    -- below the cold reads no size whatever suffices
    pub below-cold : m < extents_of w → (c : ℕ) → m < misses_of w c
    below-cold h c = omega (arith, misses-cold w c)

    -- and only there
    pub cold-below : ((c : ℕ) → m < misses_of w c) → m < extents_of w
    cold-below h = omega (arith, h (extents_of w), misses-all w)
