-- Reads taken through the engine, each distance counted: a turn by each answer.
use mathlib.Core.Path.{◌≡◌, refl, sym, ◌∙◌}
use Prim.Native.Nat.{ℕ, suc, ◌+◌, ◌-◌, ◌≤◌, ◌<◌, ◌^◌}
use native.Mathlib.Omega.{arith}
use mathlib.Core.List.{List, foldl}
use mathlib.Core.Bool.{true}
use lib.Dec.{eqb}
use lib.ListN.{length, take, get_or, set, length-set, length-take}
use lib.Seq.{take_all, get_or-set_same, get_or-set_other}
use borrow.Author.Tests.{eqb-true, eqb-false}
use Rattle.reuse_engine.specs.declared.Place.{Place}
use Rattle.reuse_engine.specs.declared.Place.TheVariants.{Cold, Depth, Full, BadCount}
use Rattle.reuse.specs.Lists.{count, distinct}
use Rattle.reuse.specs.Lru.{cold, at, depth, touch, reuses, is_at, count_at}
use Rattle.reuse_engine.specs.Engine.{place_of, left_by}
use Rattle.reuse.proofs.Lists.{by-test}
use Rattle.reuse.proofs.Stack.{length-reuses}
use Rattle.reuse.proofs.Counts.{count-le, count-snoc}
use Rattle.reuse_engine.proofs.Engine.{place-depth, place-range, place-cold}
use Rattle.reuse_engine.proofs.Runs.{Running, run-start, run-full, run-bad, held_fits, next-answers, turn-cold, turn-known}
use Rattle.reuse_engine.specs.Counting.{Counted}

-- the first i reads are taken, and their distances counted
pub record Crossing (stack : List ℕ) (n : ℕ) (reads hist row counts : List ℕ) (held i : ℕ) : Type 0 where
  pub wide : length hist ≡ length stack
  pub small : (j : ℕ) → get_or hist j 0 + length reads < 2 ^ 32
  pub run : Running stack n reads row held i
  pub counted : Counted hist (reuses (take n stack) (take i reads)) counts

module _ (stack : List ℕ) (n : ℕ) (reads hist : List ℕ) where
  -- none is taken
  pub cross-start : n ≤ length stack → distinct (take n stack) ≡ true → length hist ≡ length stack → ((j : ℕ) → get_or hist j 0 + length reads < 2 ^ 32)
      → Crossing stack n reads hist stack hist n 0
  unfolding reuses count_at count
  cross-start f u w s = record {
    wide = w;
    small = s;
    run = run-start stack n reads f u;
    counted = record { size = refl; each = λ i l. omega arith };
  }

  module _ (row counts : List ℕ) (held i : ℕ) (h : Crossing stack n reads hist row counts held i) (l : i < length reads) where
    -- no distance is counted more often than reads were taken
    counted-le : (d : ℕ) → count_at (reuses (take n stack) (take i reads)) d ≤ i
    unfolding count_at
    counted-le d =
        omega (arith, count-le (is_at d) (reuses (take n stack) (take i reads)), length-reuses (take n stack) (take i reads), length-take i reads)

    -- the engine finds room
    pub not_full : length (foldl touch (take n stack) reads) ≤ length stack → place_of row held (get_or reads i 0) ≡ Full → ⊥
    not_full m p = omega (arith, run-full stack n reads row held i h.run l p)

    -- and a fit count
    pub not-bad : place_of row held (get_or reads i 0) ≡ BadCount → ⊥
    not-bad = run-bad stack n reads row held i h.run l

    -- what is held is within the stack
    pub held-within : held ≤ length stack
    held-within = omega (arith, held_fits stack n reads row held i h.run, h.run.long)

    -- a cold read counts for no distance
    counted-cold : place_of row held (get_or reads i 0) ≡ Cold → Counted hist (reuses (take n stack) (take (i + 1) reads)) counts
    counted-cold p =
        let e : depth (take held row) (get_or reads i 0) ≡ cold (suc held) = place-cold row held (get_or reads i 0) (held_fits stack n reads row held i h.run) p in
        record {
          size = h.counted.size;
          each = λ j k. rw (next-answers stack n reads row held i h.run l, e, count-snoc (reuses (take n stack) (take i reads)) (cold (suc held)) (suc j)) (h.counted.each j k);
        }

    -- a read at a distance: its place among the counts
    module _ (d : ℕ) (p : place_of row held (get_or reads i 0) ≡ Depth d) where
      -- it is one of the places held
      range : (1 ≤ d) × (d ≤ held)
      range = place-range row held (get_or reads i 0) (held_fits stack n reads row held i h.run) d p

      -- it is at least 1
      pub count-from : 1 ≤ d
      count-from = range.0

      -- its count is one of the row
      pub count-place : d - 1 < length counts
      count-place = omega (arith, range.0, range.1, h.counted.size, h.wide, held-within)

      -- and its count, which fits
      pub count_fits : get_or counts (d - 1) 0 + 1 < 2 ^ 32
      count_fits =
          omega (
            arith,
            h.counted.each (d - 1) (omega (arith, count-place, h.counted.size)),
            h.small (d - 1),
            counted-le (suc (d - 1)),
            l,
          )

      -- and is one more with this read
      last-count : get_or counts (d - 1) 0 + 1 ≡ get_or hist (d - 1) 0 + suc (count_at (reuses (take n stack) (take i reads)) (suc (d - 1)))
      last-count = omega (arith, h.counted.each (d - 1) (omega (arith, count-place, h.counted.size)))

      -- the counts with this read
      counted-known : Counted hist (reuses (take n stack) (take (i + 1) reads)) (set counts (d - 1) (get_or counts (d - 1) 0 + 1))
      counted-known =
          let e : depth (take held row) (get_or reads i 0) ≡ at d = place-depth row held (get_or reads i 0) (held_fits stack n reads row held i h.run) d p in
          record {
            size = simp length-set h.counted.size;
            each = λ j k. rw (next-answers stack n reads row held i h.run l, e, count-snoc (reuses (take n stack) (take i reads)) (at d) (suc j))
                (by-test (eqb (suc j) d)
                (λ q. let r : j ≡ d - 1 = omega (arith, eqb-true (suc j) d q) in
                simp q (rw r (get_or-set_same counts (d - 1) (get_or counts (d - 1) 0 + 1) 0 count-place ∙ last-count)))
                (λ q. let r : j ≡ d - 1 → ⊥ = λ w. eqb-false (suc j) d q (omega (arith, range.0)) in
                simp q (get_or-set_other counts (d - 1) j (get_or counts (d - 1) 0 + 1) 0 r ∙ h.counted.each j k)));
          }

    -- the turn as the code makes it, by the engine's answer r and the words that it left
    module _ (r : Place) (left others : List ℕ) (held' : ℕ) (p : r ≡ place_of row held (get_or reads i 0)) (q : left ≡ left_by r held (get_or reads i 0) row) where
      -- a cold read
      pub cross-cold : r ≡ Cold → others ≡ counts → held' ≡ held + 1 → Crossing stack n reads hist left others held' (i + 1)
      cross-cold e f g = rw (f, g) (record { wide = h.wide; small = h.small; run = turn-cold stack n reads row held i h.run l r left p q e; counted = counted-cold (sym p ∙ e) })

      -- a read at a distance
      pub cross-known : (d : ℕ) → r ≡ Depth d → others ≡ set counts (d - 1) (get_or counts (d - 1) 0 + 1) → held' ≡ held
          → Crossing stack n reads hist left others held' (i + 1)
      cross-known d e f g = rw (f, g) (record { wide = h.wide; small = h.small; run = turn-known stack n reads row held i h.run l r left p q d e; counted = counted-known d (sym p ∙ e) })

  -- all are taken
  pub cross-end : (row counts : List ℕ) (held i : ℕ) → Crossing stack n reads hist row counts held i → length reads ≤ i → Counted hist (reuses (take n stack) reads) counts
  cross-end row counts held i h l = rw (take_all i reads l) at h.counted
