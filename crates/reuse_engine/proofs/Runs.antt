-- A trace read through the engine: the stack in the slice after each read.
use mathlib.Core.Path.{◌≡◌, refl, sym, ap, ◌∙◌}
use Prim.Native.Nat.{ℕ, suc, ◌+◌, ◌≤◌, ◌<◌}
use native.Mathlib.Omega.{arith}
use native.Mathlib.Numerals.{add-one}
use mathlib.Core.List.{List, [], ◌∷◌, ◌++◌, foldl, foldl-append}
use mathlib.Core.Bool.{true, false}
use lib.ListN.{length, take, drop, get_or, length-take, take-append-drop}
use lib.Seq.{take-suc, take_all, length-take-le}
use Rattle.reuse_engine.specs.declared.Place.{Place}
use Rattle.reuse_engine.specs.declared.Place.TheVariants.{Cold, Depth, Full, BadCount}
use Rattle.reuse.specs.Lists.{mem, distinct}
use Rattle.reuse.specs.Lru.{depth, touch, reuses}
use Rattle.reuse_engine.specs.Engine.{place_of, lifted, left_by}
use Rattle.reuse.proofs.Stack.{reuses-append, distinct_from, length-new}
use Rattle.reuse.proofs.Newcomers.{stack-grows}
use Rattle.reuse_engine.proofs.Engine.{place-new, place-full, place-counts, touched-known, touched-new}

-- the first i reads were taken after the stack in the first n words; `held` words of the row are the stack now
pub record Running (stack : List ℕ) (n : ℕ) (reads row : List ℕ) (held i : ℕ) : Type 0 where
  pub fits : n ≤ length stack
  pub once : distinct (take n stack) ≡ true
  pub within : i ≤ length reads
  pub long : length row ≡ length stack
  pub size : held ≡ length (foldl touch (take n stack) (take i reads))
  pub front : take held row ≡ foldl touch (take n stack) (take i reads)

module _ (stack : List ℕ) (n : ℕ) (reads : List ℕ) where
  -- none is taken
  pub run-start : n ≤ length stack → distinct (take n stack) ≡ true → Running stack n reads stack n 0
  run-start f u = record {
    fits = f;
    once = u;
    within = omega arith;
    long = refl;
    size = sym (length-take-le n stack f);
    front = refl;
  }

  module _ (row : List ℕ) (held i : ℕ) (h : Running stack n reads row held i) where
    -- the stack is within the row
    pub held_fits : held ≤ length row
    held_fits =
        let e : length (take held row) ≡ held = ap length h.front ∙ sym h.size in
        omega (arith, length-take held row, e)

    -- the stack after some of the reads is no longer than after all
    grown : (k : ℕ) → length (foldl touch (take n stack) (take k reads)) ≤ length (foldl touch (take n stack) reads)
    grown k =
        let t : List ℕ = take k reads in
        let e : foldl touch (take n stack) reads ≡ foldl touch (foldl touch (take n stack) t) (drop k reads) =
        ap (foldl touch (take n stack)) (sym (take-append-drop k reads)) ∙ foldl-append touch (take n stack) t (drop k reads) in
        let d : distinct (foldl touch (take n stack) t) ≡ true = distinct_from (take n stack) t h.once in
        omega (arith, stack-grows (foldl touch (take n stack) t) (drop k reads) d, ap length e)

    -- all are taken
    pub run_end : length reads ≤ i → held ≡ length (foldl touch (take n stack) reads)
    run_end l = rw (take_all i reads l) at h.size

    module _ (l : i < length reads) where
      -- the stack has no extent twice
      held-once : distinct (take held row) ≡ true
      held-once = rw h.front (distinct_from (take n stack) (take i reads) h.once)

      -- the stack after the next read
      next-stack : foldl touch (take n stack) (take (i + 1) reads) ≡ touch (take held row) (get_or reads i 0)
      next-stack = rw (add-one i, take-suc reads i 0 l, foldl-append touch (take n stack) (take i reads) (get_or reads i 0 ∷ []), h.front)

      -- the answers with it
      pub next-answers : reuses (take n stack) (take (i + 1) reads) ≡ reuses (take n stack) (take i reads) ++ (depth (take held row) (get_or reads i 0) ∷ [])
      unfolding reuses
      next-answers = rw (add-one i, take-suc reads i 0 l, reuses-append (take n stack) (take i reads) (get_or reads i 0 ∷ []), h.front)

      -- a new extent makes the stack one longer
      new-size : mem (get_or reads i 0) (take held row) ≡ false → length (foldl touch (take n stack) (take (i + 1) reads)) ≡ suc held
      new-size e = ap length next-stack ∙ length-new (take held row) (get_or reads i 0) e ∙ ap suc (length-take-le held row held_fits)

      -- a cold read
      pub run-cold : place_of row held (get_or reads i 0) ≡ Cold → Running stack n reads (lifted (suc held) (get_or reads i 0) row) (held + 1) (i + 1)
      run-cold p =
          let t = touched-new row held (get_or reads i 0) held_fits p in
          record {
            fits = h.fits;
            once = h.once;
            within = omega arith;
            long = t.size ∙ h.long;
            size = omega (arith, new-size (place-new row held (get_or reads i 0) held_fits p));
            front = rw (add-one held) (t.front ∙ sym next-stack);
          }

      -- a read at the distance d
      pub run-known : (d : ℕ) → place_of row held (get_or reads i 0) ≡ Depth d → Running stack n reads (lifted d (get_or reads i 0) row) held (i + 1)
      run-known d p =
          let t = touched-known row held (get_or reads i 0) held_fits d p held-once in
          record {
            fits = h.fits;
            once = h.once;
            within = omega arith;
            long = t.size ∙ h.long;
            size = omega (arith, ap length next-stack, ap length t.front, length-take-le held (lifted d (get_or reads i 0) row) (omega (arith, t.size, held_fits)));
            front = t.front ∙ sym next-stack;
          }

      -- there is no room: the stack after all reads would be longer than the slice
      pub run-full : place_of row held (get_or reads i 0) ≡ Full → length stack < length (foldl touch (take n stack) reads)
      run-full p =
          let f = place-full row held (get_or reads i 0) held_fits p in
          omega (arith, f.0, new-size f.1, grown (i + 1), h.long)

      -- the count is never above the slice's length
      pub run-bad : place_of row held (get_or reads i 0) ≡ BadCount → ⊥
      run-bad = place-counts row held (get_or reads i 0) held_fits

      -- the turn as the code makes it, by the engine's answer and the words that it left
      module _ (r : Place) (left : List ℕ) (p : r ≡ place_of row held (get_or reads i 0)) (q : left ≡ left_by r held (get_or reads i 0) row) where
        -- a cold read
        pub turn-cold : r ≡ Cold → Running stack n reads left (held + 1) (i + 1)
        turn-cold e = rw (q ∙ ap (λ (z : Place). left_by z held (get_or reads i 0) row) e) (run-cold (sym p ∙ e))

        -- a read at the distance d
        pub turn-known : (d : ℕ) → r ≡ Depth d → Running stack n reads left held (i + 1)
        turn-known d e = rw (q ∙ ap (λ (z : Place). left_by z held (get_or reads i 0) row) e) (run-known d (sym p ∙ e))
