-- The pass over a part's reads: what each turn leaves, and what the end tells.
use mathlib.Core.Path.{◌≡◌, refl, sym, ap, ◌∙◌}
use Prim.Native.Nat.{ℕ, suc, ◌+◌, ◌≤◌, ◌<◌}
use native.Mathlib.Omega.{arith}
use native.Mathlib.Numerals.{add-one}
use mathlib.Core.List.{List, [], ◌∷◌, ◌++◌, map, append_assoc, map-append}
use lib.ListN.{length, take, drop, get_or, set, length-append, length-drop, length-map}
use lib.Seq.{take_all, drop-cons, set_at, length-take-le}
use Rattle.reuse_engine.specs.declared.Place.{Place}
use Rattle.reuse_engine.specs.declared.Place.TheVariants.{Cold, Depth, Full, BadCount}
use Rattle.reuse.specs.Limits.{max_extents}
use Rattle.reuse.specs.Lru.{Reuse, cold, at, depth, reuses}
use Rattle.reuse.specs.Written.{cold_base, word_of}
use Rattle.reuse_engine.specs.Engine.{place_of, left_by}
use Rattle.reuse.proofs.Stack.{length-reuses}
use Rattle.reuse_engine.proofs.Engine.{place-depth, place-range, place-cold}
use Rattle.reuse_engine.proofs.Runs.{Running, run-start, run-full, run-bad, held_fits, next-answers, turn-cold, turn-known}
use Rattle.after.specs.Passes.{Traceable}

-- the first i reads are taken, and their distances written
pub record Tracing (stack : List ℕ) (n : ℕ) (reads out row written : List ℕ) (held i : ℕ) : Type 0 where
  pub given : Traceable stack n reads out
  pub run : Running stack n reads row held i
  pub words : written ≡ map word_of (reuses (take n stack) (take i reads)) ++ drop i out

module _ (stack : List ℕ) (n : ℕ) (reads out : List ℕ) where
  -- none is taken
  pub trace-start : Traceable stack n reads out → Tracing stack n reads out stack out n 0
  unfolding reuses
  trace-start g = record { given = g; run = run-start stack n reads g.stacked.held g.stacked.once; words = refl }

  module _ (row written : List ℕ) (held i : ℕ) (h : Tracing stack n reads out row written held i) where
    -- a word for each read taken
    taken : length (map word_of (reuses (take n stack) (take i reads))) ≡ i
    taken =
        simp length-map (length-reuses (take n stack) (take i reads) ∙ length-take-le i reads h.run.within)

    -- the buffer keeps its length
    pub written-length : length written ≡ length out
    written-length =
        rw h.words (length-append (map word_of (reuses (take n stack) (take i reads))) (drop i out)
        ∙ omega (arith, taken, length-drop i out, h.run.within, h.given.wide))

    -- all are taken
    pub trace-end : length reads ≤ i → written ≡ map word_of (reuses (take n stack) reads) ++ drop (length reads) out
    trace-end l =
        let e : i ≡ length reads = omega (arith, h.run.within) in
        h.words ∙ rw (take_all i reads l) (ap (λ (k : ℕ). map word_of (reuses (take n stack) reads) ++ drop k out) e)

    -- what is held is within the limit
    pub held_small : held ≤ max_extents
    held_small = omega (arith, held_fits stack n reads row held i h.run, h.run.long, h.given.small)

    module _ (l : i < length reads) where
      -- the next word put
      next_word : (x : Reuse) → depth (take held row) (get_or reads i 0) ≡ x
          → set written i (word_of x) ≡ map word_of (reuses (take n stack) (take (i + 1) reads)) ++ drop (i + 1) out
      next_word x e =
          let m : List ℕ = map word_of (reuses (take n stack) (take i reads)) in
          let a : map word_of (reuses (take n stack) (take (i + 1) reads)) ≡ m ++ (word_of x ∷ []) =
          ap (map word_of) (rw e at (next-answers stack n reads row held i h.run l)) ∙ map-append word_of (reuses (take n stack) (take i reads)) (x ∷ []) in
          let d : drop i out ≡ get_or out i 0 ∷ drop (suc i) out = drop-cons out i 0 (omega (arith, h.given.wide)) in
          rw (h.words, d, a, add-one i) (set_at m (get_or out i 0) (drop (suc i) out) (word_of x) i taken ∙ simp append_assoc)

      -- the engine finds room
      pub not_full : place_of row held (get_or reads i 0) ≡ Full → ⊥
      not_full p = omega (arith, run-full stack n reads row held i h.run l p, h.given.room)

      -- and a fit count
      pub not-bad : place_of row held (get_or reads i 0) ≡ BadCount → ⊥
      not-bad = run-bad stack n reads row held i h.run l

      -- a distance fits a word
      pub depth_small : (d : ℕ) → place_of row held (get_or reads i 0) ≡ Depth d → d ≤ max_extents
      depth_small d p =
          omega (arith, place-range row held (get_or reads i 0) (held_fits stack n reads row held i h.run) d p, held_small)

      -- the turn as the code makes it, by the engine's answer r and the words that it left
      module _ (r : Place) (left others : List ℕ) (held' : ℕ) (p : r ≡ place_of row held (get_or reads i 0)) (q : left ≡ left_by r held (get_or reads i 0) row) where
        -- a cold read
        pub trace-cold : r ≡ Cold → others ≡ set written i (cold_base + (held + 1)) → held' ≡ held + 1 → Tracing stack n reads out left others held' (i + 1)
        trace-cold e f g = rw (f, g) (record {
          given = h.given;
          run = turn-cold stack n reads row held i h.run l r left p q e;
          words = rw (add-one held) (next_word (cold (suc held)) (place-cold row held (get_or reads i 0) (held_fits stack n reads row held i h.run) (sym p ∙ e)));
        })

        -- a read at a distance
        pub trace-known : (d : ℕ) → r ≡ Depth d → others ≡ set written i d → held' ≡ held → Tracing stack n reads out left others held' (i + 1)
        trace-known d e f g = rw (f, g) (record {
          given = h.given;
          run = turn-known stack n reads row held i h.run l r left p q d e;
          words = next_word (at d) (place-depth row held (get_or reads i 0) (held_fits stack n reads row held i h.run) d (sym p ∙ e));
        })
