-- Reads of other extents than the one put in, taken through the engine and marked: what each turn leaves, and what the end tells.
use mathlib.Core.Path.{◌≡◌, refl, sym, ap, ◌∙◌}
use Prim.Native.Nat.{ℕ, suc, ◌+◌, ◌≤◌, ◌<◌}
use native.Mathlib.Omega.{arith}
use native.Mathlib.Numerals.{add-one}
use mathlib.Core.List.{List, [], ◌∷◌, ◌++◌, foldl}
use mathlib.Core.Bool.{false, or-false}
use lib.Dec.{eqb, leb, ltb}
use lib.ListN.{length, take, get_or, length-append, length-take}
use lib.Seq.{take-suc}
use borrow.Author.Tests.{leb-true, leb-false, ltb-true, ltb-false, ne_eqb}
use Rattle.reuse_engine.specs.declared.Place.{Place}
use Rattle.reuse_engine.specs.declared.Place.TheVariants.{Cold, Depth, Full}
use Rattle.reuse.specs.Limits.{max_extents}
use Rattle.reuse.specs.Lists.{mem, before}
use Rattle.reuse.specs.Lru.{at, depth, touch}
use Rattle.reuse.proofs.Lists.{by-test, mem-append}
use Rattle.reuse_engine.specs.Engine.{place_of, left_by}
use Rattle.reuse_engine.proofs.Engine.{place-depth, place-new}
use Rattle.reuse_engine.proofs.Runs.{Running, run-start, run-full, held_fits, turn-cold, turn-known}
use Rattle.insertion_calls.specs.Trails.{Trail}
use Rattle.insertion_calls.proofs.Steps.{misses-most}
use Rattle.insertion_calls.proofs.Trails.{trail-start, trail-cold, trail-top, trail-below, trail-above}
use Rattle.insertion.specs.Passes.{Ready, Ahead, Small, with_newcomer, with_known, Followed}
use Rattle.insertion.specs.declared.passes.Marks.{Marks}
use Rattle.std.proofs.Common.{None, Some}
use Rattle.std.proofs.lemmas.Option.{none-some, same_Some}
use Rattle.insertion.proofs.Holding.{row-wide, held_small}

-- no more stand before a word than in all
before-le : (x : ℕ) (s : List ℕ) → length (before x s) ≤ length s
unfolding before
before-le x [] = omega arith
before-le x (y ∷ s) = by-test (eqb x y) (λ e. simp e (omega arith)) (λ e. simp e (omega (arith, before-le x s)))

-- so the extents above x are within the limit
pub ahead_small : (stack : List ℕ) (n : ℕ) (reads : List ℕ) (x ahead : ℕ) → Ahead stack n reads x ahead → ahead ≤ max_extents
ahead_small stack n reads x ahead g = omega (arith, g.above, before-le x (take n stack), length-take n stack, g.ready.held, g.ready.wide)

-- the first i reads are taken and marked, and none is of x
pub record Following (stack : List ℕ) (n : ℕ) (reads : List ℕ) (x c : ℕ) (row : List ℕ) (held : ℕ) (m : Marks) (i : ℕ) : Type 0 where
  pub given : Ready stack n reads
  pub run : Running stack n reads row held i
  pub trail : Trail (take n stack) x c (take i reads) m.since m.depth m.spoiled
  pub unread : mem x (take i reads) ≡ false

module _ (stack : List ℕ) (n : ℕ) (reads : List ℕ) (x c : ℕ) where
  -- none is taken
  pub follow-start : (ahead : ℕ) → Ahead stack n reads x ahead → Following stack n reads x c stack n (record { since = 0; depth = ahead + 1; spoiled = 0 }) 0
  unfolding mem
  follow-start ahead g = record {
    given = g.ready;
    run = run-start stack n reads g.ready.held g.ready.once;
    trail = let e : ahead + 1 ≡ suc (length (before x (take n stack))) = omega (arith, g.above) in rw e (trail-start (take n stack) x c g.ready.once);
    unread = refl;
  }

  module _ (row : List ℕ) (held : ℕ) (m : Marks) (i : ℕ) (h : Following stack n reads x c row held m i) where
    -- what is held are the newer and the older
    both : held ≡ length h.trail.newer + length h.trail.older
    both = h.run.size ∙ ap length h.trail.plain ∙ length-append h.trail.newer h.trail.older

    -- the marks are small
    pub marks-small : i < length reads → Small m
    marks-small l = record {
      since = omega (arith, h.trail.since-is, both, held_small stack n reads row held i h.given h.run);
      depth =
          omega (arith, h.trail.depth_is, both, before-le x h.trail.older, held_small stack n reads row held i h.given h.run);
      spoiled =
          omega (arith, h.trail.spoiled-is, misses-most c (touch (take n stack) x) (take i reads), length-take i reads, h.given.short);
    }

    -- the reads up to the next one of x, or all
    pub follow-end : (i < length reads → get_or reads i 0 ≡ x)
        → Followed stack n reads x c row (Some (record { held = held; taken = i; marks = m }))
    follow-end e = record {
      over = λ z. absurd (none-some _ (sym z));
      some = λ t z.
          rw (← same_Some _ _ z) (record {
            wide = row-wide stack n reads row held i h.given h.run;
            few = held_small stack n reads row held i h.given h.run;
            some = h.run.within;
            front = h.run.front;
            trail = h.trail;
            unread = h.unread;
            again = e;
          });
    }

    -- the next read
    module _ (l : i < length reads) where
      -- the reads with it
      next-reads : take (i + 1) reads ≡ take i reads ++ (get_or reads i 0 ∷ [])
      next-reads = rw (add-one i) (take-suc reads i 0 l)

      -- the engine's answer r, and the words that it left
      module _ (r : Place) (left : List ℕ) (p : r ≡ place_of row held (get_or reads i 0)) (q : left ≡ left_by r held (get_or reads i 0) row) where
        -- there is no room
        pub follow-full : r ≡ Full → Followed stack n reads x c left None
        follow-full e = record {
          over = λ z. omega (arith, run-full stack n reads row held i h.run l (sym p ∙ e), h.given.wide);
          some = λ t z. absurd (none-some _ z);
        }

        -- a read of another extent
        module _ (o : get_or reads i 0 ≡ x → ⊥) where
          other : eqb (get_or reads i 0) x ≡ false
          other = ne_eqb (get_or reads i 0) x o

          still : mem x (take (i + 1) reads) ≡ false
          unfolding mem
          still = rw next-reads (simp (mem-append, h.unread, ne_eqb x (get_or reads i 0) (λ e. o (sym e)), or-false))

          -- a cold one
          pub follow-cold : r ≡ Cold → (held' : ℕ) (m' : Marks) → held' ≡ held + 1 → m' ≡ with_newcomer m → Following stack n reads x c left held' m' (i + 1)
          follow-cold e held' m' f g =
              let new : mem (get_or reads i 0) (foldl touch (take n stack) (take i reads)) ≡ false =
              rw h.run.front at (place-new row held (get_or reads i 0) (held_fits stack n reads row held i h.run) (sym p ∙ e)) in
              rw (f, g) (record {
                given = h.given;
                run = turn-cold stack n reads row held i h.run l r left p q e;
                trail = rw next-reads (trail-cold (take n stack) x c (take i reads) m.since m.depth m.spoiled h.trail (get_or reads i 0) other new);
                unread = still;
              })

          -- one at a depth
          pub follow-known : (d : ℕ) → r ≡ Depth d → (held' : ℕ) (m' : Marks) → held' ≡ held → m' ≡ with_known m d c → Following stack n reads x c left held' m' (i + 1)
          follow-known d e held' m' f g =
              let k : depth (foldl touch (take n stack) (take i reads)) (get_or reads i 0) ≡ at d =
              rw h.run.front at (place-depth row held (get_or reads i 0) (held_fits stack n reads row held i h.run) d (sym p ∙ e)) in
              let made : (w : Marks) → with_known m d c ≡ w
              → Trail (take n stack) x c (take i reads ++ (get_or reads i 0 ∷ [])) w.since w.depth w.spoiled
              → Following stack n reads x c left held' m' (i + 1) =
              λ w v b. rw (f, g ∙ v) (record {
                given = h.given;
                run = turn-known stack n reads row held i h.run l r left p q d e;
                trail = rw next-reads b;
                unread = still;
              }) in
              by-test (leb d m.since)
              (λ a. made m (rw a)
              (trail-top (take n stack) x c (take i reads) m.since m.depth m.spoiled h.trail (get_or reads i 0) other d k (leb-true d m.since a)))
              (λ a. by-test (ltb m.depth d)
              (λ b. made (with_newcomer m) (rw (a, b))
              (trail-below (take n stack) x c (take i reads) m.since m.depth m.spoiled h.trail (get_or reads i 0) other d k (leb-false d m.since a) (ltb-true m.depth d b)))
              (λ b. made _ (rw (a, b))
              (trail-above (take n stack) x c (take i reads) m.since m.depth m.spoiled h.trail (get_or reads i 0) other d k (leb-false d m.since a) (ltb-false m.depth d b))))
