-- A read taken into rows that hold a tally: what it does to the rows is what it does to the tally.
use Rattle.std.proofs.Common.{◌≡◌, ℕ, suc, pred, ◌+◌, ◌-◌, ◌<◌, ◌≤◌, Bool, true, false, cond, ltb, leb, List, [], ◌∷◌, ◌++◌, length, get_or, take, set, sym, refl, ap, ◌∙◌, mod-eq_of_lt, add-one, arith, length-set, length-take-le, get_or-take, take-suc-set, ltb-false, ltb-true, le-ltb, lt-ltb, le-leb, leb-false, leb-true}
use lib.Seq.{take-set-lt}
use borrow.Author.Tests.{lt-leb}
use Rattle.reuse.specs.Limits.{max_reads, max_extents}
use Rattle.reuse.specs.Lists.{mem, sum}
use Rattle.reuse.specs.Lru.{at, depth, touch}
use Rattle.reuse_engine.specs.Engine.{place_of, left_by}
use Rattle.reuse_engine.specs.declared.Place.{Place}
use Rattle.reuse_engine.specs.declared.Place.TheVariants.{Cold, Depth, Full, BadCount}
use Rattle.reuse.proofs.Lists.{by-test}
use Rattle.reuse.proofs.Depth.{depth-absent}
use Rattle.reuse.proofs.Stack.{distinct-touch}
use Rattle.reuse.proofs.Sums.{sum_more, at-le-sum}
use Rattle.reuse_engine.proofs.Engine.{place-depth, place-range, place-new, place-cold, place-room, place-full, place-counts, touched-known, touched-new}
use Rattle.texts.specs.Limits.{max_extent}
use Rattle.texts.specs.Lines.{to, no, unless}
use Rattle.texts.specs.Logs.{row, read, row_by}
use Rattle.texts.proofs.Tests.{never}
use Rattle.listing_texts.specs.Tallies.{Tally, tallied, over_tally}
use Rattle.listing_texts.specs.Feeding.{take_row}
use Rattle.listing_tally.specs.Rows.{tally_in, Tallied, taken_by, taken_in}
use Rattle.listing_tally.specs.Standings.{Standing, read_at, read_taken}
use Rattle.reuse_rows.specs.Rows.{one_more}
use Rattle.listing_tally.specs.declared.Phase.TheVariants.{Inside, Whole}

-- one count of 0 more adds nothing
sum-zero-more : (l : List ℕ) → sum (l ++ (0 ∷ [])) ≡ sum l
unfolding sum
sum-zero-more [] = refl
sum-zero-more (x ∷ l) = ap (λ (n : ℕ). x + n) (sum-zero-more l)

-- an extent at a depth stands in the stack
depth-mem : (x d : ℕ) (s : List ℕ) → depth s x ≡ at d → mem x s ≡ true
depth-mem x d s e = by-test (mem x s) (λ m. m) (λ m. let q = sym (depth-absent x s m) ∙ e in never (cc))

-- a text that goes on or ends, with its tally
gone-taken : (ends : Bool) (t : Tally) → taken_by (cond ends Whole Inside) t ≡ to (read ends t)
gone-taken true t = refl
gone-taken false t = refl

module _ (reads extents : ℕ) (stack counts : List ℕ) (g : Tallied reads extents stack counts) (x : ℕ) (ends : Bool) where
  -- the tally before
  abbrev before : Tally
  before = tally_in reads extents stack counts

  -- by the limit that is broken
  by-limit : (n : ℕ) → over_tally before x ≡ n → take_row before (row x ends) ≡ unless n (to (read ends (tallied before x)))
  unfolding row_by
  by-limit n e = ap (λ (k : ℕ). unless k (to (read ends (tallied before x)))) e

  -- what is done to the rows is done to the tally, and they hold a tally
  abbrev Takes : Standing → Type 0
  Takes s = (taken_in s.progress s.stack s.counts ≡ take_row before (row x ends)) × Tallied s.progress.reads s.progress.extents s.stack s.counts

  -- an extent too large
  row-large : max_extent < x → take_row before (row x ends) ≡ no 2
  unfolding unless
  row-large h = by-limit 2 (rw (lt-ltb max_extent x h))

  module _ (small : x ≤ max_extent) where
    -- as many reads as the limit
    row-many : max_reads ≤ reads → take_row before (row x ends) ≡ no 8
    unfolding unless
    row-many h = by-limit 8 (rw (le-ltb max_extent x small, le-leb max_reads reads h))

    module _ (room : reads < max_reads) where
      -- as many extents as the stack holds
      stacked : length (take extents stack) ≡ extents
      stacked = length-take-le extents stack (omega (arith, g.few, g.stack-wide))

      -- and as many counts
      counted : length (take extents counts) ≡ extents
      counted = length-take-le extents counts (omega (arith, g.few, g.counts-wide))

      -- the stack fits its row
      fits : extents ≤ length stack
      fits = omega (arith, g.few, g.stack-wide)

      -- a new extent, and no room for it
      row-full : place_of stack extents x ≡ Full → take_row before (row x ends) ≡ no 9
      unfolding unless
      row-full e =
          let p = place-full stack extents x fits e in
          by-limit 9 (rw (le-ltb max_extent x small, lt-leb max_reads reads room, p.1, le-leb max_extents (length (take extents stack)) (omega (arith, stacked, p.0, g.stack-wide))))

      -- a new extent
      module _ (e : place_of stack extents x ≡ Cold) where
        -- the rows afterwards
        abbrev stack-new : List ℕ
        stack-new = left_by Cold extents x stack

        -- its count is 0
        abbrev counts-new : List ℕ
        counts-new = set counts extents 0

        -- it is cold, and there is room
        new-room : extents < max_extents
        new-room = omega (arith, place-room stack extents x fits e, g.stack-wide)

        -- the counts with it
        new-counts : take (extents + 1) counts-new ≡ take extents counts ++ (0 ∷ [])
        new-counts = ap (λ (n : ℕ). take n counts-new) (add-one extents) ∙ take-suc-set counts extents 0 (omega (arith, new-room, g.counts-wide))

        -- the stack with it
        new-stack : take (extents + 1) stack-new ≡ touch (take extents stack) x
        new-stack = ap (λ (n : ℕ). take n stack-new) (add-one extents) ∙ (touched-new stack extents x fits e).front

        -- the tally afterwards
        new-tally : tallied before x ≡ tally_in (reads + 1) (extents + 1) stack-new counts-new
        unfolding tallied
        new-tally = rw (place-cold stack extents x fits e, new-stack, new-counts, add-one reads)

        -- the read is taken
        row_new : to (read ends (tally_in (reads + 1) (extents + 1) stack-new counts-new)) ≡ take_row before (row x ends)
        unfolding unless
        row_new =
            sym (by-limit 0 (rw (le-ltb max_extent x small, lt-leb max_reads reads room, place-new stack extents x fits e, lt-leb max_extents (length (take extents stack)) (omega (arith, stacked, new-room))))
            ∙ ap (λ (t : Tally). to (read ends t)) new-tally)

        -- and the rows hold a tally
        tallied-new : Tallied (reads + 1) (extents + 1) stack-new counts-new
        tallied-new = record {
          stack-wide = (touched-new stack extents x fits e).size ∙ g.stack-wide;
          counts-wide = length-set counts extents 0 ∙ g.counts-wide;
          few = omega (arith, new-room);
          once = rw new-stack (distinct-touch (take extents stack) x g.once);
          all = rw new-counts (omega (arith, sum-zero-more (take extents counts), g.all));
          short = omega arith;
        }

        -- both
        new-law : Takes (read_at reads extents stack counts Cold x ends)
        new-law = (gone-taken ends (tally_in (reads + 1) (extents + 1) stack-new counts-new) ∙ row_new, tallied-new)

      -- an extent at a depth
      module _ (d : ℕ) (e : place_of stack extents x ≡ Depth d) where
        -- the rows afterwards
        abbrev stack-known : List ℕ
        stack-known = left_by (Depth d) extents x stack

        -- its distance is counted
        abbrev counts-known : List ℕ
        counts-known = set counts (d - 1) (get_or counts (d - 1) 0 + 1)

        -- it is one of the counts
        known-place : (1 ≤ d) × (d - 1 < extents) × (d - 1 < length counts) × (get_or counts (d - 1) 0 + 1 ≤ max_reads)
        known-place =
            let r = place-range stack extents x fits d e in
            let s = at-le-sum (take extents counts) (d - 1) in
            let h : d - 1 < extents = omega arith in
            let q : get_or (take extents counts) (d - 1) 0 ≡ get_or counts (d - 1) 0 = get_or-take extents counts (d - 1) 0 h in
            (r.0, h, omega (arith, g.few, g.counts-wide), omega (arith, g.all))

        -- the counts with one more
        known-counts : take extents counts-known ≡ set (take extents counts) (pred d) (suc (get_or (take extents counts) (pred d) 0))
        known-counts =
            let k = known-place in
            let i : d - 1 ≡ pred d = omega arith in
            let q : get_or (take extents counts) (d - 1) 0 ≡ get_or counts (d - 1) 0 = get_or-take extents counts (d - 1) 0 k.1 in
            take-set-lt extents counts (d - 1) (get_or counts (d - 1) 0 + 1) k.1
            ∙ ap (λ (v : ℕ). set (take extents counts) (d - 1) v) (add-one (get_or counts (d - 1) 0) ∙ ap suc (sym q))
            ∙ ap (λ (j : ℕ). set (take extents counts) j (suc (get_or (take extents counts) j 0))) i

        -- the stack with it on top
        known-stack : take extents stack-known ≡ touch (take extents stack) x
        known-stack = (touched-known stack extents x fits d e g.once).front

        -- the tally afterwards
        known-tally : tallied before x ≡ tally_in (reads + 1) extents stack-known counts-known
        unfolding tallied
        known-tally = rw (place-depth stack extents x fits d e, known-stack, known-counts, add-one reads)

        -- the read is taken
        row-known : to (read ends (tally_in (reads + 1) extents stack-known counts-known)) ≡ take_row before (row x ends)
        unfolding unless
        row-known =
            sym (by-limit 0 (rw (le-ltb max_extent x small, lt-leb max_reads reads room, depth-mem x d (take extents stack) (place-depth stack extents x fits d e)))
            ∙ ap (λ (t : Tally). to (read ends t)) known-tally)

        -- and the rows hold a tally
        tallied-known : Tallied (reads + 1) extents stack-known counts-known
        tallied-known =
            let k = known-place in
            let i : pred d < length (take extents counts) = omega (arith, counted) in
            record {
              stack-wide = (touched-known stack extents x fits d e g.once).size ∙ g.stack-wide;
              counts-wide = length-set counts (d - 1) (get_or counts (d - 1) 0 + 1) ∙ g.counts-wide;
              few = g.few;
              once = rw known-stack (distinct-touch (take extents stack) x g.once);
              all = rw known-counts (omega (arith, sum_more (take extents counts) (pred d) i, g.all));
              short = omega arith;
            }

        -- the count does not wrap
        count-is : one_more (d - 1) counts ≡ counts-known
        count-is = let k = known-place in ap (set counts (d - 1)) (mod-eq_of_lt (omega (arith, k.3)))

        -- both
        known-law : Takes (read_at reads extents stack counts (Depth d) x ends)
        known-law =
            rw count-is (gone-taken ends (tally_in (reads + 1) extents stack-known counts-known) ∙ row-known, tallied-known)

      -- by where the extent stood
      place-law : (p : Place) → place_of stack extents x ≡ p → Takes (read_at reads extents stack counts p x ends)
      place-law Cold e = new-law e
      place-law (Depth d) e = known-law d e
      place-law Full e = (sym (row-full e), g)
      place-law BadCount e = absurd (place-counts stack extents x fits e)

  -- a read
  pub read-law : Takes (read_taken reads extents stack counts x ends)
  unfolding read_taken
  read-law =
      by-test (ltb max_extent x) (λ e. rw e (sym (row-large (ltb-true max_extent x e)), g))
      (λ e. let small : x ≤ max_extent = ltb-false max_extent x e in
      by-test (leb max_reads reads) (λ f. rw (e, f) (sym (row-many small (leb-true max_reads reads f)), g))
      (λ f. let wide : ltb (length counts) (length stack) ≡ false = le-ltb (length counts) (length stack) (omega (arith, g.stack-wide, g.counts-wide)) in
      rw (e, f, wide) (place-law small (leb-false max_reads reads f) (place_of stack extents x) refl)))
