-- One customer more before the others: what fits lets the table's first row be filled, and filled it has the entries of the definition.
use Rattle.std.proofs.Common.{◌≡◌, ℕ, suc, ◌+◌, ◌-◌, ◌*◌, ◌%◌, ◌^◌, ◌<◌, ◌≤◌, min, true, false, leb, List, map, length, get_or, drop, sym, ap, ◌∙◌, zero-add, arith, length-drop, length-take, get_or-drop, get_or-take, le-leb, leb-false, leb-true}
use mathlib.Core.Path.{fun_ext}
use lib.ListN.{length-map}
use borrow.Rule.Slice.PartMut.{mid_of}
use Rattle.reuse.specs.Limits.{max_extents, max_store}
use Rattle.reuse.specs.Lists.{from}
use Rattle.reuse.specs.Summary.{extents_of, misses_of}
use Rattle.reuse.proofs.Lists.{by-test, both}
use Rattle.reuse.proofs.Counts.{length_from, map-from-at}
use Rattle.reuse_rows.specs.Rows.{put_at}
use Rattle.split_calls.specs.Tables.{lowest}
use Rattle.split_calls.proofs.Fewest.{misses-past}
use Rattle.split_calls.proofs.Steps.{lowest-same}
use Rattle.split_rows.specs.Rows.{sizes, rooms, misses_row, together, entry_of, enterable, entered_rows}
use Rattle.split_rows.specs.Steps.{pair_sum, Fillable, entry_by, filled_row}
use Rattle.split_rows.proofs.Counting.{word-add}

-- what fits, by its facts
pub record Fit (w : List ℕ) (least low store costs table : ℕ) : Type 0 where
  pub few : get_or w 1 0 ≤ max_extents
  pub long : 2 + 3 * get_or w 1 0 ≤ length w
  pub least-low : least ≤ low
  pub low-store : low ≤ store
  pub small : store ≤ max_store
  pub costs-long : sizes ≤ costs
  pub table-long : rooms + rooms ≤ table

-- the test passes only on such
pub fit : (w : List ℕ) (least low store costs table : ℕ) → enterable w least low store costs table ≡ true → Fit w least low store costs table
unfolding enterable extents_of
fit w least low store costs table h =
    let h₁ = both _ _ h in
    let h₂ = both _ _ h₁.0 in
    let h₃ = both _ _ h₂.0 in
    let h₄ = both _ _ h₃.0 in
    let h₅ = both _ _ h₄.0 in
    let h₆ = both _ _ h₅.0 in
    record {
      few = leb-true _ _ h₆.0;
      long = leb-true _ _ h₆.1;
      least-low = leb-true _ _ h₅.1;
      low-store = leb-true _ _ h₄.1;
      small = leb-true _ _ h₃.1;
      costs-long = leb-true _ _ h₂.1;
      table-long = leb-true _ _ h₁.1;
    }

-- and on each such
pub fit-passes : (w : List ℕ) (least low store costs table : ℕ) → Fit w least low store costs table → enterable w least low store costs table ≡ true
unfolding enterable extents_of
fit-passes w least low store costs table f =
    simp (
      le-leb (get_or w 1 0) max_extents f.few,
      le-leb (2 + 3 * get_or w 1 0) (length w) f.long,
      le-leb least low f.least-low,
      le-leb low store f.low-store,
      le-leb store max_store f.small,
      le-leb sizes costs f.costs-long,
      le-leb (rooms + rooms) table f.table-long,
    )

-- what does not fit leaves the rows as they were
pub entered-not : (w : List ℕ) (least low store : ℕ) (costs table : List ℕ) → enterable w least low store (length costs) (length table) ≡ false
    → entered_rows w least low store costs table ≡ record { costs = costs; table = table }
unfolding entered_rows
entered-not w least low store costs table h = rw h

-- a row of misses is as long as all sizes
pub row-long : (w : List ℕ) → length (misses_row w) ≡ sizes
unfolding misses_row
row-long w = simp length-map (length_from 0 sizes)

-- a place of both of two runs is one of the first, and of the second
in_both : (a b i : ℕ) → i ≤ min a b → (i ≤ a) × (i ≤ b)
in_both a b i h = (omega arith, omega arith)

-- what is left of a room, after the least share and i extents more
left_over : (t least i : ℕ) → t - least - i ≡ t - (least + i)
left_over t least i = omega arith

module _ (w : List ℕ) (least low store : ℕ) (costs table : List ℕ) (f : Fit w least low store (length costs) (length table)) (base : ℕ) (b : base ≡ min least (get_or w 1 0)) where
  -- as many extents past the least share save misses
  span-is : get_or w 1 0 - base ≡ get_or w 1 0 - least
  span-is = omega arith

  -- there are misses from there on
  base-inside : base + (get_or w 1 0 - base) < sizes
  base-inside = omega (arith, f.few)

  -- the customer's misses with i extents past its least share
  part_at : (i : ℕ) → i ≤ get_or w 1 0 - base → get_or (mid_of base (sizes - base) (misses_row w)) i 0 ≡ misses_of w (least + i) % 2 ^ 32
  unfolding extents_of misses_row
  part_at i h =
      get_or-take (sizes - base) (drop base (map (λ s. misses_of w s % 2 ^ 32) (from 0 sizes))) i 0 (omega (arith, base-inside))
      ∙ get_or-drop base (map (λ s. misses_of w s % 2 ^ 32) (from 0 sizes)) i 0
      ∙ map-from-at (λ s. misses_of w s % 2 ^ 32) 0 sizes (base + i) (omega (arith, base-inside))
      ∙ ap (λ (n : ℕ). misses_of w n % 2 ^ 32) (zero-add (base + i))
      ∙ ap (λ (n : ℕ). n % 2 ^ 32)
      (by-test (leb least (get_or w 1 0))
      (λ e. let l : least ≤ get_or w 1 0 = leb-true least (get_or w 1 0) e in let q : base ≡ least = omega arith in ap (λ (n : ℕ). misses_of w (n + i)) q)
      (λ e. let l : get_or w 1 0 < least = leb-false least (get_or w 1 0) e in
      misses-past w (base + i) (let q : get_or w 1 0 ≤ base + i = omega arith in q) ∙ sym (misses-past w (least + i) (let q : get_or w 1 0 ≤ least + i = omega arith in q))))

  -- the first row can be filled
  pub fit-fillable : Fillable (mid_of base (sizes - base) (misses_row w)) (get_or w 1 0 - base) least low store table
  fit-fillable = record {
    there = omega (arith, length-take (sizes - base) (drop base (misses_row w)), length-drop base (misses_row w), row-long w, base-inside);
    least-low = f.least-low;
    fits = f.low-store;
    small = f.small;
    long = f.table-long;
  }

  -- an entry of it
  entry-is : (t : ℕ) → entry_by (mid_of base (sizes - base) (misses_row w)) (get_or w 1 0 - base) least low (drop rooms table) t ≡ entry_of w least low (drop rooms table) t
  unfolding entry_of extents_of
  entry-is t =
      lowest-same (pair_sum (mid_of base (sizes - base) (misses_row w)) (drop rooms table) (t - least)) (together w (drop rooms table) t) 0 least (min (t - low) (get_or w 1 0 - base))
      (λ i h.
      let m : (i ≤ t - low) × (i ≤ get_or w 1 0 - base) = in_both (t - low) (get_or w 1 0 - base) i h in
      rw (zero-add i, left_over t least i, part_at i m.1) (word-add (misses_of w (least + i)) (get_or (drop rooms table) (t - (least + i)) 0)))
      ∙ ap (λ (n : ℕ). lowest (together w (drop rooms table) t) least (min (t - low) n)) span-is

  -- both rows are made
  pub fit-entered : entered_rows w least low store costs table
      ≡ record { costs = put_at costs 0 (misses_row w); table = filled_row (mid_of base (sizes - base) (misses_row w)) (get_or w 1 0 - base) least low store table }
  unfolding entered_rows
  fit-entered =
      rw (fit-passes w least low store (length costs) (length table) f)
      (ap (λ (e : ℕ → ℕ). record { costs = put_at costs 0 (misses_row w); table = put_at table low (map e (from low (suc store - low))) }) (fun_ext (λ t. sym (entry-is t))))

  -- there is room for the misses
  pub fit-costs : 0 + length (misses_row w) ≤ length costs
  fit-costs = omega (arith, row-long w, f.costs-long)
