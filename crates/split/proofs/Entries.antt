-- One customer more before the others: where its summary is well formed and theirs are, nothing wraps, and the rows are those of it and them.
use mathlib.Core.Path.{◌≡◌, sym, ap, ◌∙◌}
use Prim.Native.Nat.{ℕ, suc, ◌+◌, ◌-◌, ◌≤◌, ◌%◌, ◌^◌, min}
use native.Mathlib.Omega.{arith}
use native.Mathlib.Nat.{zero-add}
use mathlib.Core.List.{List, ◌∷◌, map}
use mathlib.Core.Bool.{true}
use lib.ListN.{length, drop, get_or, length-map}
use Rattle.reuse.specs.Limits.{max_store, max_customers}
use Rattle.reuse.specs.Lists.{from, sum}
use Rattle.reuse.specs.Summary.{extents_of, misses_of, well_formed}
use Rattle.reuse.proofs.Formed.{Formed, formed}
use Rattle.reuse.proofs.Counts.{length_from, map-from-at}
use Rattle.reuse_rows.specs.Rows.{put_at}
use Rattle.reuse_copies.proofs.Puts.{put-at, put-after}
use Rattle.split_calls.specs.Tables.{lowest, fewest}
use Rattle.split_calls.specs.Calls.{all_formed}
use Rattle.split_calls.proofs.Cuts.{each-formed}
use Rattle.split_calls.proofs.Fewest.{fewest-front}
use Rattle.split_calls.proofs.Steps.{lowest-same, misses-small, fewest-small}
use Rattle.split_rows.specs.Rows.{sizes, rooms, misses_row, together, entry_of, entered_rows}
use Rattle.split_rows.proofs.Entering.{Fit, fit-passes, row-long}
use Rattle.split.specs.Search.{Costs, Entries}

-- the customers after one with this least share, whose row is the table's second
pub record Entering (least low store : ℕ) (costs table : List ℕ) : Type 0 where
  pub summaries : List (List ℕ)
  pub leasts : List ℕ
  pub formed : all_formed summaries ≡ true
  pub few : length summaries ≤ max_customers
  pub in_all : low ≡ least + sum leasts
  pub fits : low ≤ store
  pub small : store ≤ max_store
  pub costs-long : sizes ≤ length costs
  pub table-long : rooms + rooms ≤ length table
  pub entries : Entries summaries leasts store (drop rooms table)

module _ (w : List ℕ) (g : well_formed w ≡ true) (least low store : ℕ) (costs table : List ℕ) (o : Entering least low store costs table) where
  -- it all fits
  fits : Fit w least low store (length costs) (length table)
  unfolding extents_of
  fits = let f : Formed w = formed w g in record {
    few = f.few;
    long = omega (arith, f.long);
    least-low = omega (arith, o.in_all);
    low-store = o.fits;
    small = o.small;
    costs-long = o.costs-long;
    table-long = o.table-long;
  }

  -- so both rows are made
  pub rows_made : entered_rows w least low store costs table
      ≡ record { costs = put_at costs 0 (misses_row w); table = put_at table low (map (entry_of w least low (drop rooms table)) (from low (suc store - low))) }
  unfolding entered_rows
  rows_made = rw (fit-passes w least low store (length costs) (length table) fits)

  -- as long as the rooms
  entries-long : length (map (entry_of w least low (drop rooms table)) (from low (suc store - low))) ≡ suc store - low
  entries-long = simp length-map (length_from low (suc store - low))

  -- the customer's misses
  pub own-costs : Costs w (put_at costs 0 (misses_row w))
  unfolding misses_row
  own-costs s h =
      ap (λ (n : ℕ). get_or (put_at costs 0 (misses_row w)) n 0) (sym (zero-add s))
      ∙ put-at costs 0 (misses_row w) s (omega (arith, row-long w, o.costs-long)) (omega (arith, row-long w))
      ∙ map-from-at (λ n. misses_of w n % 2 ^ 32) 0 sizes s h
      ∙ ap (λ (n : ℕ). misses_of w n % 2 ^ 32) (zero-add s)
      ∙ (let q : misses_of w s % 2 ^ 32 ≡ misses_of w s = omega (arith, misses-small w s g) in q)

  -- nothing wraps
  no_wrap : (t share : ℕ) → share + sum o.leasts ≤ t → t ≤ store → together w (drop rooms table) t share ≡ misses_of w share + fewest o.summaries o.leasts (t - share)
  no_wrap t share a b =
      let e : get_or (drop rooms table) (t - share) 0 ≡ fewest o.summaries o.leasts (t - share) = o.entries (t - share) (omega arith) (omega arith) in
      omega (arith, misses-small w share g, fewest-small o.summaries o.leasts (t - share) (each-formed o.summaries o.formed), o.few)

  -- an entry is the fewest misses
  entry-is : (t : ℕ) → low ≤ t → t ≤ store → entry_of w least low (drop rooms table) t ≡ fewest (w ∷ o.summaries) (least ∷ o.leasts) t
  unfolding entry_of sum
  entry-is t a b =
      lowest-same (together w (drop rooms table) t) (λ share. misses_of w share + fewest o.summaries o.leasts (t - share)) least least (min (t - low) (extents_of w - least))
      (λ i h. no_wrap t (least + i) (room-left i h) b)
      ∙ ap (λ (n : ℕ). lowest (λ share. misses_of w share + fewest o.summaries o.leasts (t - share)) least (min (t - n) (extents_of w - least))) o.in_all
      ∙ sym (fewest-front w o.summaries least o.leasts t (omega (arith, o.in_all)))
    where
      room-left : (i : ℕ) → i ≤ min (t - low) (extents_of w - least) → least + i + sum o.leasts ≤ t
      room-left i h = omega (arith, o.in_all)

  -- the row of it and them
  pub all-entries : Entries (w ∷ o.summaries) (least ∷ o.leasts) store (put_at table low (map (entry_of w least low (drop rooms table)) (from low (suc store - low))))
  unfolding sum
  all-entries t a b =
      let l = map (entry_of w least low (drop rooms table)) (from low (suc store - low)) in
      let e : low + (t - low) ≡ t = omega (arith, o.in_all) in
      ap (λ (n : ℕ). get_or (put_at table low l) n 0) (sym e)
      ∙ put-at table low l (t - low) (omega (arith, entries-long, o.small, o.table-long)) (omega (arith, entries-long, o.in_all))
      ∙ map-from-at (entry_of w least low (drop rooms table)) low (suc store - low) (t - low) (omega (arith, o.in_all))
      ∙ ap (entry_of w least low (drop rooms table)) e
      ∙ entry-is t (omega (arith, o.in_all)) b

  -- the rows of misses after it are as they were
  pub costs-past : drop sizes (put_at costs 0 (misses_row w)) ≡ drop sizes costs
  costs-past = put-after costs 0 (misses_row w) (omega (arith, row-long w, o.costs-long)) sizes (omega (arith, row-long w))

  -- and the rows of the table
  pub table-past : drop rooms (put_at table low (map (entry_of w least low (drop rooms table)) (from low (suc store - low)))) ≡ drop rooms table
  table-past =
      put-after table low (map (entry_of w least low (drop rooms table)) (from low (suc store - low))) (omega (arith, entries-long, o.small, o.table-long)) rooms (omega (arith, entries-long, o.small))
