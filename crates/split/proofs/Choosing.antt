-- The shares are read off the table: the first customer's is the first that reaches the misses of the room, and the others have what it leaves.
use mathlib.Core.Path.{◌≡◌, refl, sym, ap, ◌∙◌}
use Prim.Native.Nat.{ℕ, suc, ◌+◌, ◌-◌, ◌≤◌, ◌<◌, min}
use native.Mathlib.Omega.{arith}
use mathlib.Core.List.{List, [], ◌∷◌, ◌++◌}
use mathlib.Core.Bool.{true}
use lib.Dec.{leb, ltb}
use lib.ListN.{length, take, drop, get_or, set, length-drop, length-set}
use borrow.Author.Tests.{leb-true, leb-false, ltb-true, ltb-false}
use borrow.Rule.Slice.PartMut.{mid_of, put_mid}
use Rattle.reuse.specs.Limits.{max_extents}
use Rattle.reuse.specs.Lists.{sum}
use Rattle.reuse.specs.Summary.{misses_of, well_formed}
use Rattle.reuse.proofs.Lists.{by-test, both}
use Rattle.reuse.proofs.Formed.{formed}
use Rattle.reuse_rows.proofs.Slices.{part-rest}
use Rattle.reuse_rows.proofs.Parts.{back_is}
use Rattle.split_calls.specs.Tables.{fewest, smallest_share, chosen}
use Rattle.split_calls.specs.Calls.{all_formed}
use Rattle.split_calls.proofs.Cuts.{each-formed}
use Rattle.split_calls.proofs.Fewest.{misses-past}
use Rattle.split_calls.proofs.Choice.{share-reaches}
use Rattle.split_calls.proofs.Steps.{share-is, misses-small, fewest-small}
use Rattle.split_rows.specs.Rows.{sizes, rooms}
use Rattle.split.specs.Search.{with_share, Seeking, Sought, Chooses, Choosing, Chosen}
use Rattle.split.proofs.Laying.{tabled-entries}

-- no misses are saved above the most extents
capped : (w : List ℕ) (share : ℕ) → well_formed w ≡ true → misses_of w (min share max_extents) ≡ misses_of w share
capped w share f =
    by-test (leb share max_extents)
    (λ e. let h : share ≤ max_extents = leb-true share max_extents e in ap (misses_of w) (let q : min share max_extents ≡ share = omega arith in q))
    (λ e. let h : max_extents < share = leb-false share max_extents e in
    misses-past w (min share max_extents) (omega (arith, (formed w f).few)) ∙ sym (misses-past w share (omega (arith, (formed w f).few))))

-- the first customer's share
module _ (w : List ℕ) (ws : List (List ℕ)) (store l : ℕ) (ls : List ℕ) (left : ℕ) (costs table shares : List ℕ)
    (h : Chooses (w ∷ ws) store (l ∷ ls) left costs table shares) where
  -- it and the others are well formed
  all-formed : (well_formed w ≡ true) × (all_formed ws ≡ true)
  unfolding all_formed
  all-formed = both (well_formed w) (all_formed ws) h.formed

  -- the misses with a share that leaves the others theirs
  share-misses : (s : ℕ) → s + sum ls ≤ left → with_share costs (drop rooms table) left s ≡ misses_of w s + fewest ws ls (left - s)
  share-misses s k =
      let c : get_or costs (min s max_extents) 0 ≡ misses_of w s = h.tabled.1 (min s max_extents) (omega arith) ∙ capped w s all-formed.0 in
      let o : get_or (drop rooms table) (left - s) 0 ≡ fewest ws ls (left - s) =
      tabled-entries ws ls store (drop sizes costs) (drop rooms table) h.tabled.2 (left - s) (omega arith) (omega (arith, h.within)) in
      omega arith

  -- the misses of the room
  room-misses : get_or table left 0 ≡ fewest (w ∷ ws) (l ∷ ls) left
  room-misses = h.tabled.0 left h.fits h.within

  -- the share to be found reaches them
  reaching : (l ≤ smallest_share w ws l ls left) × (smallest_share w ws l ls left + sum ls ≤ left)
      × (with_share costs (drop rooms table) left (smallest_share w ws l ls left) ≡ get_or table left 0)
  reaching =
      let (a, b, e) = share-reaches w ws l ls left h.fits in
      let k : smallest_share w ws l ls left + sum ls ≤ left = omega arith in
      (a, k, share-misses (smallest_share w ws l ls left) k ∙ e ∙ sym room-misses)

  -- so it can be looked for
  pub first-seeking : Seeking costs (drop rooms table) (get_or table left 0) l left
  first-seeking =
      let (a, b, e) = reaching in
      record {
        some = smallest_share w ws l ls left;
        low = a;
        high = omega arith;
        reached = e;
        costs-long = omega (arith, h.costs-long);
        others-long = omega (arith, h.table-long, length-drop rooms table, h.within, h.small);
        small = λ s c d.
            omega (
              arith,
              share-misses s (omega arith),
              misses-small w s all-formed.0,
              fewest-small ws ls (left - s) (each-formed ws all-formed.1),
              h.each,
              h.few,
            );
      }

  -- and what is found is it
  pub first-sought : (r : ℕ) → Sought costs (drop rooms table) (get_or table left 0) l left r → (smallest_share w ws l ls left ≡ r) × (r + sum ls ≤ left)
  first-sought r s =
      let (a, b, e) = reaching in
      let n : r ≤ smallest_share w ws l ls left =
      by-test (ltb (smallest_share w ws l ls left) r) (λ q. absurd (s.first (smallest_share w ws l ls left) a (ltb-true _ _ q) e)) (λ q. ltb-false (smallest_share w ws l ls left) r q) in
      let k : r + sum ls ≤ left = omega arith in (
        share-is w ws l ls left r s.low k (sym (share-misses r k) ∙ s.reached ∙ room-misses)
            (λ u c d q. s.first u c d (share-misses u (omega arith) ∙ q ∙ sym room-misses)),
        k,
      )

  -- the others' shares can be read off what is left
  pub rest-chooses : (r : ℕ) → r + sum ls ≤ left → Chooses ws store ls (left - r) (drop sizes costs) (drop rooms table) (drop 1 (set shares 0 r))
  rest-chooses r k = record {
    formed = all-formed.1;
    each = omega (arith, h.each);
    few = omega (arith, h.few);
    fits = omega arith;
    within = omega (arith, h.within);
    small = h.small;
    costs-long = omega (arith, h.costs-long, length-drop sizes costs);
    table-long = omega (arith, h.table-long, length-drop rooms table);
    room = omega (arith, h.room, length-drop 1 (set shares 0 r), length-set shares 0 r);
    tabled = h.tabled.2;
  }

  -- with both the shares stand at the front
  pub chosen-first : (r : ℕ) (shares' : List ℕ) → smallest_share w ws l ls left ≡ r → shares' ≡ chosen ws ls (left - r) ++ drop (length ls) (drop 1 (set shares 0 r))
      → take 1 (set shares 0 r) ++ shares' ≡ chosen (w ∷ ws) (l ∷ ls) left ++ drop (suc (length ls)) shares
  unfolding chosen
  chosen-first r shares' e q = go shares h.room shares' q
    where
      go : (o : List ℕ) → suc (length ls) ≤ length o → (o' : List ℕ) → o' ≡ chosen ws ls (left - r) ++ drop (length ls) (drop 1 (set o 0 r))
          → take 1 (set o 0 r) ++ o' ≡ (smallest_share w ws l ls left ∷ chosen ws ls (left - smallest_share w ws l ls left)) ++ drop (suc (length ls)) o
      go [] k o' d = absurd (omega arith)
      go (x ∷ o) k o' d = rw (e, d)

-- no customers have no shares
pub chosen_none : (ss : List (List ℕ)) (store : ℕ) (leasts : List ℕ) (left : ℕ) (costs table shares : List ℕ) → Chooses ss store leasts left costs table shares
    → length leasts ≡ 0 → shares ≡ chosen ss leasts left ++ drop (length leasts) shares
unfolding chosen
chosen_none [] store [] left costs table shares h e = refl
chosen_none (w ∷ ws) store [] left costs table shares h e = refl
chosen_none ss store (l ∷ ls) left costs table shares h e = absurd (omega arith)

-- the same for some customers, by what is lent
module _ (left : ℕ) (costs table shares : List ℕ) where
  -- the first one's share can be looked for
  pub seeking : (ss : List (List ℕ)) (store : ℕ) (leasts : List ℕ) → Chooses ss store leasts left costs table shares → 0 < length leasts
      → Seeking costs (mid_of rooms (length table - rooms) table) (get_or table left 0) (get_or leasts 0 0) left
  seeking [] store leasts h k = absurd (omega (arith, h.each))
  seeking (w ∷ ws) store [] h k = absurd (omega arith)
  seeking (w ∷ ws) store (l ∷ ls) h k = rw (part-rest table rooms) (first-seeking w ws store l ls left costs table shares h)

  module _ (r : ℕ) where
    -- where it is found the others' can be read off
    pub choosing-rest : (ss : List (List ℕ)) (store : ℕ) (leasts : List ℕ) → Chooses ss store leasts left costs table shares → 0 < length leasts
        → Sought costs (mid_of rooms (length table - rooms) table) (get_or table left 0) (get_or leasts 0 0) left r
        → Choosing (mid_of 1 (length leasts - 1) leasts) (left - r) (mid_of sizes (length costs - sizes) costs) (mid_of rooms (length table - rooms) table) (mid_of 1 (length (set shares 0 r) - 1) (set shares 0 r))
    choosing-rest [] store leasts h k s = absurd (omega (arith, h.each))
    choosing-rest (w ∷ ws) store [] h k s = absurd (omega arith)
    choosing-rest (w ∷ ws) store (l ∷ ls) h k s =
        let f = first-sought w ws store l ls left costs table shares h r (rw (part-rest table rooms) at s) in
        (ws, store, rw (part-rest (l ∷ ls) 1, part-rest costs sizes, part-rest table rooms, part-rest (set shares 0 r) 1) (rest-chooses w ws store l ls left costs table shares h r f.1))

    -- and all stand at the front
    pub chosen-all : (ss : List (List ℕ)) (store : ℕ) (leasts : List ℕ) → Chooses ss store leasts left costs table shares → 0 < length leasts
        → Sought costs (mid_of rooms (length table - rooms) table) (get_or table left 0) (get_or leasts 0 0) left r → (shares' : List ℕ)
        → Chosen (mid_of 1 (length leasts - 1) leasts) (left - r) (mid_of sizes (length costs - sizes) costs) (mid_of rooms (length table - rooms) table) (mid_of 1 (length (set shares 0 r) - 1) (set shares 0 r)) shares'
        → length shares' ≡ length (set shares 0 r) - 1
        → put_mid 1 (length (set shares 0 r) - 1) (set shares 0 r) shares' ≡ chosen ss leasts left ++ drop (length leasts) shares
    chosen-all [] store leasts h k s shares' e n = absurd (omega (arith, h.each))
    chosen-all (w ∷ ws) store [] h k s shares' e n = absurd (omega arith)
    chosen-all (w ∷ ws) store (l ∷ ls) h k s shares' e n =
        let f = first-sought w ws store l ls left costs table shares h r (rw (part-rest table rooms) at s) in
        let c : Chosen ls (left - r) (drop sizes costs) (drop rooms table) (drop 1 (set shares 0 r)) shares' =
        rw (part-rest (l ∷ ls) 1, part-rest costs sizes, part-rest table rooms, part-rest (set shares 0 r) 1) at e in
        back_is 1 (set shares 0 r) shares' (omega (arith, h.room, length-set shares 0 r)) n
        ∙ chosen-first w ws store l ls left costs table shares h r shares' f.0 (c ws store (rest-chooses w ws store l ls left costs table shares h r f.1))
