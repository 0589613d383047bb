-- How far the table's first row has come, from the room of all least shares up.
use Rattle.std.proofs.Common.{◌≡◌, ℕ, suc, ◌+◌, ◌-◌, ◌<◌, ◌≤◌, min, List, [], ◌∷◌, ◌++◌, map, length, take, drop, set, sym, refl, ap, ◌∙◌, append_assoc, append-nil, arith, length-drop, length-set, take-append-drop, drop-drop, take-suc-set, drop-set-lt}
use lib.ListN.{length-map}
use borrow.Rule.Slice.PartMut.{mid_of}
use Rattle.reuse.specs.Lists.{from}
use Rattle.reuse.proofs.Counts.{length_from, map-from-snoc}
use Rattle.reuse_rows.specs.Rows.{put_at}
use Rattle.reuse_rows.proofs.Slices.{part-rest}
use Rattle.split_calls.specs.Tables.{lowest}
use Rattle.split_rows.specs.Rows.{rooms}
use Rattle.split_rows.specs.Steps.{pair_sum, Tries, Fillable, entry_by, filled_row}

-- the rooms before t have their entries, and the others are as they were
pub record Filling (own : List ℕ) (span least low store : ℕ) (table₀ table : List ℕ) (t : ℕ) : Type 0 where
  pub forward : low ≤ t
  pub near : t ≤ store + 1
  pub long : length table ≡ length table₀
  pub front : take t table ≡ take low table₀ ++ map (entry_by own span least low (drop rooms table₀)) (from low (t - low))
  pub rest : drop t table ≡ drop t table₀

module _ (own : List ℕ) (span least low store : ℕ) (table₀ : List ℕ) (f : Fillable own span least low store table₀) where
  -- the entries
  abbrev entries : ℕ → ℕ
  entries = entry_by own span least low (drop rooms table₀)

  -- at the start
  pub filling-start : Filling own span least low store table₀ table₀ low
  unfolding from
  filling-start = record {
    forward = omega arith;
    near = omega (arith, f.fits);
    long = refl;
    front = let z : low - low ≡ 0 = omega arith in rw z (sym (append-nil (take low table₀)));
    rest = refl;
  }

  module _ (table : List ℕ) (t : ℕ) (i : Filling own span least low store table₀ table t) (more : t ≤ store) where
    -- the second row, as it is lent
    second : mid_of rooms (length table - rooms) table ≡ drop rooms table₀
    second =
        let e : t + (rooms - t) ≡ rooms = omega (arith, f.small) in
        part-rest table rooms
        ∙ ap (λ (n : ℕ). drop n table) (sym e)
        ∙ sym (drop-drop (rooms - t) t table)
        ∙ ap (drop (rooms - t)) i.rest
        ∙ drop-drop (rooms - t) t table₀
        ∙ ap (λ (n : ℕ). drop n table₀) e

    -- the places that are tried for a room
    pub filling-tries : (tries : ℕ) → tries ≡ min (t - low) span → Tries own (mid_of rooms (length table - rooms) table) (t - least) tries
    filling-tries tries e = record {
      there = omega (arith, f.there);
      within = omega (arith, f.least-low);
      inside = omega (arith, ap length second, length-drop rooms table₀, f.long, f.small);
    }

    -- there is a word for its entry
    pub filling-inside : t < length table
    filling-inside = omega (arith, i.long, f.long, f.small)

    -- one room more
    pub filling-turn : (tries m : ℕ) → tries ≡ min (t - low) span → m ≡ lowest (pair_sum own (mid_of rooms (length table - rooms) table) (t - least)) 0 tries
        → Filling own span least low store table₀ (set table t m) (t + 1)
    filling-turn tries m e q =
        let a : t + 1 ≡ suc t = omega arith in
        let n : t + 1 - low ≡ suc (t - low) = omega (arith, i.forward) in
        let d : low + (t - low) ≡ t = omega (arith, i.forward) in
        let v : m ≡ entries t = rw (← second, ← e) q in
        record {
          forward = omega (arith, i.forward);
          near = omega arith;
          long = length-set table t m ∙ i.long;
          front =
              ap (λ (k : ℕ). take k (set table t m)) a
              ∙ take-suc-set table t m filling-inside
              ∙ ap (λ (l : List ℕ). l ++ (m ∷ [])) i.front
              ∙ append_assoc (take low table₀) (map entries (from low (t - low))) (m ∷ [])
              ∙ ap (λ (l : List ℕ). take low table₀ ++ l)
              (ap (λ (x : ℕ). map entries (from low (t - low)) ++ (x ∷ [])) (v ∙ ap entries (sym d))
              ∙ sym (map-from-snoc entries low (t - low))
              ∙ ap (λ (k : ℕ). map entries (from low k)) (sym n));
          rest =
              drop-set-lt (t + 1) table t m (omega arith)
              ∙ sym (drop-drop 1 t table) ∙ ap (drop 1) i.rest ∙ drop-drop 1 t table₀;
        }

  -- all rooms
  pub filling-end : (table : List ℕ) (t : ℕ) → Filling own span least low store table₀ table t → store < t → table ≡ filled_row own span least low store table₀
  unfolding put_at
  filling-end table t i h =
      let s : t ≡ suc store = omega (arith, i.near) in
      let k : low + length (map entries (from low (suc store - low))) ≡ t =
      (let z : length (map entries (from low (suc store - low))) ≡ suc store - low = simp length-map (length_from low (suc store - low)) in omega (arith, f.fits)) in
      sym (take-append-drop t table)
      ∙ ap (λ (l : List ℕ). l ++ drop t table) i.front
      ∙ append_assoc (take low table₀) (map entries (from low (t - low))) (drop t table)
      ∙ ap (λ (l : List ℕ). take low table₀ ++ l)
      (ap (λ (n : ℕ). map entries (from low (n - low)) ++ drop t table) s
      ∙ ap (λ (l : List ℕ). map entries (from low (suc store - low)) ++ l) (i.rest ∙ ap (λ (n : ℕ). drop n table₀) (sym k)))
