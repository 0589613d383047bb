-- The search of the table's first row: the first room with as few misses as the store.
use Rattle.std.proofs.Common.{◌≡◌, ℕ, ◌+◌, ◌-◌, ◌<◌, ◌≤◌, ◌≢◌, List, length, take, drop, get_or, Option, None, Some, sym, ap, ◌∙◌, arith, length-take, length-drop, get_or-take, get_or-drop}
use Rattle.std.specs.Prelude.{EachIndex, MatchOption}
use Rattle.std.specs.Option.{unwrap_or}
use Rattle.split.specs.Search.{Scanning, Scanned}

-- what the search for x in a row finds
abbrev pub Place : List ℕ → ℕ → Option ℕ → Type 0
Place row x p =
    MatchOption p (EachIndex row (λ k. get_or row k 0 ≢ x)) (λ i. (i < length row) × (get_or row i 0 ≡ x) × ((k : ℕ) → k < i → get_or row k 0 ≢ x))

module _ (row : List ℕ) (low store : ℕ) (s : Scanning row low store) where
  -- the rooms before the store
  abbrev part : List ℕ
  part = take (store - low) (drop low row)

  -- as many as there are from `low` on
  part-long : length part ≡ store - low
  part-long = omega (arith, length-take (store - low) (drop low row), length-drop low row, s.inside)

  -- none before r is none from `low` on
  before : (r : ℕ) → r ≤ store - low → ((k : ℕ) → k < r → get_or part k 0 ≢ get_or row store 0)
      → (u : ℕ) → low ≤ u → u < low + r → get_or row u 0 ≢ get_or row store 0
  before r h n u a b e =
      let q : low + (u - low) ≡ u = omega arith in
      n (u - low) (omega arith)
      (get_or-take (store - low) (drop low row) (u - low) 0 (omega arith) ∙ get_or-drop low row (u - low) 0 ∙ ap (λ (i : ℕ). get_or row i 0) q ∙ e)

  -- the first of them, or the store
  pub scanned : (p : Option ℕ) → Place part (get_or row store 0) p → (r : ℕ) → r ≡ unwrap_or p (store - low) → Scanned row low store (low + r)
  scanned None f r e = record {
    forward = omega arith;
    inside = omega (arith, s.forward);
    reached = let q : low + r ≡ store = omega (arith, s.forward) in ap (λ (i : ℕ). get_or row i 0) q;
    first = before r (omega arith) (λ k l. f k (omega (arith, part-long)));
  }
  scanned (Some i) (l, g, n) r e = record {
    forward = omega arith;
    inside = omega (arith, part-long, s.forward);
    reached =
        ap (λ (k : ℕ). get_or row (low + k) 0) e
        ∙ sym (get_or-take (store - low) (drop low row) i 0 (omega (arith, part-long)) ∙ get_or-drop low row i 0) ∙ g;
    first = before r (omega (arith, part-long)) (λ k m. n k (omega arith));
  }
