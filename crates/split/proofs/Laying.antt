-- The table is laid: the others first, with what is left of words, least shares and rows, then the first customer before them.
use mathlib.Core.Path.{◌≡◌, refl, ◌∙◌}
use Prim.Native.Nat.{ℕ, suc, ◌+◌, ◌-◌, ◌≤◌, ◌<◌}
use native.Mathlib.Omega.{arith}
use mathlib.Core.List.{List, [], ◌∷◌}
use mathlib.Core.Bool.{true}
use lib.ListN.{length, take, drop, get_or, length-drop}
use lib.Seq.{get_or-drop}
use borrow.Rule.Slice.PartMut.{mid_of, put_mid}
use Rattle.reuse.specs.Lists.{sum}
use Rattle.reuse.specs.Summary.{well_formed}
use Rattle.reuse_rows.proofs.Slices.{part-rest}
use Rattle.reuse_rows.proofs.Parts.{back-rest, back-length}
use Rattle.split_calls.specs.Tables.{fewest}
use Rattle.split_calls.specs.Cuts.{cut_summaries, own_words}
use Rattle.split_calls.proofs.Cuts.{cut-length, own-cut, own-formed}
use Rattle.split_rows.specs.Rows.{sizes, rooms, Rows, entered_rows}
use Rattle.split.specs.Search.{Entries, Tabled, Laying, TableLaid}
use Rattle.split.proofs.Entries.{Entering, rows_made, own-costs, all-entries, costs-past, table-past}

-- the row of all customers is the table's first
pub tabled-entries : (ws : List (List ℕ)) (ls : List ℕ) (store : ℕ) (costs table : List ℕ) → Tabled ws ls store costs table → Entries ws ls store table
tabled-entries [] ls store costs table t = t
tabled-entries (w ∷ ws) [] store costs table t = t
tabled-entries (w ∷ ws) (l ∷ ls) store costs table t = t.0

-- the least shares in all, by the first
first-share : (x : ℕ) (ls : List ℕ) → sum (x ∷ ls) ≡ x + sum ls
unfolding sum
first-share x ls = refl

-- no customers: a blank row
pub laid_none : (words leasts : List ℕ) (store : ℕ) (costs table : List ℕ) → Laying words leasts store costs table → length leasts ≡ 0 → TableLaid words leasts store 0 costs table
unfolding cut_summaries sum fewest
laid_none words [] store costs table l e = record { in_all = refl; tabled = λ t a b. l.blank t }
laid_none words (x ∷ ls) store costs table l e = absurd (omega arith)

module _ (words : List ℕ) (store : ℕ) (costs table : List ℕ) where
  -- what is left can be laid
  rest : (leasts : List ℕ) → Laying words leasts store costs table → 0 < length leasts
      → Laying (drop (own_words (length leasts) words) words) (drop 1 leasts) store (drop sizes costs) (drop rooms table)
  unfolding sum
  rest [] l h = absurd (omega arith)
  rest (x ∷ ls) l h =
      let n : suc (length ls) - 1 ≡ length ls = omega arith in
      record {
        formed = rw n at (own-formed (suc (length ls)) words h l.formed).1;
        few = omega (arith, l.few);
        fits = omega (arith, l.fits);
        small = l.small;
        costs-long = omega (arith, l.costs-long, length-drop sizes costs);
        table-long = omega (arith, l.table-long, length-drop rooms table);
        blank = λ t. get_or-drop rooms table t 0 ∙ l.blank (rooms + t);
      }

  -- as it is lent
  pub rest-laying : (leasts : List ℕ) → Laying words leasts store costs table → 0 < length leasts →
      let own : ℕ = own_words (length leasts) words in
      Laying (mid_of own (length words - own) words) (mid_of 1 (length leasts - 1) leasts) store (mid_of sizes (length costs - sizes) costs) (mid_of rooms (length table - rooms) table)
  rest-laying leasts l h =
      rw (part-rest words (own_words (length leasts) words), part-rest leasts 1, part-rest costs sizes, part-rest table rooms) (rest leasts l h)

  module _ (costs₁ table₁ : List ℕ) (long : length costs₁ ≡ length costs - sizes) (long₁ : length table₁ ≡ length table - rooms) (others : ℕ) where
    -- the others' table, with a row before it
    abbrev with-others : (leasts : List ℕ) → Laying words leasts store costs table → 0 < length leasts
        → TableLaid (drop (own_words (length leasts) words) words) (drop 1 leasts) store others costs₁ table₁
        → Entering (get_or leasts 0 0) (get_or leasts 0 0 + others) store (put_mid sizes (length costs - sizes) costs costs₁) (put_mid rooms (length table - rooms) table table₁)
    with-others [] l h d = absurd (omega arith)
    with-others (x ∷ ls) l h d = record {
      summaries = cut_summaries (length ls) (drop (own_words (suc (length ls)) words) words);
      leasts = ls;
      formed = (rest (x ∷ ls) l h).formed;
      few = omega (arith, cut-length (length ls) (drop (own_words (suc (length ls)) words) words), l.few);
      in_all = omega (arith, d.in_all);
      fits = omega (arith, d.in_all, l.fits, first-share x ls);
      small = l.small;
      costs-long = omega (arith, back-length sizes costs costs₁ (omega (arith, l.costs-long)) long, l.costs-long);
      table-long = omega (arith, back-length rooms table table₁ (omega (arith, l.table-long)) long₁, l.table-long);
      entries = rw (back-rest rooms table table₁ (omega (arith, l.table-long)) long₁) (tabled-entries _ ls store costs₁ table₁ d.tabled);
    }

    -- and the table of all when the first customer's rows are made
    done : (leasts : List ℕ) (l : Laying words leasts store costs table) (h : 0 < length leasts)
        → TableLaid (drop (own_words (length leasts) words) words) (drop 1 leasts) store others costs₁ table₁ →
        let rows : Rows = entered_rows (take (own_words (length leasts) words) words) (get_or leasts 0 0) (get_or leasts 0 0 + others) store (put_mid sizes (length costs - sizes) costs costs₁) (put_mid rooms (length table - rooms) table table₁) in
        TableLaid words leasts store (get_or leasts 0 0 + others) rows.costs rows.table
    done [] l h d = absurd (omega arith)
    done (x ∷ ls) l h d =
        let n : suc (length ls) - 1 ≡ length ls = omega arith in
        let w : List ℕ = take (own_words (suc (length ls)) words) words in
        let f : well_formed w ≡ true = (own-formed (suc (length ls)) words h l.formed).0 in
        let o = with-others (x ∷ ls) l h d in
        let costs₀ : List ℕ = put_mid sizes (length costs - sizes) costs costs₁ in
        let table₀ : List ℕ = put_mid rooms (length table - rooms) table table₁ in
        let c = costs-past w f x (x + others) store costs₀ table₀ o ∙ back-rest sizes costs costs₁ (omega (arith, l.costs-long)) long in
        let t = table-past w f x (x + others) store costs₀ table₀ o ∙ back-rest rooms table table₁ (omega (arith, l.table-long)) long₁ in
        record {
          in_all = omega (arith, d.in_all, first-share x ls);
          tabled =
              rw (rows_made w f x (x + others) store costs₀ table₀ o, own-cut (suc (length ls)) words h, n)
              (all-entries w f x (x + others) store costs₀ table₀ o, own-costs w f x (x + others) store costs₀ table₀ o, rw (c, t) d.tabled);
        }

    module _ (leasts : List ℕ) (l : Laying words leasts store costs table) (h : 0 < length leasts)
        (d : TableLaid (mid_of (own_words (length leasts) words) (length words - own_words (length leasts) words) words) (mid_of 1 (length leasts - 1) leasts) store others costs₁ table₁) where
      -- the others are laid, by what was lent
      laid-rest : TableLaid (drop (own_words (length leasts) words) words) (drop 1 leasts) store others costs₁ table₁
      laid-rest = rw (part-rest words (own_words (length leasts) words), part-rest leasts 1) at d

      -- with the first the least shares fit the store
      pub laid-fits : get_or leasts 0 0 + others ≤ store
      laid-fits = (with-others leasts l h laid-rest).fits

      -- and all are laid
      pub laid_done :
          let rows : Rows = entered_rows (take (own_words (length leasts) words) words) (get_or leasts 0 0) (get_or leasts 0 0 + others) store (put_mid sizes (length costs - sizes) costs costs₁) (put_mid rooms (length table - rooms) table table₁) in
          TableLaid words leasts store (get_or leasts 0 0 + others) rows.costs rows.table
      laid_done = done leasts l h laid-rest
