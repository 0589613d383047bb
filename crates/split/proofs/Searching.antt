-- The search: blank rows can be laid, the room that is found is the smallest that reaches the misses, and the shares read off are the split.
use mathlib.Core.Path.{◌≡◌, sym, ap, ◌∙◌}
use Prim.Native.Nat.{ℕ, suc, ◌*◌, ◌≤◌}
use native.Mathlib.Omega.{arith}
use mathlib.Core.List.{List, ◌++◌}
use lib.ListN.{length, drop, get_or, replicate, length-replicate}
use Rattle.reuse.specs.Limits.{max_customers}
use Rattle.reuse.specs.Lists.{sum}
use Rattle.reuse.proofs.Sums.{get_or-blank-row}
use Rattle.split_calls.specs.Tables.{fewest, smallest_total, chosen}
use Rattle.split_calls.specs.Cuts.{cut_summaries}
use Rattle.split_calls.proofs.Cuts.{cut-length}
use Rattle.split_calls.proofs.Fewest.{split-fewest}
use Rattle.split_calls.proofs.Choice.{choice-split}
use Rattle.split_calls.proofs.Steps.{total-is}
use Rattle.split_rows.specs.Rows.{sizes, rooms}
use Rattle.split.specs.Search.{Entries, Laying, TableLaid, Scanned, Chooses, Chosen, SplitReady, SplitFound}
use Rattle.split.proofs.Laying.{tabled-entries}

module _ (store : ℕ) (leasts words shares : List ℕ) (s : SplitReady store leasts words shares) where
  -- rows of zeros can be laid
  pub searching-laying : (n m : ℕ) → sizes * max_customers ≤ n → rooms * suc max_customers ≤ m → Laying words leasts store (replicate n 0) (replicate m 0)
  searching-laying n m h k = record {
    formed = s.formed;
    few = s.few;
    fits = s.fits;
    small = s.small;
    costs-long = omega (arith, s.few, length-replicate {A = ℕ} n 0);
    table-long = omega (arith, s.few, length-replicate {A = ℕ} m 0);
    blank = λ t. get_or-blank-row m t;
  }

  module _ (low : ℕ) (costs table : List ℕ) (d : TableLaid words leasts store low costs table) (total : ℕ) (t : Scanned table low store total) where
    -- the row of all customers
    entries : Entries (cut_summaries (length leasts) words) leasts store table
    entries = tabled-entries (cut_summaries (length leasts) words) leasts store costs table d.tabled

    -- the room found is the smallest that reaches the misses of the store
    total-found : smallest_total (cut_summaries (length leasts) words) leasts store ≡ total
    total-found =
        let w = cut_summaries (length leasts) words in
        let f : sum leasts ≤ total = omega (arith, d.in_all, t.forward) in
        let all : get_or table store 0 ≡ fewest w leasts store = entries store s.fits (omega arith) in
        total-is w leasts store total f t.inside (sym (entries total f t.inside) ∙ t.reached ∙ all)
        (λ u a b e. t.first u (omega (arith, d.in_all)) b (entries u a (omega (arith, t.inside)) ∙ e ∙ sym all))

    -- the shares in it can be read off
    pub searching-chooses : sizes * max_customers ≤ length costs → rooms * suc max_customers ≤ length table → Chooses (cut_summaries (length leasts) words) store leasts total costs table shares
    searching-chooses h k = record {
      formed = s.formed;
      each = cut-length (length leasts) words;
      few = s.few;
      fits = omega (arith, d.in_all, t.forward);
      within = t.inside;
      small = s.small;
      costs-long = omega (arith, s.few);
      table-long = omega (arith, s.few);
      room = s.room;
      tabled = d.tabled;
    }

    -- and are the split
    pub searched : sizes * max_customers ≤ length costs → rooms * suc max_customers ≤ length table → (shares' : List ℕ) → Chosen leasts total costs table shares shares'
        → SplitFound store leasts words shares (get_or table store 0) shares'
    searched h k shares' c =
        let w = cut_summaries (length leasts) words in
        record {
          misses = entries store s.fits (omega arith) ∙ sym (split-fewest w leasts store s.fits);
          found =
              c w store (searching-chooses h k)
              ∙ ap (λ (l : List ℕ). l ++ drop (length leasts) shares)
              (ap (chosen w leasts) (sym total-found) ∙ choice-split w leasts store s.fits);
        }
