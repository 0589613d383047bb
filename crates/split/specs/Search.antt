-- What the steps of the search stand on, and what they leave.
use Rattle.std.specs.Prelude.{ℕ, suc, ◌+◌, ◌-◌, ◌*◌, ◌≤◌, ◌<◌, ◌^◌, min, ◌≡◌, ◌≢◌, List, [], ◌∷◌, ◌++◌, true, length, drop, get_or}
use Rattle.reuse.specs.Limits.{max_extents, max_store, max_customers}
use Rattle.reuse.specs.Lists.{sum}
use Rattle.reuse.specs.Summary.{misses_of}
use Rattle.split_calls.specs.Split.{split_misses, split_of}
use Rattle.split_calls.specs.Tables.{fewest, chosen}
use Rattle.split_calls.specs.Cuts.{cut_summaries}
use Rattle.split_calls.specs.Calls.{all_formed}
use Rattle.split_rows.specs.Rows.{sizes, rooms}

-- at the front of a row the misses of a summary at each size
abbrev pub Costs : List ℕ → List ℕ → Type 0
Costs w row = (s : ℕ) → s < sizes → get_or row s 0 ≡ misses_of w s

-- at the front of a row, in each room that holds their least shares, the fewest misses of these customers
abbrev pub Entries : List (List ℕ) → List ℕ → ℕ → List ℕ → Type 0
Entries summaries leasts store row = (t : ℕ) → sum leasts ≤ t → t ≤ store → get_or row t 0 ≡ fewest summaries leasts t

-- the table of these customers: the row of all of them, the first one's misses, and the table of the others
abbrev pub Tabled : List (List ℕ) → List ℕ → ℕ → List ℕ → List ℕ → Type 0
Tabled [] leasts store costs table = Entries [] leasts store table
Tabled (w ∷ ws) [] store costs table = Entries (w ∷ ws) [] store table
Tabled (w ∷ ws) (least ∷ leasts) store costs table =
    Entries (w ∷ ws) (least ∷ leasts) store table × Costs w costs × Tabled ws leasts store (drop sizes costs) (drop rooms table)

-- words that can be cut for n customers
pub record Cuttable (words : List ℕ) (n : ℕ) : Type 0 where
  pub formed : all_formed (cut_summaries n words) ≡ true
  pub some : 0 < n

-- customers whose table can be laid into a blank one
pub record Laying (words leasts : List ℕ) (store : ℕ) (costs table : List ℕ) : Type 0 where
  pub formed : all_formed (cut_summaries (length leasts) words) ≡ true
  pub few : length leasts ≤ max_customers
  pub fits : sum leasts ≤ store
  pub small : store ≤ max_store
  pub costs-long : sizes * length leasts ≤ length costs
  pub table-long : rooms * suc (length leasts) ≤ length table
  pub blank : (t : ℕ) → get_or table t 0 ≡ 0

-- their least shares in all, and their table
pub record TableLaid (words leasts : List ℕ) (store r : ℕ) (costs table : List ℕ) : Type 0 where
  pub in_all : r ≡ sum leasts
  pub tabled : Tabled (cut_summaries (length leasts) words) leasts store costs table

-- rooms that can be looked through
pub record Scanning (row : List ℕ) (low store : ℕ) : Type 0 where
  pub forward : low ≤ store
  pub inside : store < length row

-- the first with as few misses as the store
pub record Scanned (row : List ℕ) (low store r : ℕ) : Type 0 where
  pub forward : low ≤ r
  pub inside : r ≤ store
  pub reached : get_or row r 0 ≡ get_or row store 0
  pub first : (u : ℕ) → low ≤ u → u < r → get_or row u 0 ≢ get_or row store 0

-- the misses of a customer with a share, and of the others with what is left of `left`
abbrev pub with_share : List ℕ → List ℕ → ℕ → ℕ → ℕ
with_share costs others left share = get_or costs (min share max_extents) 0 + get_or others (left - share) 0

-- rows in which some share from the least on reaches these misses
pub record Seeking (costs others : List ℕ) (misses least left : ℕ) : Type 0 where
  pub some : ℕ
  pub low : least ≤ some
  pub high : some ≤ left
  pub reached : with_share costs others left some ≡ misses
  pub costs-long : sizes ≤ length costs
  pub others-long : left < length others
  pub small : (share : ℕ) → least ≤ share → share ≤ some → with_share costs others left share < 2 ^ 32

-- the first that does
pub record Sought (costs others : List ℕ) (misses least left r : ℕ) : Type 0 where
  pub low : least ≤ r
  pub high : r ≤ left
  pub reached : with_share costs others left r ≡ misses
  pub first : (u : ℕ) → least ≤ u → u < r → with_share costs others left u ≢ misses

-- these customers' shares of the room `left` can be read off their table
pub record Chooses (summaries : List (List ℕ)) (store : ℕ) (leasts : List ℕ) (left : ℕ) (costs table shares : List ℕ) : Type 0 where
  pub formed : all_formed summaries ≡ true
  pub each : length summaries ≡ length leasts
  pub few : length leasts ≤ max_customers
  pub fits : sum leasts ≤ left
  pub within : left ≤ store
  pub small : store ≤ max_store
  pub costs-long : sizes * length leasts ≤ length costs
  pub table-long : rooms * suc (length leasts) ≤ length table
  pub room : length leasts ≤ length shares
  pub tabled : Tabled summaries leasts store costs table

-- those of some customers and some store
abbrev pub Choosing : List ℕ → ℕ → List ℕ → List ℕ → List ℕ → Type 0
Choosing leasts left costs table shares = (summaries : List (List ℕ)) × (store : ℕ) × Chooses summaries store leasts left costs table shares

-- their shares at the front
abbrev pub Chosen : List ℕ → ℕ → List ℕ → List ℕ → List ℕ → List ℕ → Type 0
Chosen leasts left costs table shares shares' =
    (summaries : List (List ℕ)) (store : ℕ) → Chooses summaries store leasts left costs table shares
    → shares' ≡ chosen summaries leasts left ++ drop (length leasts) shares

-- a split that is not refused
pub record SplitReady (store : ℕ) (leasts words shares : List ℕ) : Type 0 where
  pub formed : all_formed (cut_summaries (length leasts) words) ≡ true
  pub few : length leasts ≤ max_customers
  pub fits : sum leasts ≤ store
  pub small : store ≤ max_store
  pub room : length leasts ≤ length shares

-- the split found
pub record SplitFound (store : ℕ) (leasts words shares : List ℕ) (r : ℕ) (shares' : List ℕ) : Type 0 where
  pub misses : r ≡ split_misses (cut_summaries (length leasts) words) (split_of (cut_summaries (length leasts) words) leasts store)
  pub found : shares' ≡ split_of (cut_summaries (length leasts) words) leasts store ++ drop (length leasts) shares
