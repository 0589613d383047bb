-- The call, case by case: each refusal under its condition, looked at in order.
use Rattle.reuse.specs.declared.refusals.Refusal.TheVariants.{OutOfRange, NotASummary, NoRoom, StoreTooSmall}
use mathlib.Core.Path.{◌≡◌, sym, ap}
use Prim.Native.Nat.{ℕ, ◌≤◌, ◌<◌}
use mathlib.Core.List.{List}
use mathlib.Core.Bool.{true, false, and-false}
use lib.Dec.{leb}
use lib.ListN.{length}
use borrow.Author.Tests.{le-leb, lt-leb}
use Rattle.reuse.specs.Limits.{max_store, max_customers}
use Rattle.reuse.specs.Lists.{sum}
use Rattle.split_calls.specs.Cuts.{cut_summaries}
use Rattle.split_calls.specs.Calls.{Divided, turned_away, divided, customers_fit, all_formed, split_call}

-- as many customers as may be
pub customers-fit : (n : ℕ) → 1 ≤ n → n ≤ max_customers → customers_fit n ≡ true
customers-fit n a b = simp (le-leb 1 n a, le-leb n max_customers b)

-- none, or too many
pub customers-none : (n : ℕ) → n < 1 → customers_fit n ≡ false
customers-none n a = simp (lt-leb 1 n a)

pub customers-many : (n : ℕ) → max_customers < n → customers_fit n ≡ false
customers-many n a = simp (lt-leb n max_customers a, and-false (leb 1 n))

-- what a call leaves, by its answer and its shares
pub by_parts : {d e : Divided} → d ≡ e → (e.answer ≡ d.answer) × (e.shares ≡ d.shares)
by_parts q = (ap (λ (d : Divided). d.answer) (sym q), ap (λ (d : Divided). d.shares) (sym q))

module _ (store : ℕ) (leasts words shares : List ℕ) where
  -- a store that is too large
  pub call-store : max_store < store → split_call store leasts words shares ≡ turned_away OutOfRange shares
  unfolding split_call
  call-store h = rw (lt-leb store max_store h)

  module _ (a : store ≤ max_store) where
    -- a wrong number of customers
    pub call-customers : customers_fit (length leasts) ≡ false → split_call store leasts words shares ≡ turned_away OutOfRange shares
    unfolding split_call
    call-customers h = simp (le-leb store max_store a, h)

    module _ (b : customers_fit (length leasts) ≡ true) where
      -- a bad summary
      pub call-summary : all_formed (cut_summaries (length leasts) words) ≡ false → split_call store leasts words shares ≡ turned_away NotASummary shares
      unfolding split_call
      call-summary h = simp (le-leb store max_store a, b, h)

      module _ (c : all_formed (cut_summaries (length leasts) words) ≡ true) where
        -- least shares that do not fit
        pub call-least : store < sum leasts → split_call store leasts words shares ≡ turned_away StoreTooSmall shares
        unfolding split_call
        call-least h = simp (le-leb store max_store a, b, c, lt-leb (sum leasts) store h)

        module _ (d : sum leasts ≤ store) where
          -- too few words for the shares
          pub call-room : length shares < length leasts → split_call store leasts words shares ≡ turned_away NoRoom shares
          unfolding split_call
          call-room h = simp (le-leb store max_store a, b, c, le-leb (sum leasts) store d, lt-leb (length leasts) (length shares) h)

          -- no refusal
          pub call-split : length leasts ≤ length shares → split_call store leasts words shares ≡ divided (cut_summaries (length leasts) words) leasts store shares
          unfolding split_call
          call-split h = simp (le-leb store max_store a, b, c, le-leb (sum leasts) store d, le-leb (length leasts) (length shares) h)
