-- `split::split` meets its contract.
use Rattle.std.specs.Prelude.{Ok}
use Rattle.split_calls.proofs.Calls.{by_parts, customers-fit, customers-none, customers-many, call-store, call-customers, call-summary, call-least, call-room, call-split}
use Rattle.split_calls.specs.Calls.{customers_fit, all_formed, divided}
use Rattle.split_calls.specs.Cuts.{cut_summaries}
use Rattle.reuse_rows.proofs.Totals.{few-total}
use Rattle.reuse.specs.Lists.{sum}
use Rattle.reuse.specs.Limits.{max_store}
use lib.ListN.{length}
use native.Mathlib.Omega.{arith}
use Prim.Native.Nat.{◌≤◌}
use mathlib.Core.Bool.{true}
use mathlib.Core.Path.{◌≡◌, sym, ap, ◌∙◌}
use Rattle.split.proofs.split.Goals as goal
use Rattle.split.proofs.split.Goals.{After-total}

-- where the least shares are added up, all before them is in order
known : (c : After-total) →
    let a = c.args in
    (a.store ≤ max_store) × (customers_fit (length a.leasts.now) ≡ true) × (all_formed (cut_summaries (length a.leasts.now) a.summaries.now) ≡ true) × (c.total.result ≡ sum a.leasts.now)
known c = (
  omega arith,
  customers-fit (length c.args.leasts.now) (omega arith) (omega arith),
  sym c.all_formed.ensures ∙ c.if-not-all_formed.false,
  c.total.ensures.0 ∙ few-total _ (omega arith),
)

pub returns-then-room-gt-MAX_STORE : goal.returns-then-room-gt-MAX_STORE
returns-then-room-gt-MAX_STORE c = by_parts (call-store _ _ _ _ (omega arith))

pub returns-then-customers-lt1 : goal.returns-then-customers-lt1
returns-then-customers-lt1 c = by_parts (call-customers _ _ _ _ (omega arith) (customers-none (length c.args.leasts.now) (omega arith)))

pub returns-then-customers-gt-MAX_CUSTOMERS : goal.returns-then-customers-gt-MAX_CUSTOMERS
returns-then-customers-gt-MAX_CUSTOMERS c = by_parts (call-customers _ _ _ _ (omega arith) (customers-many (length c.args.leasts.now) (omega arith)))

pub returns-then-not-all_formed : goal.returns-then-not-all_formed
returns-then-not-all_formed c =
    by_parts (call-summary _ _ _ _ (omega arith) (customers-fit (length c.args.leasts.now) (omega arith) (omega arith)) (sym c.all_formed.ensures ∙ c.if-not-all_formed.true))

pub returns-then-short : goal.returns-then-short
returns-then-short c =
    let (s, n, f, e) = known (goal.at.returns-then-short c).After-total in
    by_parts (call-least _ _ _ _ s n f (omega arith))

pub returns-then-shares-customers : goal.returns-then-shares-customers
returns-then-shares-customers c =
    let (s, n, f, e) = known (goal.at.returns-then-shares-customers c).After-total in
    by_parts (call-room _ _ _ _ s n f (omega arith) (omega arith))

pub search-requires : goal.search-requires
search-requires c =
    let (s, n, f, e) = known (goal.at.search-requires c).After-total in
    record { formed = f; few = omega arith; fits = omega arith; small = s; room = omega arith }

pub returns : goal.returns
unfolding divided
returns c =
    let a = c.args in
    let (s, n, f, e) = known (goal.at.returns c).After-total in
    let r = c.search.ensures in
    let p = by_parts (call-split a.store a.leasts.now a.summaries.now a.shares.now s n f (omega arith) (omega arith)) in
    (ap Ok r.misses ∙ p.0, r.found ∙ p.1)
