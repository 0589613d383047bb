-- Each refusal is given exactly under its condition, in order, and leaves the shares.
use Rattle.reuse.specs.declared.refusals.Refusal.TheVariants.{OutOfRange, NotASummary, NoRoom, StoreTooSmall}
use mathlib.Core.Path.{◌≡◌, refl, ap}
use mathlib.Core.Logic.{◌⊎◌, inl, inr, ◌↔◌}
use Prim.Native.Nat.{ℕ, ◌≤◌, ◌<◌}
use native.Mathlib.Omega.{arith}
use mathlib.Core.List.{List, [], ◌∷◌, Memᴰ}
use mathlib.Core.Bool.{true, false}
use lib.Dec.{ltb}
use lib.ListN.{length}
use borrow.Author.Tests.{ltb-true, ltb-false}
use Rattle.reuse.specs.Limits.{max_store, max_customers}
use Rattle.reuse.specs.Lists.{sum}
use Rattle.reuse.specs.Summary.{well_formed}
use Rattle.reuse.proofs.Lists.{by-test, clash}
use Rattle.split_calls.specs.Cuts.{cut_summaries}
use Rattle.split_calls.specs.Calls.{Divided, turned_away, divided, customers_fit, all_formed, split_call}
use Rattle.split_calls.specs.Refusals.{split_refusal, Outside, SomeBad, Refusals}
use Rattle.split_calls.proofs.Members.{either}
use Rattle.split_calls.proofs.Cuts.{each-formed}
use Rattle.split_calls.proofs.Calls.{customers-fit, customers-none, customers-many, call-store, call-customers, call-summary, call-least, call-room, call-split}

-- a number is below another or not
below : (a b : ℕ) → (a < b) ⊎ (b ≤ a)
below a b = by-test (ltb a b) (λ e. inl (ltb-true a b e)) (λ e. inr (ltb-false a b e))

-- numbers given under four conditions, each looked at after those before it
record Chain (P Q R S : Type 0) (r : ℕ) : Type 0 where
  two : P → r ≡ 2
  five : (P → ⊥) → Q → r ≡ 5
  ten : (P → ⊥) → (Q → ⊥) → R → r ≡ 10
  six : (P → ⊥) → (Q → ⊥) → (R → ⊥) → S → r ≡ 6
  none : (P → ⊥) → (Q → ⊥) → (R → ⊥) → (S → ⊥) → r ≡ 0
  known_two : P ⊎ (P → ⊥)
  known-five : Q ⊎ (Q → ⊥)
  known-ten : R ⊎ (R → ⊥)
  known-six : S ⊎ (S → ⊥)

-- a number of the chain by cases
cases : {P Q R S G : Type 0} {r : ℕ} → Chain P Q R S r → (P → r ≡ 2 → G) → ((P → ⊥) → Q → r ≡ 5 → G) → ((P → ⊥) → (Q → ⊥) → R → r ≡ 10 → G)
    → ((P → ⊥) → (Q → ⊥) → (R → ⊥) → S → r ≡ 6 → G) → (r ≡ 0 → G) → G
cases c two five ten six none =
    either c.known_two (λ x. two x (c.two x))
    (λ a. either c.known-five (λ x. five a x (c.five a x))
    (λ b. either c.known-ten (λ x. ten a b x (c.ten a b x))
    (λ d. either c.known-six (λ x. six a b d x (c.six a b d x)) (λ x. none (c.none a b d x)))))

-- each number exactly under its condition
module _ {P Q R S : Type 0} {r : ℕ} (c : Chain P Q R S r) where
  -- the first
  exactly-two : r ≡ 2 ↔ P
  exactly-two = (λ e. cases c (λ x n. x) (λ a x n. absurd (omega arith)) (λ a b x n. absurd (omega arith)) (λ a b d x n. absurd (omega arith)) (λ n. absurd (omega arith)), c.two)

  -- the second
  exactly-five : r ≡ 5 ↔ ((P → ⊥) × Q)
  exactly-five = (λ e. cases c (λ x n. absurd (omega arith)) (λ a x n. (a, x)) (λ a b x n. absurd (omega arith)) (λ a b d x n. absurd (omega arith)) (λ n. absurd (omega arith)), λ h. c.five h.0 h.1)

  -- the third
  exactly-ten : r ≡ 10 ↔ ((P → ⊥) × (Q → ⊥) × R)
  exactly-ten = (λ e. cases c (λ x n. absurd (omega arith)) (λ a x n. absurd (omega arith)) (λ a b x n. (a, b, x)) (λ a b d x n. absurd (omega arith)) (λ n. absurd (omega arith)), λ h. c.ten h.0 h.1 h.2)

  -- the fourth
  exactly-six : r ≡ 6 ↔ ((P → ⊥) × (Q → ⊥) × (R → ⊥) × S)
  exactly-six = (λ e. cases c (λ x n. absurd (omega arith)) (λ a x n. absurd (omega arith)) (λ a b x n. absurd (omega arith)) (λ a b d x n. (a, b, d, x)) (λ n. absurd (omega arith)), λ h. c.six h.0 h.1 h.2 h.3)

-- summaries that do not all pass the test have a bad one among them
bad-one : (ws : List (List ℕ)) → all_formed ws ≡ false → SomeBad ws
unfolding all_formed
bad-one [] e = clash refl e
bad-one (w ∷ ws) e =
    by-test (well_formed w)
    (λ f. let b : SomeBad ws = bad-one ws (simp f at e) in (b.0, Memᴰ.tail b.1, b.2))
    (λ f. (w, Memᴰ.head refl, f))

module _ (store : ℕ) (leasts words shares : List ℕ) where
  -- the customers' summaries
  abbrev ss : List (List ℕ)
  ss = cut_summaries (length leasts) words

  -- the number given
  abbrev r : ℕ
  r = split_refusal (split_call store leasts words shares).answer

  -- by what the call leaves
  told : {d : Divided} → split_call store leasts words shares ≡ d → r ≡ split_refusal d.answer
  told e = ap (λ (d : Divided). split_refusal d.answer) e

  -- the numbers are in order
  in_order : (Outside store leasts → ⊥) → (store ≤ max_store) × (1 ≤ length leasts) × (length leasts ≤ max_customers)
  in_order h = (
    either (below max_store store) (λ x. absurd (h (inl x))) (λ x. x),
    either (below (length leasts) 1) (λ x. absurd (h (inr (inl x)))) (λ x. x),
    either (below max_customers (length leasts)) (λ x. absurd (h (inr (inr x)))) (λ x. x),
  )

  -- and so are the summaries
  all-good : (SomeBad ss → ⊥) → all_formed ss ≡ true
  all-good h = by-test (all_formed ss) (λ e. e) (λ e. absurd (h (bad-one ss e)))

  -- a store or a number of customers outside the limits
  two-call : Outside store leasts → split_call store leasts words shares ≡ turned_away OutOfRange shares
  two-call (inl a) = call-store store leasts words shares a
  two-call (inr x) =
      either (below max_store store) (call-store store leasts words shares)
      (λ a. call-customers store leasts words shares a (either x (customers-none (length leasts)) (customers-many (length leasts))))

  module _ (a : Outside store leasts → ⊥) where
    -- as many customers as may be
    fit : customers_fit (length leasts) ≡ true
    fit = customers-fit (length leasts) (in_order a).1 (in_order a).2

    -- a bad summary
    five-call : SomeBad ss → split_call store leasts words shares ≡ turned_away NotASummary shares
    five-call b =
        call-summary store leasts words shares (in_order a).0 fit
        (by-test (all_formed ss) (λ e. clash (each-formed ss e b.0 b.1) b.2) (λ e. e))

    module _ (b : SomeBad ss → ⊥) where
      -- least shares that do not fit
      ten-call : store < sum leasts → split_call store leasts words shares ≡ turned_away StoreTooSmall shares
      ten-call = call-least store leasts words shares (in_order a).0 fit (all-good b)

      -- too few words
      six-call : sum leasts ≤ store → length shares < length leasts → split_call store leasts words shares ≡ turned_away NoRoom shares
      six-call = call-room store leasts words shares (in_order a).0 fit (all-good b)

      -- nothing is refused
      none-call : sum leasts ≤ store → length leasts ≤ length shares → split_call store leasts words shares ≡ divided ss leasts store shares
      none-call = call-split store leasts words shares (in_order a).0 fit (all-good b)

  -- the numbers of the call
  chain : Chain (Outside store leasts) (SomeBad ss) (store < sum leasts) (length shares < length leasts) r
  unfolding divided
  chain = record {
    two = λ x. told (two-call x);
    five = λ a x. told (five-call a x);
    ten = λ a b x. told (ten-call a b x);
    six = λ a b d x. told (six-call a b (not-below d) x);
    none = λ a b d x. told (none-call a b (not-below d) (not-below x));
    known_two = outside;
    known-five = by-test (all_formed ss) (λ e. inr (λ b. clash (each-formed ss e b.0 b.1) b.2)) (λ e. inl (bad-one ss e));
    known-ten = decided (below store (sum leasts));
    known-six = decided (below (length shares) (length leasts));
  }
    where
      not-below : {x y : ℕ} → (x < y → ⊥) → y ≤ x
      not-below {x} {y} h = either (below x y) (λ l. absurd (h l)) (λ l. l)

      decided : {x y : ℕ} → (x < y) ⊎ (y ≤ x) → (x < y) ⊎ (x < y → ⊥)
      decided (inl l) = inl l
      decided (inr l) = inr (λ k. omega arith)

      outside : Outside store leasts ⊎ (Outside store leasts → ⊥)
      outside =
          either (below max_store store) (λ x. inl (inl x))
          (λ x. either (below (length leasts) 1) (λ y. inl (inr (inl y)))
          (λ y. either (below max_customers (length leasts)) (λ z. inl (inr (inr z)))
          (λ z. inr (λ o. either o (λ k. omega arith) (λ k. either k (λ l. omega arith) (λ l. omega arith))))))

  -- each is given exactly under its condition, and leaves every lent word
  pub refusals : Refusals store leasts words shares
  refusals = record {
    two = exactly-two chain;
    five = exactly-five chain;
    ten = exactly-ten chain;
    six = (
      λ e. let h = (exactly-six chain).0 e in (h.0, h.1, either (below store (sum leasts)) (λ l. absurd (h.2 l)) (λ l. l), h.3),
      λ h. (exactly-six chain).1 (h.0, h.1, (λ l. let k : sum leasts ≤ store = h.2 in omega arith), h.3),
    );
    kept = λ n.
        cases chain (λ x e. left (two-call x)) (λ a x e. left (five-call a x)) (λ a b x e. left (ten-call a b x))
        (λ a b d x e. left (six-call a b (either (below store (sum leasts)) (λ l. absurd (d l)) (λ l. l)) x)) (λ e. absurd (n e));
  }
    where
      left : {d : Divided} → split_call store leasts words shares ≡ d → (split_call store leasts words shares).shares ≡ d.shares
      left e = ap (λ (d : Divided). d.shares) e
