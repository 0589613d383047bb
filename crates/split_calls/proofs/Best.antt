-- The split may be given, and no others that may come before it; there is one such list of shares only.
use mathlib.Core.Path.{◌≡◌, refl, sym, ap}
use Prim.Native.Nat.{ℕ, ◌≤◌, ◌<◌}
use native.Mathlib.Omega.{arith}
use mathlib.Core.Logic.{◌⊎◌, inl, inr}
use mathlib.Core.List.Memᴰ
use mathlib.Core.List.{List, [], ◌∷◌, map, Memᴰ}
use mathlib.Core.Bool.{true, false}
use lib.Dec.{ltb}
use lib.ListN.{drop}
use borrow.Author.Tests.{ltb-true, lt-ltb, le-ltb, eq-eqb, ne_eqb}
use Rattle.reuse.specs.Lists.{sum}
use Rattle.reuse.specs.Summary.{summary_of}
use Rattle.reuse.proofs.Lists.{by-test, clash}
use Rattle.reuse.proofs.Misses.{summary-cache}
use Rattle.split_calls.specs.Split.{Allowed, Best, share_lists, split_misses, cached_misses, better, best_after, best_of, split_of, not_after, rank}
use Rattle.split_calls.proofs.Members.{either}
use Rattle.split_calls.proofs.Shares.{listed-allowed, allowed-listed, least-allowed}
use Rattle.split_calls.proofs.Order.{by_order, before-less, before_same, before-cases, before-refl, before-trans, before-same-list, Ordered, shares-ordered}

-- two lists of shares by their ranks
module _ (summaries : List (List ℕ)) (a b : List ℕ) where
  -- fewer misses rank before
  pub rank-misses : split_misses summaries a < split_misses summaries b → not_after (rank summaries a) (rank summaries b) ≡ true
  unfolding rank
  rank-misses h = before-less (split_misses summaries a) (split_misses summaries b) (sum a ∷ a) (sum b ∷ b) h

  -- as many misses with a smaller total
  pub rank-total : split_misses summaries a ≡ split_misses summaries b → sum a < sum b → not_after (rank summaries a) (rank summaries b) ≡ true
  unfolding rank
  rank-total e h =
      before_same (split_misses summaries a) (split_misses summaries b) (sum a ∷ a) (sum b ∷ b) e (before-less (sum a) (sum b) a b h)

  -- the same misses and total, and shares that are not after
  pub rank-shares : split_misses summaries a ≡ split_misses summaries b → sum a ≡ sum b → not_after a b ≡ true → not_after (rank summaries a) (rank summaries b) ≡ true
  unfolding rank
  rank-shares e t h =
      before_same (split_misses summaries a) (split_misses summaries b) (sum a ∷ a) (sum b ∷ b) e (before_same (sum a) (sum b) a b t h)

  -- better shares rank before
  pub better-rank : better summaries a b ≡ true → not_after (rank summaries a) (rank summaries b) ≡ true
  unfolding better
  better-rank h =
      by_order (split_misses summaries a) (split_misses summaries b) rank-misses
      (λ e. by-test (ltb (sum a) (sum b)) (λ t. rank-total e (ltb-true (sum a) (sum b) t))
      (λ t. clash h (simp (le-ltb (split_misses summaries a) (split_misses summaries b) (omega arith), eq-eqb _ _ e, t))))
      (λ g. clash h (simp (le-ltb (split_misses summaries a) (split_misses summaries b) (omega arith), ne_eqb (split_misses summaries a) (split_misses summaries b) (λ q. omega arith))))

  -- shares that are not after others than which they are no worse rank before them
  pub kept-rank : better summaries b a ≡ false → not_after a b ≡ true → not_after (rank summaries a) (rank summaries b) ≡ true
  unfolding better
  kept-rank h k =
      by_order (split_misses summaries a) (split_misses summaries b) rank-misses
      (λ e. by_order (sum a) (sum b) (rank-total e) (λ t. rank-shares e t k)
      (λ t. clash (simp (le-ltb (split_misses summaries b) (split_misses summaries a) (omega arith), eq-eqb _ _ (sym e), lt-ltb (sum b) (sum a) t)) h))
      (λ g. clash (simp (lt-ltb (split_misses summaries b) (split_misses summaries a) g)) h)

-- the best kept is one of the lists
kept_in_lem : (summaries : List (List ℕ)) (a : List ℕ) (l : List (List ℕ)) → Memᴰ (best_after summaries a l) (a ∷ l)
unfolding best_after
kept_in_lem summaries a [] = Memᴰ.head refl
kept_in_lem summaries a (b ∷ l) =
    by-test (better summaries b a) (λ e. simp e (Memᴰ.tail (kept_in_lem summaries b l)))
    (λ e. simp e (either (Memᴰ.cases_cons (kept_in_lem summaries a l)) (λ q. Memᴰ.head q) (λ m. Memᴰ.tail (Memᴰ.tail m))))

-- and none of them ranks before it
kept-first : (summaries : List (List ℕ)) (a : List ℕ) (l : List (List ℕ)) → Ordered (a ∷ l) → (x : List ℕ) → Memᴰ x (a ∷ l)
    → not_after (rank summaries (best_after summaries a l)) (rank summaries x) ≡ true
unfolding best_after
kept-first summaries a [] o x m = rw (Memᴰ.eq_of_singleton m) (before-refl (rank summaries a))
kept-first summaries a (b ∷ l) o x m =
    by-test (better summaries b a)
    (λ e. simp e
    (either (Memᴰ.cases_cons m)
    (λ q. rw q (before-trans (rank summaries (best_after summaries b l)) (rank summaries b) (rank summaries a)
    (kept-first summaries b l o.1 b (Memᴰ.head refl)) (better-rank summaries b a e)))
    (kept-first summaries b l o.1 x)))
    (λ e. simp e
    (let s : Ordered (a ∷ l) = (λ y n. o.0 y (Memᴰ.tail n), o.1.1) in
    either (Memᴰ.cases_cons m) (λ q. kept-first summaries a l s x (Memᴰ.head q))
    (λ n. either (Memᴰ.cases_cons n)
    (λ q. rw q (before-trans (rank summaries (best_after summaries a l)) (rank summaries a) (rank summaries b)
    (kept-first summaries a l s a (Memᴰ.head refl)) (kept-rank summaries a b e (o.0 b (Memᴰ.head refl)))))
    (λ k. kept-first summaries a l s x (Memᴰ.tail k)))))

-- the best of lists in order: one of them, and none of them ranks before it
best-listed : (summaries : List (List ℕ)) (l : List (List ℕ)) → Ordered l → (a : List ℕ) → Memᴰ a l
    → Memᴰ (best_of summaries l) l × ((x : List ℕ) → Memᴰ x l → not_after (rank summaries (best_of summaries l)) (rank summaries x) ≡ true)
unfolding best_of
best-listed summaries [] o a m = absurd (Memᴰ.not-nil m)
best-listed summaries (b ∷ l) o a m = (kept_in_lem summaries b l, kept-first summaries b l o)

-- where the least shares fit, the split is what 02 asks for
pub split-best : (summaries : List (List ℕ)) (leasts : List ℕ) (room : ℕ) → sum leasts ≤ room → Best summaries leasts room (split_of summaries leasts room)
unfolding split_of
split-best summaries leasts room h =
    let (m, f) = best-listed summaries (share_lists leasts room) (shares-ordered leasts room) leasts (allowed-listed leasts room leasts (least-allowed leasts room h)) in
    record {
      allowed = listed-allowed leasts room (best_of summaries (share_lists leasts room)) m;
      first = λ others a. f others (allowed-listed leasts room others a);
    }

-- there is no other such list of shares
pub best-one : (summaries : List (List ℕ)) (leasts : List ℕ) (room : ℕ) (a b : List ℕ) → Best summaries leasts room a → Best summaries leasts room b → a ≡ b
unfolding rank
best-one summaries leasts room a b p q = ap (drop 2) (before-same-list (rank summaries a) (rank summaries b) (p.first b q.allowed) (q.first a p.allowed))

-- what the order of ranks says: more misses, or as many with a larger total, or as many with the same total and shares that are not before
pub rank-cases : {G : Type 0} (summaries : List (List ℕ)) (a b : List ℕ) → not_after (rank summaries a) (rank summaries b) ≡ true
    → (split_misses summaries a < split_misses summaries b → G)
    → (split_misses summaries a ≡ split_misses summaries b → sum a < sum b → G)
    → (split_misses summaries a ≡ split_misses summaries b → sum a ≡ sum b → not_after a b ≡ true → G)
    → G
unfolding rank
rank-cases summaries a b h fewer smaller before =
    before-cases (split_misses summaries a) (split_misses summaries b) (sum a ∷ a) (sum b ∷ b) h fewer
    (λ e k. before-cases (sum a) (sum b) a b k (smaller e) (before e))

-- of any other shares that may be given the misses are more, or as many with a larger total, or as many with the same total and the shares are not before
pub split-least : (summaries : List (List ℕ)) (leasts : List ℕ) (room : ℕ) → sum leasts ≤ room → (others : List ℕ) → Allowed leasts room others
    → let split : List ℕ = split_of summaries leasts room in
    (split_misses summaries split < split_misses summaries others)
    ⊎ (((split_misses summaries split ≡ split_misses summaries others) × (sum split < sum others))
    ⊎ ((split_misses summaries split ≡ split_misses summaries others) × (sum split ≡ sum others) × (not_after split others ≡ true)))
split-least summaries leasts room h others a =
    rank-cases summaries (split_of summaries leasts room) others ((split-best summaries leasts room h).first others a) (λ m. inl m)
    (λ m t. inr (inl (m, t)))
    (λ m t b. inr (inr (m, t, b)))

-- the misses from the summaries of logs are those of the caches
pub split-caches : (logs : List (List ℕ)) (shares : List ℕ) → split_misses (map summary_of logs) shares ≡ cached_misses logs shares
unfolding split_misses cached_misses
split-caches [] shares = refl
split-caches (t ∷ logs) [] = refl
split-caches (t ∷ logs) (share ∷ shares) = omega (arith, summary-cache share t, split-caches logs shares)
