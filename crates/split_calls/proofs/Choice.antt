-- The choice from the table is the split.
use mathlib.Core.Path.{◌≡◌, refl, ◌∙◌}
use Prim.Native.Nat.{ℕ, zero, suc, ◌+◌, ◌-◌, ◌≤◌}
use native.Mathlib.Omega.{arith}
use mathlib.Core.List.{List, [], ◌∷◌}
use mathlib.Core.Bool.{Bool, true}
use lib.Dec.{eqb}
use borrow.Author.Tests.{eqb-true, eq-eqb}
use Rattle.reuse.specs.Lists.{sum}
use Rattle.reuse.specs.Summary.{misses_of}
use Rattle.reuse.proofs.Lists.{by-test, clash}
use Rattle.split_calls.specs.Split.{Allowed, Best, split_misses, split_of, not_after}
use Rattle.split_calls.specs.Tables.{fewest, first_from, smallest_total, smallest_share, chosen}
use Rattle.split_calls.proofs.Order.{by_order, before-less, before_same}
use Rattle.split_calls.proofs.Shares.{allowed-none, allowed-cons, allowed-rest, allowed-more, allowed-total, allowed-least, least-allowed}
use Rattle.split_calls.proofs.Best.{split-best, best-one, rank-misses, rank-total, rank-shares}
use Rattle.split_calls.proofs.Fewest.{lowest-at, fewest-share, fewest-le, fewest-falls}

-- r is k or more, passes a test, and is no larger than s
pub record First (p : ℕ → Bool) (k s r : ℕ) : Type 0 where
  pub low : k ≤ r
  pub passes : p r ≡ true
  pub least : r ≤ s

-- the first of a run that passes is no larger than any s of the run that does
pub first-law : (p : ℕ → Bool) (k n s : ℕ) → k ≤ s → s ≤ k + n → p s ≡ true → First p k s (first_from p k n)
unfolding first_from
first-law p k zero s h l e = let q : s ≡ k = omega arith in record { low = omega arith; passes = rw q at e; least = h }
first-law p k (suc n) s h l e =
    by-test (p k) (λ t. simp t (record { low = omega arith; passes = t; least = h }))
    (λ t. simp t
    (by_order k s
    (λ g. let r = first-law p (suc k) n s g (omega arith) e in record { low = omega (arith, r.low); passes = r.passes; least = r.least })
    (λ q. clash e (rw (← q) t))
    (λ g. absurd (omega arith))))

-- the first customer's share
module _ (w : List ℕ) (ws : List (List ℕ)) (l : ℕ) (ls : List ℕ) (room : ℕ) where
  -- it is no larger than any with which the fewest misses are reached
  pub share-first : (s : ℕ) → l ≤ s → s + sum ls ≤ room → misses_of w s + fewest ws ls (room - s) ≡ fewest (w ∷ ws) (l ∷ ls) room
      → First (λ share. eqb (misses_of w share + fewest ws ls (room - share)) (fewest (w ∷ ws) (l ∷ ls) room)) l s (smallest_share w ws l ls room)
  unfolding smallest_share sum
  share-first s g k e =
      first-law (λ share. eqb (misses_of w share + fewest ws ls (room - share)) (fewest (w ∷ ws) (l ∷ ls) room)) l (room - (l + sum ls)) s g (omega arith)
      (eq-eqb _ _ e)

  -- where the least shares fit, the fewest misses are reached with it, and it leaves the others theirs
  pub share-reaches : sum (l ∷ ls) ≤ room → (l ≤ smallest_share w ws l ls room) × (smallest_share w ws l ls room + sum ls ≤ room)
      × (misses_of w (smallest_share w ws l ls room) + fewest ws ls (room - smallest_share w ws l ls room) ≡ fewest (w ∷ ws) (l ∷ ls) room)
  unfolding fewest sum
  share-reaches h =
      let (s, r) = lowest-at (λ share. misses_of w share + fewest ws ls (room - share)) l (room - (l + sum ls)) in
      let k : s + sum ls ≤ room = omega (arith, r.high) in
      let f = share-first s r.low k r.least in
      (f.low, omega (arith, f.least), eqb-true _ _ f.passes)

-- shares chosen one after the other may be given
pub chosen-allowed : (summaries : List (List ℕ)) (leasts : List ℕ) (room : ℕ) → sum leasts ≤ room → Allowed leasts room (chosen summaries leasts room)
unfolding chosen
chosen-allowed [] ls room h = least-allowed ls room h
chosen-allowed (w ∷ ws) [] room h = allowed-none room
chosen-allowed (w ∷ ws) (l ∷ ls) room h =
    let (a, b, e) = share-reaches w ws l ls room h in
    allowed-cons l ls room (smallest_share w ws l ls room) (chosen ws ls (room - smallest_share w ws l ls room)) a (omega arith) (chosen-allowed ws ls (room - smallest_share w ws l ls room) (omega arith))

-- they have the fewest misses
pub chosen-misses : (summaries : List (List ℕ)) (leasts : List ℕ) (room : ℕ) → sum leasts ≤ room
    → split_misses summaries (chosen summaries leasts room) ≡ fewest summaries leasts room
unfolding chosen split_misses
chosen-misses [] ls room h = unfold fewest in refl
chosen-misses (w ∷ ws) [] room h = unfold fewest in refl
chosen-misses (w ∷ ws) (l ∷ ls) room h =
    let (a, b, e) = share-reaches w ws l ls room h in
    omega (arith, e, chosen-misses ws ls (room - smallest_share w ws l ls room) (omega arith))

-- the least shares are not after any others that may be given
least_first : (leasts : List ℕ) (room : ℕ) (shares : List ℕ) → Allowed leasts room shares → not_after leasts shares ≡ true
least_first [] room shares a = unfold not_after in refl
least_first (l ∷ ls) room [] a = absurd (omega (arith, a.each))
least_first (l ∷ ls) room (s ∷ shares) a =
    by_order l s (before-less l s ls shares) (λ e. before_same l s ls shares e (least_first ls (room - s) shares (allowed-rest l ls room s shares a)))
    (λ g. absurd (omega (arith, a.enough 0)))

-- the chosen shares are not after any others with the fewest misses
pub chosen-first : (summaries : List (List ℕ)) (leasts : List ℕ) (room : ℕ) (shares : List ℕ) → Allowed leasts room shares
    → split_misses summaries shares ≡ fewest summaries leasts room → not_after (chosen summaries leasts room) shares ≡ true
unfolding chosen split_misses
chosen-first [] ls room shares a e = least_first ls room shares a
chosen-first (w ∷ ws) [] room shares a e = unfold not_after in refl
chosen-first (w ∷ ws) (l ∷ ls) room [] a e = absurd (omega (arith, a.each))
chosen-first (w ∷ ws) (l ∷ ls) room (s ∷ shares) a e =
    let b : Allowed ls (room - s) shares = allowed-rest l ls room s shares a in
    let f : s + sum shares ≤ room = unfold sum in a.fits in
    let k : s + sum ls ≤ room = omega (arith, allowed-least ls (room - s) shares b) in
    let u : fewest (w ∷ ws) (l ∷ ls) room ≤ misses_of w s + fewest ws ls (room - s) = fewest-share w ws l ls room s (a.enough 0) k in
    let d : fewest ws ls (room - s) ≤ split_misses ws shares = fewest-le ws ls (room - s) shares b in
    let r = share-first w ws l ls room s (a.enough 0) k (omega arith) in
    by_order (smallest_share w ws l ls room) s
    (before-less (smallest_share w ws l ls room) s (chosen ws ls (room - smallest_share w ws l ls room)) shares)
    (λ q. before_same (smallest_share w ws l ls room) s (chosen ws ls (room - smallest_share w ws l ls room)) shares q
    (rw q (chosen-first ws ls (room - s) shares b (omega arith))))
    (λ g. absurd (omega (arith, r.least)))

-- the total and the choice for it, where the least shares fit
module _ (summaries : List (List ℕ)) (leasts : List ℕ) (room : ℕ) (h : sum leasts ≤ room) where
  -- the total is no larger than any room in which the misses are as few
  pub total_first : (t : ℕ) → sum leasts ≤ t → t ≤ room → fewest summaries leasts t ≡ fewest summaries leasts room
      → First (λ t. eqb (fewest summaries leasts t) (fewest summaries leasts room)) (sum leasts) t (smallest_total summaries leasts room)
  unfolding smallest_total
  total_first t g k e =
      first-law (λ t. eqb (fewest summaries leasts t) (fewest summaries leasts room)) (sum leasts) (room - sum leasts) t g (omega arith) (eq-eqb _ _ e)

  -- in it the least shares fit, and the misses are as few
  pub total-reaches : (sum leasts ≤ smallest_total summaries leasts room) × (smallest_total summaries leasts room ≤ room)
      × (fewest summaries leasts (smallest_total summaries leasts room) ≡ fewest summaries leasts room)
  total-reaches = let r = total_first room h (omega arith) refl in (r.low, r.least, eqb-true _ _ r.passes)

  -- shares with the fewest misses have no smaller total
  pub total-least : (shares : List ℕ) → Allowed leasts room shares → split_misses summaries shares ≡ fewest summaries leasts room
      → smallest_total summaries leasts room ≤ sum shares
  total-least shares a e =
      let l : sum leasts ≤ sum shares = allowed-least leasts room shares a in
      let u : fewest summaries leasts (sum shares) ≤ split_misses summaries shares = fewest-le summaries leasts (sum shares) shares (allowed-total leasts room shares a) in
      let d : fewest summaries leasts room ≤ fewest summaries leasts (sum shares) = fewest-falls summaries leasts (sum shares) room l a.fits in
      (total_first (sum shares) l a.fits (omega arith)).least

  -- the choice is what 02 asks for
  pub choice-best : Best summaries leasts room (chosen summaries leasts (smallest_total summaries leasts room))
  choice-best =
      let t : ℕ = smallest_total summaries leasts room in
      let c : List ℕ = chosen summaries leasts t in
      let (l, k, e) = total-reaches in
      let a : Allowed leasts t c = chosen-allowed summaries leasts t l in
      let b : Allowed leasts room c = allowed-more leasts t room c k a in
      let m : split_misses summaries c ≡ fewest summaries leasts room = chosen-misses summaries leasts t l ∙ e in
      let n : t ≤ sum c = total-least c b m in
      record {
        allowed = b;
        first = λ x p.
            let u : fewest summaries leasts room ≤ split_misses summaries x = fewest-le summaries leasts room x p in
            by_order (split_misses summaries c) (split_misses summaries x) (rank-misses summaries c x)
            (λ q. let v : t ≤ sum x = total-least x p (omega arith) in
            by_order (sum c) (sum x) (rank-total summaries c x q)
            (λ s. rank-shares summaries c x q s
            (chosen-first summaries leasts t x (record { each = p.each; enough = p.enough; fits = omega (arith, a.fits) }) (omega arith)))
            (λ g. absurd (omega (arith, a.fits))))
            (λ g. absurd (omega arith));
      }

  -- so it is the split
  pub choice-split : chosen summaries leasts (smallest_total summaries leasts room) ≡ split_of summaries leasts room
  choice-split =
      best-one summaries leasts room (chosen summaries leasts (smallest_total summaries leasts room)) (split_of summaries leasts room) choice-best
      (split-best summaries leasts room h)
