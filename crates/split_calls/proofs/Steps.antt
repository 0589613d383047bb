-- The table and the choice, step by step, as loops over words make them.
use mathlib.Core.Path.{◌≡◌, refl, sym, ap, ◌∙◌}
use Prim.Native.Nat.{ℕ, zero, suc, ◌+◌, ◌-◌, ◌*◌, ◌≤◌, ◌<◌, min, max}
use native.Mathlib.Omega.{arith}
use mathlib.Core.Logic.{◌≢◌}
use mathlib.Core.List.{List, [], ◌∷◌, Memᴰ}
use mathlib.Core.Bool.{true}
use lib.ListN.{length, get_or}
use borrow.Author.Tests.{eqb-true}
use Rattle.reuse.specs.Limits.{max_reads}
use Rattle.reuse.specs.Lists.{sum}
use Rattle.reuse.specs.Summary.{extents_of, counts_of, well_formed, misses_of}
use Rattle.reuse.proofs.Sums.{sum_drop}
use Rattle.reuse.proofs.Formed.{Formed, formed}
use Rattle.reuse.proofs.Misses.{hits-misses}
use Rattle.split_calls.specs.Split.{split_of}
use Rattle.split_calls.specs.Tables.{lowest, fewest, smallest_total, smallest_share, chosen}
use Rattle.split_calls.proofs.Order.{by_order}
use Rattle.split_calls.proofs.Fewest.{lowest-le, lowest-at, fewest-front}
use Rattle.split_calls.proofs.Choice.{share-first, share-reaches, total_first, total-reaches, choice-split}

-- a run one longer
pub lowest-snoc : (f : ℕ → ℕ) (k n : ℕ) → lowest f k (suc n) ≡ min (lowest f k n) (f (k + suc n))
unfolding lowest
lowest-snoc f k zero = omega (arith, ap f (let e : k + 1 ≡ suc k = omega arith in e))
lowest-snoc f k (suc n) = omega (arith, lowest-snoc f (suc k) n, ap f (let e : suc k + suc n ≡ k + suc (suc n) = omega arith in e))

-- two runs that are the same, place by place
pub lowest-same : (f g : ℕ → ℕ) (j k n : ℕ) → ((i : ℕ) → i ≤ n → f (j + i) ≡ g (k + i)) → lowest f j n ≡ lowest g k n
unfolding lowest
lowest-same f g j k zero h = let a : j + 0 ≡ j = omega arith in let b : k + 0 ≡ k = omega arith in rw (a, b) at (h 0 (omega arith))
lowest-same f g j k (suc n) h =
    let first : f j ≡ g k = (let a : j + 0 ≡ j = omega arith in let b : k + 0 ≡ k = omega arith in rw (a, b) at (h 0 (omega arith))) in
    let rest : lowest f (suc j) n ≡ lowest g (suc k) n =
    lowest-same f g (suc j) (suc k) n
    (λ i l. let a : suc j + i ≡ j + suc i = omega arith in let b : suc k + i ≡ k + suc i = omega arith in rw (a, b) (h (suc i) (omega arith))) in
    omega arith

-- one extent more saves the reads of one distance
pub misses-step : (w : List ℕ) (share : ℕ) → misses_of w share ≡ get_or (counts_of w) share 0 + misses_of w (suc share)
unfolding misses_of
misses-step w share = omega (arith, sum_drop share (counts_of w))

-- the first customer's share
module _ (w : List ℕ) (ws : List (List ℕ)) (l : ℕ) (ls : List ℕ) (room : ℕ) where
  -- it is s where s reaches the fewest misses and no smaller share does
  pub share-is : (s : ℕ) → l ≤ s → s + sum ls ≤ room → misses_of w s + fewest ws ls (room - s) ≡ fewest (w ∷ ws) (l ∷ ls) room
      → ((u : ℕ) → l ≤ u → u < s → misses_of w u + fewest ws ls (room - u) ≢ fewest (w ∷ ws) (l ∷ ls) room) → smallest_share w ws l ls room ≡ s
  share-is s g k e none =
      let r = share-first w ws l ls room s g k e in
      by_order (smallest_share w ws l ls room) s (λ q. absurd (none (smallest_share w ws l ls room) r.low q (eqb-true _ _ r.passes))) (λ q. q) (λ q. absurd (omega (arith, r.least)))

  -- where the least shares fit, it is not above both the least share and v
  pub share-small : sum (l ∷ ls) ≤ room → smallest_share w ws l ls room ≤ l + (extents_of w - l)
  share-small h =
      let e : sum (l ∷ ls) ≡ l + sum ls = unfold sum in refl in
      let (s, r) = lowest-at (λ share. misses_of w share + fewest ws ls (room - share)) l (min (room - sum (l ∷ ls)) (extents_of w - l)) in
      let q = share-first w ws l ls room s r.low (omega (arith, r.high)) (r.least ∙ sym (fewest-front w ws l ls room h)) in
      omega (arith, q.least, r.high)

-- so of every customer
chosen-small : (summaries : List (List ℕ)) (leasts : List ℕ) (room : ℕ) → sum leasts ≤ room → (i : ℕ)
    → get_or (chosen summaries leasts room) i 0 ≤ max (get_or leasts i 0) (extents_of (get_or summaries i []))
unfolding chosen
chosen-small [] ls room h i = omega arith
chosen-small (w ∷ ws) [] room h i = omega arith
chosen-small (w ∷ ws) (l ∷ ls) room h zero = omega (arith, share-small w ws l ls room h)
chosen-small (w ∷ ws) (l ∷ ls) room h (suc i) =
    let (a, b, e) = share-reaches w ws l ls room h in
    chosen-small ws ls (room - smallest_share w ws l ls room) (omega arith) i

-- and of the split
pub split-small : (summaries : List (List ℕ)) (leasts : List ℕ) (room : ℕ) → sum leasts ≤ room → (i : ℕ)
    → get_or (split_of summaries leasts room) i 0 ≤ max (get_or leasts i 0) (extents_of (get_or summaries i []))
split-small summaries leasts room h i =
    rw (← choice-split summaries leasts room h)
    (chosen-small summaries leasts (smallest_total summaries leasts room) (total-reaches summaries leasts room h).0 i)

-- the total is t where the misses are as few in t and in no smaller room
pub total-is : (summaries : List (List ℕ)) (leasts : List ℕ) (room t : ℕ) → sum leasts ≤ t → t ≤ room → fewest summaries leasts t ≡ fewest summaries leasts room
    → ((u : ℕ) → sum leasts ≤ u → u < t → fewest summaries leasts u ≢ fewest summaries leasts room) → smallest_total summaries leasts room ≡ t
total-is summaries leasts room t g k e none =
    let r = total_first summaries leasts room (omega arith) t g k e in
    by_order (smallest_total summaries leasts room) t (λ q. absurd (none (smallest_total summaries leasts room) r.low q (eqb-true _ _ r.passes))) (λ q. q) (λ q. absurd (omega (arith, r.least)))

-- a customer misses no more than the limit of reads
pub misses-small : (w : List ℕ) (share : ℕ) → well_formed w ≡ true → misses_of w share ≤ max_reads
misses-small w share f = let p : Formed w = formed w f in omega (arith, hits-misses share w p, p.short)

-- the entries of the table are no larger than the limit of reads for each customer
pub fewest-small : (summaries : List (List ℕ)) (leasts : List ℕ) (room : ℕ) → ((w : List ℕ) → Memᴰ w summaries → well_formed w ≡ true)
    → fewest summaries leasts room ≤ length summaries * max_reads
unfolding fewest
fewest-small [] leasts room f = omega arith
fewest-small (w ∷ ws) [] room f = omega arith
fewest-small (w ∷ ws) (l ∷ ls) room f =
    omega (
      arith,
      lowest-le (λ share. misses_of w share + fewest ws ls (room - share)) l (room - sum (l ∷ ls)) l (omega arith) (omega arith),
      misses-small w l (f w (Memᴰ.head refl)),
      fewest-small ws ls (room - l) (λ u m. f u (Memᴰ.tail m)),
    )
