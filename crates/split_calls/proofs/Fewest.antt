-- The table of fewest misses: its entries are the least over the shares that may be given, it never rises, and shares above v need not be tried.
use mathlib.Core.Path.{◌≡◌, refl}
use Prim.Native.Nat.{ℕ, zero, suc, ◌+◌, ◌-◌, ◌*◌, ◌≤◌, ◌<◌, min}
use native.Mathlib.Omega.{arith}
use mathlib.Core.List.{List, [], ◌∷◌}
use lib.Dec.{leb}
use lib.ListN.{take, drop, length-take, drop_of_length-le}
use borrow.Author.Tests.{leb-true, leb-false}
use Rattle.reuse.specs.Lists.{sum}
use Rattle.reuse.specs.Summary.{extents_of, counts_of, misses_of}
use Rattle.reuse.proofs.Lists.{by-test}
use Rattle.split_calls.specs.Split.{Allowed, Best, split_misses, split_of}
use Rattle.split_calls.specs.Tables.{lowest, fewest}
use Rattle.split_calls.proofs.Order.{by_order}
use Rattle.split_calls.proofs.Shares.{allowed-none, allowed-cons, allowed-rest, allowed-more, allowed-least, least-allowed}
use Rattle.split_calls.proofs.Best.{split-best, rank-cases}

-- the least of a run is at most each of it
pub lowest-le : (f : ℕ → ℕ) (k n s : ℕ) → k ≤ s → s ≤ k + n → lowest f k n ≤ f s
unfolding lowest
lowest-le f k zero s h l = let e : k ≡ s = omega arith in rw e (omega arith)
lowest-le f k (suc n) s h l =
    by_order k s (λ g. omega (arith, lowest-le f (suc k) n s g (omega arith))) (λ e. rw e (omega arith)) (λ g. absurd (omega arith))

-- a place in a run at which its least stands
pub record LowestAt (f : ℕ → ℕ) (k n s : ℕ) : Type 0 where
  pub low : k ≤ s
  pub high : s ≤ k + n
  pub least : f s ≡ lowest f k n

-- there is one
pub lowest-at : (f : ℕ → ℕ) (k n : ℕ) → (s : ℕ) × LowestAt f k n s
unfolding lowest
lowest-at f k zero = (k, record { low = omega arith; high = omega arith; least = refl })
lowest-at f k (suc n) =
    let (s, r) = lowest-at f (suc k) n in
    by-test (leb (f k) (lowest f (suc k) n))
    (λ e. let h : f k ≤ lowest f (suc k) n = leb-true _ _ e in (k, record { low = omega arith; high = omega arith; least = omega arith }))
    (λ e. let h : lowest f (suc k) n < f k = leb-false _ _ e in
    (s, record { low = omega (arith, r.low); high = omega (arith, r.high); least = omega (arith, r.least) }))

-- a run that does not fall past its m-th need not be looked at there
pub lowest-front : (f : ℕ → ℕ) (k n m : ℕ) → m ≤ n → ((s : ℕ) → k + m ≤ s → s ≤ k + n → f (k + m) ≤ f s) → lowest f k n ≡ lowest f k m
lowest-front f k n m h g =
    let (s, r) = lowest-at f k n in
    let (t, q) = lowest-at f k m in
    let u : lowest f k n ≤ f t = lowest-le f k n t q.low (omega (arith, q.high)) in
    let d : lowest f k m ≤ f s =
    by-test (leb s (k + m)) (λ e. lowest-le f k m s r.low (leb-true _ _ e))
    (λ e. let p : k + m < s = leb-false _ _ e in omega (arith, g s (omega arith) r.high, lowest-le f k m (k + m) (omega arith) (omega arith))) in
    omega (arith, r.least, q.least)

-- an entry is at most the misses of the first customer at a share that leaves the others theirs, and the others' entry
pub fewest-share : (w : List ℕ) (summaries : List (List ℕ)) (least : ℕ) (leasts : List ℕ) (room share : ℕ) → least ≤ share → share + sum leasts ≤ room
    → fewest (w ∷ summaries) (least ∷ leasts) room ≤ misses_of w share + fewest summaries leasts (room - share)
unfolding fewest sum
fewest-share w ws l ls room s h g = lowest-le (λ share. misses_of w share + fewest ws ls (room - share)) l (room - (l + sum ls)) s h (omega arith)

-- no shares that may be given have fewer misses than the table says
pub fewest-le : (summaries : List (List ℕ)) (leasts : List ℕ) (room : ℕ) (shares : List ℕ) → Allowed leasts room shares → fewest summaries leasts room ≤ split_misses summaries shares
unfolding split_misses sum
fewest-le [] leasts room shares a = unfold fewest in omega arith
fewest-le (w ∷ ws) [] room shares a = unfold fewest in omega arith
fewest-le (w ∷ ws) (l ∷ ls) room [] a = absurd (omega (arith, a.each))
fewest-le (w ∷ ws) (l ∷ ls) room (s ∷ shares) a =
    let b : Allowed ls (room - s) shares = allowed-rest l ls room s shares a in
    let f : s + sum shares ≤ room = a.fits in
    omega (
      arith,
      fewest-le ws ls (room - s) shares b,
      fewest-share w ws l ls room s (a.enough 0) (omega (arith, allowed-least ls (room - s) shares b)),
    )

-- some have as many
pub fewest-at : (summaries : List (List ℕ)) (leasts : List ℕ) (room : ℕ) → sum leasts ≤ room
    → (shares : List ℕ) × Allowed leasts room shares × (split_misses summaries shares ≡ fewest summaries leasts room)
unfolding fewest split_misses sum
fewest-at [] ls room h = (ls, least-allowed ls room h, refl)
fewest-at (w ∷ ws) [] room h = ([], allowed-none room, refl)
fewest-at (w ∷ ws) (l ∷ ls) room h =
    let (s, r) = lowest-at (λ share. misses_of w share + fewest ws ls (room - share)) l (room - (l + sum ls)) in
    let k : s + sum ls ≤ room = omega (arith, r.high) in
    let (shares, a, e) = fewest-at ws ls (room - s) (omega arith) in
    (s ∷ shares, allowed-cons l ls room s shares r.low (omega arith) a, omega (arith, e, r.least))

-- the table never rises as the room grows
pub fewest-falls : (summaries : List (List ℕ)) (leasts : List ℕ) (room more : ℕ) → sum leasts ≤ room → room ≤ more
    → fewest summaries leasts more ≤ fewest summaries leasts room
fewest-falls summaries leasts room more h g =
    let (shares, a, e) = fewest-at summaries leasts room h in
    omega (arith, e, fewest-le summaries leasts more shares (allowed-more leasts room more shares g a))

-- the misses of the split are those of the table
pub split-fewest : (summaries : List (List ℕ)) (leasts : List ℕ) (room : ℕ) → sum leasts ≤ room
    → split_misses summaries (split_of summaries leasts room) ≡ fewest summaries leasts room
split-fewest summaries leasts room h =
    let b : Best summaries leasts room (split_of summaries leasts room) = split-best summaries leasts room h in
    let (shares, a, e) = fewest-at summaries leasts room h in
    let l : fewest summaries leasts room ≤ split_misses summaries (split_of summaries leasts room) = fewest-le summaries leasts room (split_of summaries leasts room) b.allowed in
    rank-cases summaries (split_of summaries leasts room) shares (b.first shares a) (λ g. absurd (omega arith)) (λ q g. omega arith) (λ q t k. omega arith)

-- a share of v or more misses the cold reads alone
pub misses-past : (w : List ℕ) (share : ℕ) → extents_of w ≤ share → misses_of w share ≡ extents_of w
unfolding misses_of counts_of sum
misses-past w share h =
    rw (drop_of_length-le (take (extents_of w) (drop (2 + 2 * extents_of w) w)) {i = share} (simp length-take (omega arith))) (omega arith)

-- so no share above v and the least one need be tried
pub fewest-front : (w : List ℕ) (summaries : List (List ℕ)) (least : ℕ) (leasts : List ℕ) (room : ℕ) → sum (least ∷ leasts) ≤ room
    → fewest (w ∷ summaries) (least ∷ leasts) room
    ≡ lowest (λ share. misses_of w share + fewest summaries leasts (room - share)) least (min (room - sum (least ∷ leasts)) (extents_of w - least))
unfolding fewest sum
fewest-front w ws l ls room h =
    let n : ℕ = room - (l + sum ls) in
    let c : ℕ = l + min n (extents_of w - l) in
    lowest-front (λ share. misses_of w share + fewest ws ls (room - share)) l n (min n (extents_of w - l)) (omega arith)
    (λ s g k. by_order c s
    (λ q. let v : extents_of w ≤ c = omega arith in
    omega (arith, misses-past w c v, misses-past w s (omega arith), fewest-falls ws ls (room - s) (room - c) (omega arith) (omega arith)))
    (λ e. rw e (omega arith))
    (λ q. absurd (omega arith)))
