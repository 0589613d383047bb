-- Which shares may be given: those of `share_lists`, and some exactly if the least shares fit.
use mathlib.Core.Path.{◌≡◌, refl, ap}
use Prim.Native.Nat.{ℕ, zero, suc, ◌+◌, ◌-◌, ◌≤◌, ◌<◌}
use native.Mathlib.Omega.{arith}
use mathlib.Core.Logic.{◌↔◌}
use mathlib.Core.List.Memᴰ
use mathlib.Core.List.{List, [], ◌∷◌, map, Memᴰ}
use lib.ListN.{get_or}
use Rattle.reuse.specs.Lists.{from, sum}
use Rattle.split_calls.specs.Split.{Allowed, share_lists}
use Rattle.split_calls.proofs.Members.{mem-map, map-mem, mem-flat, flat-mem, from-range, range-from}

-- no customers have no shares
pub allowed-none : (room : ℕ) → Allowed [] room []
unfolding sum
allowed-none room = record { each = refl; enough = λ i. omega arith; fits = omega arith }

-- a first share, and the others'
module _ (least : ℕ) (leasts : List ℕ) (room share : ℕ) (shares : List ℕ) where
  -- both may be given where the first is in its range
  pub allowed-cons : least ≤ share → share ≤ room → Allowed leasts (room - share) shares → Allowed (least ∷ leasts) room (share ∷ shares)
  unfolding sum
  allowed-cons h l a = record {
    each = ap suc a.each;
    enough = go;
    fits = omega (arith, a.fits);
  }
    where
      go : (i : ℕ) → get_or (least ∷ leasts) i 0 ≤ get_or (share ∷ shares) i 0
      go zero = h
      go (suc i) = a.enough i

  -- the others' have the rest of the room
  pub allowed-rest : Allowed (least ∷ leasts) room (share ∷ shares) → Allowed leasts (room - share) shares
  unfolding sum
  allowed-rest a = record {
    each = omega (arith, a.each);
    enough = λ i. a.enough (suc i);
    fits = omega (arith, a.fits);
  }

-- more room allows them too
pub allowed-more : (leasts : List ℕ) (room more : ℕ) (shares : List ℕ) → room ≤ more → Allowed leasts room shares → Allowed leasts more shares
allowed-more leasts room more shares h a = record { each = a.each; enough = a.enough; fits = omega (arith, a.fits) }

-- and so does their own total
pub allowed-total : (leasts : List ℕ) (room : ℕ) (shares : List ℕ) → Allowed leasts room shares → Allowed leasts (sum shares) shares
allowed-total leasts room shares a = record { each = a.each; enough = a.enough; fits = omega arith }

-- they add up to no less than the least shares
pub allowed-least : (leasts : List ℕ) (room : ℕ) (shares : List ℕ) → Allowed leasts room shares → sum leasts ≤ sum shares
unfolding sum
allowed-least [] room shares a = omega arith
allowed-least (least ∷ leasts) room [] a = absurd (omega (arith, a.each))
allowed-least (least ∷ leasts) room (share ∷ shares) a =
    omega (arith, a.enough 0, allowed-least leasts (room - share) shares (allowed-rest least leasts room share shares a))

-- the least shares themselves may be given where they fit
pub least-allowed : (leasts : List ℕ) (room : ℕ) → sum leasts ≤ room → Allowed leasts room leasts
least-allowed leasts room h = record { each = refl; enough = λ i. omega arith; fits = h }

-- each of the lists may be given
pub listed-allowed : (leasts : List ℕ) (room : ℕ) (shares : List ℕ) → Memᴰ shares (share_lists leasts room) → Allowed leasts room shares
unfolding share_lists
listed-allowed [] room shares m = rw (Memᴰ.eq_of_singleton m) (allowed-none room)
listed-allowed (least ∷ leasts) room shares m =
    let (share, n, k) = flat-mem _ (from least (suc room - least)) m in
    let (rest, i, e) = map-mem (λ r. share ∷ r) (share_lists leasts (room - share)) k in
    let q : (least ≤ share) × (share < least + (suc room - least)) = from-range least (suc room - least) share n in
    rw e (allowed-cons least leasts room share rest q.0 (omega arith) (listed-allowed leasts (room - share) rest i))

-- and each that may be given is listed
pub allowed-listed : (leasts : List ℕ) (room : ℕ) (shares : List ℕ) → Allowed leasts room shares → Memᴰ shares (share_lists leasts room)
unfolding share_lists
allowed-listed [] room [] a = Memᴰ.head refl
allowed-listed [] room (share ∷ shares) a = absurd (omega (arith, a.each))
allowed-listed (least ∷ leasts) room [] a = absurd (omega (arith, a.each))
allowed-listed (least ∷ leasts) room (share ∷ shares) a =
    let f : share + sum shares ≤ room = unfold sum in a.fits in
    mem-flat (λ s. map (λ r. s ∷ r) (share_lists leasts (room - s)))
    (range-from least (suc room - least) share (a.enough 0) (omega (arith, a.enough 0)))
    (mem-map (λ r. share ∷ r) (allowed-listed leasts (room - share) shares (allowed-rest least leasts room share shares a)))

-- a list of shares is listed exactly if there is one for each customer, none below its least, in all at most the room
pub listed : (leasts : List ℕ) (room : ℕ) (shares : List ℕ) → Memᴰ shares (share_lists leasts room) ↔ Allowed leasts room shares
listed leasts room shares = (listed-allowed leasts room shares, allowed-listed leasts room shares)

-- there are some exactly if the least shares fit
pub some-listed : (leasts : List ℕ) (room : ℕ) → (share_lists leasts room ≡ [] → ⊥) ↔ sum leasts ≤ room
some-listed leasts room = (forth, back)
  where
    some : (l : List (List ℕ)) → ((shares : List ℕ) → Memᴰ shares l → sum leasts ≤ room) → (l ≡ [] → ⊥) → sum leasts ≤ room
    some [] f h = absurd (h refl)
    some (shares ∷ l) f h = f shares (Memᴰ.head refl)

    forth : (share_lists leasts room ≡ [] → ⊥) → sum leasts ≤ room
    forth =
        some (share_lists leasts room)
        (λ shares m. let a = listed-allowed leasts room shares m in omega (arith, a.fits, allowed-least leasts room shares a))

    back : sum leasts ≤ room → share_lists leasts room ≡ [] → ⊥
    back h e = Memᴰ.not-nil (rw e at (allowed-listed leasts room leasts (least-allowed leasts room h)))
