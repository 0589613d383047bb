-- The way up from a slot that adds up the right-hand sums, node by node.
use Rattle.std.proofs.Common.{◌≡◌, ◌⊎◌, inl, inr, ℕ, zero, suc, ◌+◌, ◌-◌, ◌*◌, ◌/◌, ◌%◌, ◌^◌, ◌<◌, ◌≤◌, true, false, eqb, List, map, length, get_or, sym, ap, ◌∙◌, subst, arith, le-ltb, lt-ltb, eq-eqb, ne_eqb}
use mathlib.Core.Bool.{and-false}
use Rattle.reuse.specs.Lists.{sum}
use Rattle.reuse.specs.Limits.{slot_count, right_count, levels}
use Rattle.session_rights.specs.Ways.{from_left}
use Rattle.session_points.specs.Points.{of_slot, walked_up}
use Rattle.reuse.proofs.Lists.{by-test}
use Rattle.session_points.proofs.Places.{Place, slot-place, place_up, place-point, place-side, place-inner}

-- a row of another length, or no slot
pub slot_none : (R : List ℕ) (s : ℕ) → (length R ≡ right_count → ⊥) ⊎ ((length R ≡ right_count) × (slot_count ≤ s)) → of_slot R s ≡ false
unfolding of_slot
slot_none R s (inl n) = simp (ne_eqb (length R) right_count n)
slot_none R s (inr (w, h)) = simp (le-ltb s slot_count h, and-false)

-- a slot over a session's right-hand sums
pub slot-some : (R : List ℕ) (s : ℕ) → length R ≡ right_count → s < slot_count → of_slot R s ≡ true
unfolding of_slot
slot-some R s w h = simp (eq-eqb (length R) right_count w, lt-ltb s slot_count h)

-- a way up from no slot reads nothing
pub walked_none : (R : List ℕ) (s : ℕ) → of_slot R s ≡ false → walked_up R s ≡ record { total = 0; count = 0 }
unfolding walked_up
walked_none R s f = rw f

-- from a slot it reads the sums that it passes on their left
pub walked-some : (R : List ℕ) (s : ℕ) → of_slot R s ≡ true
    → walked_up R s ≡ record { total = sum (map (λ p. get_or R p 0) (from_left levels 0 s)); count = length (from_left levels 0 s) }
unfolding walked_up
walked-some R s t = rw t

-- no more of them than levels
pub left-few : (d b s : ℕ) → length (from_left d b s) ≤ d
unfolding from_left
left-few zero b s = omega arith
left-few (suc d) b s =
    let up = left-few d (b + 2 ^ d) (s / 2) in
    by-test (eqb (s % 2) 0) (λ q. simp q (omega arith)) (λ q. simp q (omega arith))

-- where the way up has come: at node p with d levels above it, acc added of total and cnt read of count
pub record Up (d N : ℕ) (R : List ℕ) (total count p acc cnt : ℕ) : Type 0 where
  pub b : ℕ
  pub s : ℕ
  pub place : Place N p d b s
  pub right : acc + sum (map (λ k. get_or R k 0) (from_left d b s)) ≡ total
  pub noughts : cnt + length (from_left d b s) ≡ count
  pub small : acc ≤ cnt * 2 ^ 32

-- the start, at slot s
pub up_start : (d N : ℕ) (R : List ℕ) (s : ℕ) → 2 ^ d ≡ N → s < N
    → Up d N R (sum (map (λ p. get_or R p 0) (from_left d 0 s))) (length (from_left d 0 s)) s 0 0
up_start d N R s e h = record {
  b = 0;
  s = s;
  place = slot-place N s d e h;
  right = omega arith;
  noughts = omega arith;
  small = omega arith;
}

module _ (N : ℕ) (R : List ℕ) (total count p acc cnt : ℕ) where
  -- what one turn makes of the way up, with d levels left: by a left child, and by a right one
  abbrev pub Turn : ℕ → Type 0
  Turn d =
      (p % 2 ≡ 0 → get_or R (p / 2) 0 < 2 ^ 32 → Up d N R total count (N + p / 2) (acc + get_or R (p / 2) 0) (cnt + 1))
      × ((p % 2 ≡ 0 → ⊥) → Up d N R total count (N + p / 2) acc cnt)

  turned : (d : ℕ) → Up (suc d) N R total count p acc cnt → Turn d
  unfolding from_left sum
  turned d u =
      let here : get_or R (p / 2) 0 ≡ get_or R (u.b + u.s / 2) 0 = ap (λ (k : ℕ). get_or R k 0) (place-point N p d u.b u.s u.place) in (
        λ e f. let q : eqb (u.s % 2) 0 ≡ true = eq-eqb (u.s % 2) 0 (sym (place-side N p d u.b u.s u.place) ∙ e) in
            record { b = u.b + 2 ^ d; s = u.s / 2; place = place_up N p d u.b u.s u.place; right = omega (arith, here, simp q at u.right); noughts = omega (arith, simp q at u.noughts); small = omega (arith, u.small) },
        λ e. let q : eqb (u.s % 2) 0 ≡ false = ne_eqb (u.s % 2) 0 (λ z. e (place-side N p d u.b u.s u.place ∙ z)) in
            record { b = u.b + 2 ^ d; s = u.s / 2; place = place_up N p d u.b u.s u.place; right = simp q at u.right; noughts = simp q at u.noughts; small = u.small },
      )

  module _ (k : ℕ) (h : k < levels) (u : Up (levels - k) N R total count p acc cnt) where
    -- the way up before its turn on level k
    next : Up (suc (levels - (k + 1))) N R total count p acc cnt
    next = subst (λ (d : ℕ). Up d N R total count p acc cnt) (omega arith) u

    -- the turn
    pub up_turn : Turn (levels - (k + 1))
    up_turn = turned (levels - (k + 1)) next

    -- the point over the node
    pub up_point : p / 2 + 1 < N
    up_point = let w = next in place-inner N p (levels - (k + 1)) w.b w.s w.place

  -- at the root all is read
  pub up-end : (d : ℕ) → d ≡ 0 → Up d N R total count p acc cnt → (acc ≡ total) × (cnt ≡ count)
  unfolding from_left sum
  up-end zero z u = (omega (arith, u.right), omega (arith, u.noughts))
  up-end (suc d) z u = absurd (omega arith)
