-- The way up from a slot that works out its mark, node by node.
use Rattle.std.proofs.Common.{◌≡◌, ℕ, zero, suc, ◌+◌, ◌-◌, ◌*◌, ◌/◌, ◌%◌, ◌^◌, ◌<◌, ◌≤◌, true, false, eqb, List, length, get_or, sym, refl, ap, ◌∙◌, subst, arith, eq-eqb, ne_eqb}
use Rattle.reuse.specs.Limits.{slot_count, right_count, levels}
use Rattle.session_rights.specs.Rights.{marks_from}
use Rattle.session_rights.specs.Ways.{total_at}
use Rattle.session_points.specs.Points.{of_slot, mark_at}
use Rattle.session_rights.proofs.Totals.{total-at}
use Rattle.session_points.proofs.Places.{Place, slot-place, place_up, place-point, place-side, place-inner}
use Rattle.session_points.proofs.Ups.{slot-some}

-- no slot has no mark
pub mark-none : (count : ℕ) (R : List ℕ) (s : ℕ) → of_slot R s ≡ false → mark_at count R s ≡ 0
unfolding mark_at
mark-none count R s f = rw f

-- the mark of a slot
mark-some : (count : ℕ) (R : List ℕ) (s : ℕ) → of_slot R s ≡ true → mark_at count R s ≡ total_at levels 0 count R s
unfolding mark_at
mark-some count R s t = rw t

-- it is the one worked out from the root down
pub mark-worked : (count : ℕ) (R : List ℕ) (s : ℕ) → length R ≡ right_count → s < slot_count → mark_at count R s ≡ get_or (marks_from levels count R) s 0
mark-worked count R s w h = mark-some count R s (slot-some R s w h) ∙ sym (total-at levels 0 count R s (omega arith) h)

-- where the way up has come: at node p with d levels above it, whose total less `less` is the mark
pub record Marking (d N count : ℕ) (R : List ℕ) (mark p less : ℕ) : Type 0 where
  pub b : ℕ
  pub s : ℕ
  pub place : Place N p d b s
  pub is : total_at d b count R s - less ≡ mark
  pub small : less + d * 2 ^ 32 ≤ levels * 2 ^ 32

-- the start, at slot s
pub marking-start : (count : ℕ) (R : List ℕ) (s : ℕ) → length R ≡ right_count → s < slot_count → Marking levels slot_count count R (mark_at count R s) s 0
marking-start count R s w h = record {
  b = 0;
  s = s;
  place = slot-place slot_count s levels refl h;
  is = omega (arith, mark-some count R s (slot-some R s w h));
  small = omega arith;
}

module _ (N count : ℕ) (R : List ℕ) (mark p less : ℕ) where
  -- what one turn makes of it, with d levels left: a right child has its point's right-hand sum; a left one the point's total less that sum
  abbrev pub MarkTurn : ℕ → Type 0
  MarkTurn d =
      (p % 2 ≡ 1 → get_or R (p / 2) 0 - less ≡ mark)
      × ((p % 2 ≡ 1 → ⊥) → get_or R (p / 2) 0 < 2 ^ 32 → Marking d N count R mark (N + p / 2) (less + get_or R (p / 2) 0))

  turned : (d : ℕ) → Marking (suc d) N count R mark p less → MarkTurn d
  unfolding total_at
  turned d u =
      let here : get_or R (p / 2) 0 ≡ get_or R (u.b + u.s / 2) 0 = ap (λ (k : ℕ). get_or R k 0) (place-point N p d u.b u.s u.place) in (
        λ e. let q : eqb (u.s % 2) 0 ≡ false = ne_eqb (u.s % 2) 0 (λ z. omega (arith, place-side N p d u.b u.s u.place)) in
            omega (arith, here, simp q at u.is),
        λ e f. let q : eqb (u.s % 2) 0 ≡ true = eq-eqb (u.s % 2) 0 (omega (arith, place-side N p d u.b u.s u.place, e)) in
            record { b = u.b + 2 ^ d; s = u.s / 2; place = place_up N p d u.b u.s u.place; is = omega (arith, here, simp q at u.is); small = omega (arith, u.small) },
      )

  module _ (k : ℕ) (h : k < levels) (u : Marking (levels - k) N count R mark p less) where
    -- the way up before its turn on level k
    next : Marking (suc (levels - (k + 1))) N count R mark p less
    next = subst (λ (d : ℕ). Marking d N count R mark p less) (omega arith) u

    -- the turn
    pub marking-turn : MarkTurn (levels - (k + 1))
    marking-turn = turned (levels - (k + 1)) next

    -- the point over the node
    pub marking-point : p / 2 + 1 < N
    marking-point = let w = next in place-inner N p (levels - (k + 1)) w.b w.s w.place

  -- the root has the count
  pub marking-end : (d : ℕ) → d ≡ 0 → Marking d N count R mark p less → count - less ≡ mark
  unfolding total_at
  marking-end zero z u = u.is
  marking-end (suc d) z u = absurd (omega arith)
