-- The way up from a slot that changes right-hand sums, node by node; a mark set and a mark cleared.
use Rattle.std.proofs.Common.{◌≡◌, ℕ, zero, suc, ◌+◌, ◌-◌, ◌/◌, ◌%◌, ◌^◌, ◌<◌, ◌≤◌, true, false, eqb, List, length, get_or, set, sym, refl, ◌∙◌, subst, arith, le-ltb, lt-ltb, eq-eqb, ne_eqb}
use Rattle.reuse.specs.Lists.{sum}
use Rattle.reuse.specs.Limits.{slot_count, levels}
use Rattle.session_rights.specs.Rights.{rights_of}
use Rattle.session_rights.specs.Ways.{from_right, changed}
use Rattle.session_points.specs.Points.{changed_by}
use Rattle.session_rights.proofs.Changes.{rights-set}
use Rattle.session_points.proofs.Places.{Place, slot-place, place_up, place-point, place-side}

-- no slot
pub change-past : (c : ℕ) (R : List ℕ) (s : ℕ) → slot_count ≤ s → changed_by c R s ≡ R
unfolding changed_by
change-past c R s h = rw (le-ltb s slot_count h)

-- a slot
change-some : (c : ℕ) (R : List ℕ) (s : ℕ) → s < slot_count → changed_by c R s ≡ changed (λ n. (n + c) % 2 ^ 32) (from_right levels 0 s) R
unfolding changed_by
change-some c R s h = rw (lt-ltb s slot_count h)

module _ (marks : List ℕ) (s : ℕ) (e : length marks ≡ slot_count) (h : s < slot_count) (few : sum marks ≤ slot_count) where
  -- a mark is set: one more at each point reached from the right
  pub mark_set : get_or marks s 0 ≡ 0 → changed_by 1 (rights_of levels marks) s ≡ rights_of levels (set marks s 1)
  mark_set free =
      change-some 1 (rights_of levels marks) s h
      ∙ rights-set levels marks s e h (λ n. (n + 1) % 2 ^ 32) 1 slot_count (λ w low most. omega arith) few

  -- a mark is cleared: one less at each of them
  pub mark-cleared : get_or marks s 0 ≡ 1 → changed_by (2 ^ 32 - 1) (rights_of levels marks) s ≡ rights_of levels (set marks s 0)
  mark-cleared held =
      change-some (2 ^ 32 - 1) (rights_of levels marks) s h
      ∙ rights-set levels marks s e h (λ n. (n + (2 ^ 32 - 1)) % 2 ^ 32) 0 slot_count (λ w low most. omega arith) few

-- where the change has come: at node p with d levels above it, where the way left makes T of A
pub record Changing (d N : ℕ) (f : ℕ → ℕ) (T A : List ℕ) (p : ℕ) : Type 0 where
  pub b : ℕ
  pub s : ℕ
  pub place : Place N p d b s
  pub left : changed f (from_right d b s) A ≡ T

-- the start, at slot s
pub changing-start : (c : ℕ) (R : List ℕ) (s : ℕ) → s < slot_count → Changing levels slot_count (λ n. (n + c) % 2 ^ 32) (changed_by c R s) R s
changing-start c R s h = record { b = 0; s = s; place = slot-place slot_count s levels refl h; left = sym (change-some c R s h) }

module _ (N : ℕ) (f : ℕ → ℕ) (T A : List ℕ) (p : ℕ) where
  -- one turn, with d levels left: by a right child, and by a left one
  abbrev pub ChangeTurn : ℕ → Type 0
  ChangeTurn d = ((p % 2 ≡ 0 → ⊥) → Changing d N f T (set A (p / 2) (f (get_or A (p / 2) 0))) (N + p / 2)) × (p % 2 ≡ 0 → Changing d N f T A (N + p / 2))

  turned : (d : ℕ) → Changing (suc d) N f T A p → ChangeTurn d
  unfolding from_right changed
  turned d u = (
    λ e. let q : eqb (u.s % 2) 0 ≡ false = ne_eqb (u.s % 2) 0 (λ z. e (place-side N p d u.b u.s u.place ∙ z)) in
        record { b = u.b + 2 ^ d; s = u.s / 2; place = place_up N p d u.b u.s u.place; left = rw (place-point N p d u.b u.s u.place) (simp q at u.left) },
    λ e. let q : eqb (u.s % 2) 0 ≡ true = eq-eqb (u.s % 2) 0 (sym (place-side N p d u.b u.s u.place) ∙ e) in
        record { b = u.b + 2 ^ d; s = u.s / 2; place = place_up N p d u.b u.s u.place; left = simp q at u.left },
  )

  module _ (k : ℕ) (h : k < levels) (u : Changing (levels - k) N f T A p) where
    -- the change before its turn on level k
    next : Changing (suc (levels - (k + 1))) N f T A p
    next = subst (λ (d : ℕ). Changing d N f T A p) (omega arith) u

    -- the turn
    pub changing-turn : ChangeTurn (levels - (k + 1))
    changing-turn = turned (levels - (k + 1)) next

  -- at the root all is changed
  pub changing-end : (d : ℕ) → d ≡ 0 → Changing d N f T A p → A ≡ T
  unfolding from_right changed
  changing-end zero z u = u.left
  changing-end (suc d) z u = absurd (omega arith)
