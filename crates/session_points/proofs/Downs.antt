-- The marks worked out from the root down, level by level.
use Rattle.std.proofs.Common.{◌≡◌, ◌⊎◌, inl, inr, ℕ, suc, ◌+◌, ◌-◌, ◌*◌, ◌%◌, ◌^◌, ◌<◌, ◌≤◌, Bool, true, false, ◌&&◌, List, [], ◌∷◌, length, take, drop, set, sym, refl, ap, ◌∙◌, subst, arith, length-append, length-drop, length-set, length-take-le, take_all, take_at, eq-eqb, ne_eqb}
use mathlib.Core.Bool.{and-false}
use Rattle.std.proofs.Math.Pow.{pow_mono}
use Rattle.std.proofs.lemmas.Nat.{pow_pos, pow_below}
use Rattle.reuse.specs.Limits.{slot_count, right_count, levels}
use Rattle.session_rights.specs.Rights.{children, marks_from, none_above, in_totals}
use Rattle.session_points.specs.Points.{Worked, worked_out, Level}
use Rattle.session_rights.proofs.Levels.{length-children}
use Rattle.session_rights.proofs.Totals.{level-down, test-down}
use Rattle.session_points.proofs.Spreads.{spread_to}

-- right-hand sums of another length, or a row of another
pub worked-other : (count : ℕ) (R A : List ℕ) → (length R ≡ right_count → ⊥) ⊎ ((length R ≡ right_count) × (length A ≡ slot_count → ⊥))
    → (false ≡ (worked_out count R A).within) × (A ≡ (worked_out count R A).marks)
unfolding worked_out
worked-other count R A (inl n) = let e = ne_eqb (length R) right_count n in (simp e, simp e)
worked-other count R A (inr (w, n)) = let e = ne_eqb (length A) slot_count n in (simp (e, and-false), simp (e, and-false))

-- a session's right-hand sums over a row of its slots
pub worked-some : (count : ℕ) (R A : List ℕ) → length R ≡ right_count → length A ≡ slot_count → worked_out count R A ≡ record { within = in_totals levels count R; marks = marks_from levels count R }
unfolding worked_out
worked-some count R A w v = rw (eq-eqb (length R) right_count w, eq-eqb (length A) slot_count v)

-- the first 2^d words are the totals of a level, and no right-hand sum so far is above its point's total where the flag is up
pub record Down (count : ℕ) (R A : List ℕ) (flag : Bool) (d : ℕ) : Type 0 where
  pub wide : length A ≡ slot_count
  pub long : length R ≡ right_count
  pub totals : take (2 ^ d) A ≡ marks_from d count (drop (slot_count - 2 ^ d) R)
  pub tested : flag ≡ in_totals d count (drop (slot_count - 2 ^ d) R)

-- the root's total is the count
pub down-start : (count : ℕ) (R A : List ℕ) → length R ≡ right_count → length A ≡ slot_count → Down count R (set A 0 count) true 0
unfolding marks_from in_totals
down-start count R A w v = record {
  wide = length-set A 0 count ∙ v;
  long = w;
  totals = front A (omega arith);
  tested = refl;
}
  where
    front : (l : List ℕ) → 0 < length l → take 1 (set l 0 count) ≡ count ∷ []
    front [] h = absurd (omega arith)
    front (a ∷ l) h = refl

-- as many totals as the code shifts 1 up to
pub down-size : (d : ℕ) → d < levels → 1 * 2 ^ d % 2 ^ 64 ≡ 2 ^ d
down-size d h = let up = pow_below d levels h in omega arith

module _ (count : ℕ) (R A : List ℕ) (flag : Bool) (d : ℕ) (b : Down count R A flag d) (h : d < levels) where
  -- the totals
  abbrev m : ℕ
  m = 2 ^ d

  -- there is room for twice as many
  pub down-room : 2 ^ d + 2 ^ d ≤ slot_count
  down-room = let up = pow_mono {i = suc d} {j = levels} h in omega arith

  -- where the level's sums stand
  abbrev p : ℕ
  p = slot_count - (m + m)

  -- the level's sums
  abbrev ours : List ℕ
  ours = take m (drop p R)

  -- there are as many
  each : length ours ≡ m
  each = length-take-le m (drop p R) (simp length-drop (omega (arith, b.long, down-room, pow_pos d)))

  -- as the code takes them
  pub down-part : take (slot_count - 2 ^ d - (slot_count - 2 * 2 ^ d)) (drop (slot_count - 2 * 2 ^ d) R) ≡ take (2 ^ d) (drop (slot_count - (2 ^ d + 2 ^ d)) R)
  down-part =
      let n : slot_count - m - (slot_count - 2 * m) ≡ m = omega (arith, down-room) in
      let at : slot_count - 2 * m ≡ p = omega arith in
      ap (λ (k : ℕ). take k (drop (slot_count - 2 * m) R)) n ∙ ap (λ (k : ℕ). take m (drop k R)) at

  -- what one level relies on
  pub down-level : (L : List ℕ) → L ≡ take (2 ^ d) (drop (slot_count - (2 ^ d + 2 ^ d)) R) → Level A (2 ^ d) L
  down-level L e = record { room = b.wide; half = down-room; each = ap length e ∙ each }

  -- one level down
  pub down_turn : (L A' : List ℕ) (good : Bool) → L ≡ take (2 ^ d) (drop (slot_count - (2 ^ d + 2 ^ d)) R)
      → good ≡ none_above L (take (2 ^ d) A) → A' ≡ spread_to (2 ^ d) A L → Down count R A' (flag && good) (suc d)
  down_turn L A' good e tested made = record {
    wide = ap length made ∙ simp (length-append, length-drop) (omega (arith, twice, b.wide, down-room));
    long = b.long;
    totals = ap (take (2 ^ suc d)) made ∙ take_at (children (take m A) L) (drop (m + m) A) (2 ^ suc d) (omega (arith, twice)) ∙ below ∙ ap (λ (k : ℕ). marks_from (suc d) count (drop k R)) place;
    tested = ap (λ (t : Bool). t && good) b.tested ∙ ap (λ (t : Bool). in_totals d count (drop (slot_count - m) R) && t) tested ∙ test ∙ ap (λ (k : ℕ). in_totals (suc d) count (drop k R)) place;
  }
    where
      place : p ≡ slot_count - 2 ^ suc d
      place = omega arith

      above : slot_count - m ≡ p + m
      above = omega (arith, down-room)

      full : length (take m A) ≡ m
      full = length-take-le m A (omega (arith, b.wide, down-room))

      twice : length (children (take m A) L) ≡ m + m
      twice = length-children (take m A) L (ap length e ∙ each ∙ sym full) ∙ omega (arith, full)

      -- the totals above it
      upper : take m A ≡ marks_from d count (drop (p + m) R)
      upper = b.totals ∙ ap (λ (k : ℕ). marks_from d count (drop k R)) above

      below : children (take m A) L ≡ marks_from (suc d) count (drop p R)
      below = ap (λ (l : List ℕ). children l L) upper ∙ ap (children (marks_from d count (drop (p + m) R))) e ∙ sym (level-down d p count R)

      test : in_totals d count (drop (slot_count - m) R) && none_above L (take m A) ≡ in_totals (suc d) count (drop p R)
      test =
          ap (λ (k : ℕ). in_totals d count (drop k R) && none_above L (take m A)) above
          ∙ ap (λ (l : List ℕ). in_totals d count (drop (p + m) R) && none_above l (take m A)) e
          ∙ ap (λ (l : List ℕ). in_totals d count (drop (p + m) R) && none_above ours l) upper
          ∙ sym (test-down d p count R)

module _ (count : ℕ) (R A : List ℕ) (flag : Bool) where
  -- at the lowest level all is worked out
  all-down : Down count R A flag levels → (E : List ℕ) → length E ≡ slot_count → (flag ≡ (worked_out count R E).within) × (A ≡ (worked_out count R E).marks)
  all-down b E v =
      let is = worked-some count R E b.long v in (
        b.tested ∙ ap (λ (w : Worked). w.within) (sym is),
        sym (take_all slot_count A (omega (arith, b.wide))) ∙ b.totals ∙ ap (λ (w : Worked). w.marks) (sym is),
      )

  -- the lowest level is that of the slots
  pub down-end : (d : ℕ) → d ≡ levels → Down count R A flag d → (E : List ℕ) → length E ≡ slot_count → (flag ≡ (worked_out count R E).within) × (A ≡ (worked_out count R E).marks)
  down-end d q b = all-down (subst (λ (n : ℕ). Down count R A flag n) q b)
