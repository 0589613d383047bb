-- A line found at a place of a text: what it is, and where it ends.
use mathlib.Core.Path.{◌≡◌, refl, sym, ap, subst, ◌∙◌}
use Prim.Native.Nat.{ℕ, zero, suc, ◌+◌, ◌-◌, ◌≤◌, ◌<◌}
use native.Mathlib.Omega.{arith}
use mathlib.Core.List.{List, [], ◌∷◌, ◌++◌}
use lib.ListN.{length, drop, length-append, length-drop}
use lib.Seq.{drop_at, drop-drop}
use borrow.Author.Tests.{ne_eqb}
use Rattle.texts.specs.Words.{run_of, word_at}
use Rattle.texts.specs.PlanPlaces.{Place, seg_at, join_at, bad_at, line_at}
use Rattle.texts.proofs.PlanPlaces.{cut-seg, cut-join}
use Rattle.texts.proofs.Positions.{gone}
use Rattle.plan_lines.specs.declared.Line.{Line}
use Rattle.plan_lines.specs.declared.Line.TheVariants.{Seg, Join}
use Rattle.std.specs.Prelude.{Option, None, Some}
use Rattle.plan_lines.specs.Lines.{line_by, line_found, place_of, LineWithin}

-- no line stands where no byte does
none_left : (under : ℕ) → line_at under [] ≡ bad_at
unfolding line_at run_of word_at
none_left zero = refl
none_left (suc under) = rw (ne_eqb 0 (suc under) (λ e. omega (arith, e)))

-- nor past the end of a text
pub past_end : (s : List ℕ) (at under : ℕ) → length s < at → None ≡ line_found s at under
unfolding line_found
past_end s at under h = sym (ap (line_by (length s)) (ap (line_at under) (gone s at (omega arith)) ∙ none_left under))

-- a position is where the text after it begins
begins : (s : List ℕ) (next : ℕ) → next ≤ length s → next ≡ length s - length (drop next s)
begins s next h = omega (arith, length-drop next s)

-- a line that ends within the text is found by the text after it
by_place : (s : List ℕ) (at : ℕ) (l : Option Line) → LineWithin at (length s) l → l ≡ line_by (length s) (place_of s l)
by_place s at (Some (Seg n closes next)) w = ap (λ (k : ℕ). Some (Seg n closes k)) (begins s next w.1)
by_place s at (Some (Join next)) w = ap (λ (k : ℕ). Some (Join k)) (begins s next w.1)
by_place s at None w = refl

-- so it is the line found there
pub line-is : (s : List ℕ) (at under : ℕ) (l : Option Line) → place_of s l ≡ line_at under (drop at s) → LineWithin at (length s) l → l ≡ line_found s at under
unfolding line_found
line-is s at under l e w = by_place s at l w ∙ ap (line_by (length s)) e

module _ (s : List ℕ) (at : ℕ) (h : at ≤ length s) where
  -- what stands after a line that is cut off
  after : (line rest : List ℕ) → drop at s ≡ line ++ (10 ∷ rest)
      → (drop (length s - length rest) s ≡ rest) × (at < length s - length rest) × (length s - length rest ≤ length s)
  after line rest d =
      let l : length s - at ≡ length line + suc (length rest) = sym (length-drop at s) ∙ ap length d ∙ length-append line (10 ∷ rest) in
      let p : length s - length rest ≡ at + (length line + 1) = omega arith in
      let q : drop (length s - length rest) s ≡ rest =
      ap (λ (k : ℕ). drop k s) p
      ∙ sym (drop-drop (length line + 1) at s)
      ∙ ap (drop (length line + 1)) d
      ∙ sym (drop-drop 1 (length line) (line ++ (10 ∷ rest)))
      ∙ ap (drop 1) (drop_at line (10 ∷ rest) (length line) refl) in
      (q, omega (arith, p), omega arith)

  -- by the line that stands there
  there-by : (under : ℕ) (p : Place) → line_at under (drop at s) ≡ p → (place_of s (line_by (length s) p) ≡ p) × LineWithin at (length s) (line_by (length s) p)
  there-by under (seg_at n closes rest) e =
      let c = cut-seg under (drop at s) n closes rest e in
      let a = after c.0 rest c.1 in
      (ap (seg_at n closes) a.0, (a.1, a.2))
  there-by under (join_at rest) e =
      let c = cut-join under (drop at s) rest e in
      let a = after c.0 rest c.1 in
      (ap join_at a.0, (a.1, a.2))
  there-by under bad_at e = (refl, tt)

  -- a line found there
  pub line-there : (under : ℕ) (l : Option Line) → l ≡ line_found s at under → (place_of s l ≡ line_at under (drop at s)) × LineWithin at (length s) l
  unfolding line_found
  line-there under l e =
      let f = there-by under (line_at under (drop at s)) refl in
      (ap (place_of s) e ∙ f.0, subst (LineWithin at (length s)) (sym e) f.1)

  module _ (under : ℕ) (l : Line) (e : Some l ≡ line_found s at under) where
    -- it is a seg's
    pub seg-line : (n closes next : ℕ) → l ≡ Seg n closes next → (seg_at n closes (drop next s) ≡ line_at under (drop at s)) × (at < next) × (next ≤ length s)
    seg-line n closes next q =
        let f = line-there under (Some l) e in
        let w = subst (λ (v : Line). LineWithin at (length s) (Some v)) q f.1 in
        (subst (λ (v : Line). place_of s (Some v) ≡ line_at under (drop at s)) q f.0, w.0, w.1)

    -- it is an opened join's
    pub join-line : (next : ℕ) → l ≡ Join next → (join_at (drop next s) ≡ line_at under (drop at s)) × (at < next) × (next ≤ length s)
    join-line next q =
        let f = line-there under (Some l) e in
        let w = subst (λ (v : Line). LineWithin at (length s) (Some v)) q f.1 in
        (subst (λ (v : Line). place_of s (Some v) ≡ line_at under (drop at s)) q f.0, w.0, w.1)

  -- none is found there
  pub no_line : (under : ℕ) → None ≡ line_found s at under → bad_at ≡ line_at under (drop at s)
  no_line under e = (line-there under None e).0
