-- The lines of a plan text at a position.
use mathlib.Core.Path.{◌≡◌, refl, sym, ap, ◌∙◌}
use Prim.Native.Nat.{ℕ, zero, suc, ◌+◌, ◌-◌, ◌≤◌, ◌<◌}
use native.Mathlib.Omega.{arith}
use mathlib.Core.Bool.{true, false}
use mathlib.Core.List.{List, [], ◌∷◌}
use lib.ListN.{length, drop, get_or, length-drop}
use lib.Seq.{drop-drop}
use borrow.Author.Tests.{eq-eqb, ne_eqb}
use Rattle.std.proofs.Common.{⊎_elim}
use Rattle.std.proofs.lemmas.Bool.{cases_lt}
use Rattle.texts.specs.Digits.{value, bad, number_of}
use Rattle.texts.specs.Words.{run_of, word_at}
use Rattle.texts.specs.Plans.{join_word, seg_word}
use Rattle.texts.specs.PlanPlaces.{Place, seg_at, join_at, bad_at, join_ends, seg_ends, brackets_at, number_at, form_at, line_at}
use Rattle.plan_lines.specs.declared.Line.{Line}
use Rattle.plan_lines.specs.declared.Line.TheVariants.{Seg, Join}
use Rattle.std.specs.Prelude.{Option, None, Some}
use Rattle.plan_lines.specs.Lines.{LineWithin, LineEnd}
use Rattle.texts.proofs.Positions.{gone, here}

-- a line past a later position is past an earlier one
pub line-from : (at later len : ℕ) (l : Option Line) → at ≤ later → LineWithin later len l → LineWithin at len l
line-from at later len (Some (Seg n closes next)) h w = (omega arith, w.1)
line-from at later len (Some (Join next)) h w = (omega arith, w.1)
line-from at later len None h w = tt

module _ (s : List ℕ) (i : ℕ) where
  -- no byte 10 stands where a line should end: one law for each of the two lines, `ends` being what stands there
  none-ends : (ends : List ℕ → Place) → ends [] ≡ bad_at → ((x : ℕ) (l : List ℕ) → (x ≡ 10 → ⊥) → ends (x ∷ l) ≡ bad_at) → LineEnd s i None → bad_at ≡ ends (drop i s)
  none-ends ends e f h =
      ⊎_elim
      (λ p. sym (ap ends (here s i p) ∙ f (get_or s i 0) (drop (i + 1) s) (h p)))
      (λ p. sym (ap ends (gone s i p) ∙ e))
      (cases_lt i (length s))

  -- a join's line ends there
  pub join-ends : (next : ℕ) → LineEnd s i (Some next) → join_at (drop next s) ≡ join_ends (drop i s)
  join-ends next h = sym (ap join_ends (here s i h.0) ∙ rw (eq-eqb (get_or s i 0) 10 h.1, h.2))

  module _ (n c : ℕ) where
    -- no seg's line ends there
    pub seg-none : LineEnd s i None → bad_at ≡ seg_ends n c (drop i s)
    seg-none = none-ends (seg_ends n c) refl (λ x l f. rw (ne_eqb x 10 f))

    -- a seg's line ends there
    pub seg-ends : (next : ℕ) → LineEnd s i (Some next) → seg_at n c (drop next s) ≡ seg_ends n c (drop i s)
    seg-ends next h = sym (ap (seg_ends n c) (here s i h.0) ∙ rw (eq-eqb (get_or s i 0) 10 h.1, h.2))

  -- no number stands there
  pub number-none : bad ≡ number_of (drop i s) → bad_at ≡ number_at (number_of (drop i s))
  number-none e = ap number_at e

  module _ (n stop run : ℕ) (is : value n (drop stop s) ≡ number_of (drop i s)) (counted : run ≡ run_of (length s - stop) 41 (drop stop s)) where
    -- by the brackets after the number
    by-run : brackets_at n run (drop stop s) ≡ number_at (number_of (drop i s))
    by-run = ap (λ (k : ℕ). brackets_at n k (drop stop s)) (counted ∙ ap (λ (m : ℕ). run_of m 41 (drop stop s)) (sym (length-drop stop s))) ∙ ap number_at is

    -- no bracket follows the number
    pub brackets-none : run ≡ 0 → bad_at ≡ number_at (number_of (drop i s))
    brackets-none e = ap (λ (k : ℕ). brackets_at n k (drop stop s)) (sym e) ∙ by-run

    -- brackets follow it
    pub brackets-some : 0 < run → (p : Place) → p ≡ seg_ends n (run - 1) (drop (stop + run) s) → p ≡ number_at (number_of (drop i s))
    brackets-some h p e = e ∙ ap (seg_ends n (run - 1)) (sym (drop-drop run stop s)) ∙ split run h ∙ by-run
      where
        split : (k : ℕ) → 0 < k → seg_ends n (k - 1) (drop k (drop stop s)) ≡ brackets_at n k (drop stop s)
        split zero g = absurd (omega arith)
        split (suc k) g = ap (λ (j : ℕ). seg_ends n j (drop (suc k) (drop stop s))) (let z : suc k - 1 ≡ k = omega arith in z)

  -- an opened join stands there
  pub form-join : true ≡ word_at join_word (drop i s) → (p : Place) → p ≡ join_ends (drop (i + 5) s) → p ≡ form_at (drop i s)
  form-join t p e = e ∙ ap join_ends (sym (drop-drop 5 i s)) ∙ rw (← t)

  -- a seg stands there
  pub form-seg : false ≡ word_at join_word (drop i s) → true ≡ word_at seg_word (drop i s) → (p : Place) → p ≡ number_at (number_of (drop (i + 5) s)) → p ≡ form_at (drop i s)
  form-seg t u p e = e ∙ ap (λ (l : List ℕ). number_at (number_of l)) (sym (drop-drop 5 i s)) ∙ rw (← t, ← u)

  module _ (d run : ℕ) (counted : run ≡ run_of d 32 (drop i s)) where
    -- too few leading spaces
    pub line-bad : (run ≡ d → ⊥) → bad_at ≡ line_at d (drop i s)
    unfolding line_at
    line-bad f = rw (← counted, ne_eqb run d f)

    -- the leading spaces stand there
    pub line-form : run ≡ d → (p : Place) → p ≡ form_at (drop (i + d) s) → p ≡ line_at d (drop i s)
    unfolding line_at
    line-form f p e = e ∙ ap form_at (sym (drop-drop d i s)) ∙ rw (← counted, eq-eqb run d f)
