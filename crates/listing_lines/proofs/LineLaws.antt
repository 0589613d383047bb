-- The forms of a log's lines: one law for each way that the code returns.
use mathlib.Core.Path.{◌≡◌, refl, sym, ap, ◌∙◌}
use Prim.Native.Nat.{ℕ, zero, suc, ◌-◌, ◌≤◌}
use native.Mathlib.Omega.{arith}
use mathlib.Core.Bool.{true, false}
use mathlib.Core.List.{List, [], ◌∷◌}
use mathlib.Core.Option.{none, some}
use lib.Dec.{eqb}
use lib.ListN.{length, drop, get_or, length-drop}
use borrow.Author.Tests.{eq-eqb, ne_eqb}
use Rattle.texts.specs.Digits.{value, bad, number_of}
use Rattle.texts.specs.Words.{word_at, after, run_of, closes_of, ending_of, closes_by, number_by}
use Rattle.texts.specs.Logs.{trace_word, read_word, ending_by, row_of}
use Rattle.reuse.proofs.Lists.{by-test}
use Rattle.texts.proofs.Positions.{gone, here, word_fits}
use Rattle.std.specs.Prelude.{None, Some}
use Rattle.listing_lines.specs.Forms.{row_found, head_found}

module _ (line : List ℕ) where
  -- the first line does not begin with its word
  pub head-none : false ≡ word_at trace_word line → None ≡ head_found (after trace_word line)
  unfolding after
  head-none t = rw (← t)

  module _ (t : true ≡ word_at trace_word line) where
    -- what stands after the word
    head-rest : after trace_word line ≡ some (drop 6 line)
    unfolding after
    head-rest = rw (← t)

    -- the line is no shorter than its word
    head-long : 6 ≤ length line
    head-long = word_fits line 0 trace_word (omega arith) (sym t)

    -- nothing stands after it
    pub head-open : length line ≡ 6 → Some false ≡ head_found (after trace_word line)
    head-open e = sym (ap head_found (head-rest ∙ ap some (gone line 6 (omega arith))))

    -- more than a byte does
    pub head_more : (length line ≡ 6 → ⊥) → (length line ≡ 7 → ⊥) → None ≡ head_found (after trace_word line)
    head_more f g =
        let m : 8 ≤ length line = omega (arith, head-long) in
        sym (ap head_found (head-rest ∙ ap some (here line 6 (omega arith) ∙ ap (λ (l : List ℕ). get_or line 6 0 ∷ l) (here line 7 (omega arith)))))

    -- one byte does
    head-one : length line ≡ 7 → after trace_word line ≡ some (get_or line 6 0 ∷ [])
    head-one e = head-rest ∙ ap some (here line 6 (omega arith) ∙ ap (λ (l : List ℕ). get_or line 6 0 ∷ l) (gone line 7 (omega arith)))

    -- another byte than a bracket
    pub head-other : length line ≡ 7 → (get_or line 6 0 ≡ 41 → ⊥) → None ≡ head_found (after trace_word line)
    head-other e f = sym (ap head_found (head-one e) ∙ rw (ne_eqb (get_or line 6 0) 41 f))

    -- a bracket
    pub head-closed : length line ≡ 7 → get_or line 6 0 ≡ 41 → Some true ≡ head_found (after trace_word line)
    head-closed e f = sym (ap head_found (head-one e) ∙ rw (eq-eqb (get_or line 6 0) 41 f))

-- brackets and nothing else are counted
closes-all : (l : List ℕ) → run_of (length l) 41 l ≡ length l → closes_of l ≡ some (length l)
unfolding run_of closes_of
closes-all [] h = refl
closes-all (x ∷ l) h =
    by-test (eqb x 41) (λ e. simp (e, closes-all l (let z = simp e at h in omega arith))) (λ e. absurd (let z = simp e at h in omega arith))

-- where something else stands, none are
closes-not : (l : List ℕ) → (run_of (length l) 41 l ≡ length l → ⊥) → closes_of l ≡ none
unfolding run_of closes_of
closes-not [] h = absurd (h refl)
closes-not (x ∷ l) h = by-test (eqb x 41) (λ e. simp (e, closes-not l (λ q. h (simp e (ap suc q))))) (λ e. simp e)

module _ (line : List ℕ) where
  -- the line does not begin with the word of a read
  pub row-none : false ≡ word_at read_word line → None ≡ row_found (row_of line)
  unfolding row_of after
  row-none t = rw (← t)

  -- a line with the word is no shorter than it
  pub row-long : true ≡ word_at read_word line → 7 ≤ length line
  row-long t = word_fits line 0 read_word (omega arith) (sym t)

  module _ (t : true ≡ word_at read_word line) where
    -- the line by what stands after the word
    row-rest : row_of line ≡ ending_by (number_by (number_of (drop 7 line)))
    unfolding row_of after ending_of
    row-rest = rw (← t)

    -- no number does
    pub row-bad : bad ≡ number_of (drop 7 line) → None ≡ row_found (row_of line)
    row-bad e = sym (ap row_found (row-rest ∙ ap (λ v. ending_by (number_by v)) (sym e)))

    module _ (n end run : ℕ) (is : value n (drop end line) ≡ number_of (drop 7 line)) (counted : run ≡ run_of (length line - end) 41 (drop end line)) where
      -- by what stands after the number
      row_closes_lem : row_of line ≡ ending_by (closes_by n (closes_of (drop end line)))
      row_closes_lem = row-rest ∙ ap (λ v. ending_by (number_by v)) (sym is)

      -- the run counted to all that is left
      run-left : run ≡ run_of (length (drop end line)) 41 (drop end line)
      run-left = counted ∙ ap (λ (m : ℕ). run_of m 41 (drop end line)) (sym (length-drop end line))

      -- something else than brackets
      pub row-spoilt : (run ≡ length line - end → ⊥) → None ≡ row_found (row_of line)
      row-spoilt f =
          let q : run_of (length (drop end line)) 41 (drop end line) ≡ length (drop end line) → ⊥ = λ z. f (run-left ∙ z ∙ length-drop end line) in
          sym (ap row_found (row_closes_lem ∙ ap (λ o. ending_by (closes_by n o)) (closes-not (drop end line) q)))

      -- so many brackets
      row-brackets : run ≡ length line - end → (c : ℕ) → length line - end ≡ c → row_found (row_of line) ≡ row_found (ending_by (closes_by n (some c)))
      row-brackets f c e =
          let q : run_of (length (drop end line)) 41 (drop end line) ≡ length (drop end line) = sym run-left ∙ f ∙ sym (length-drop end line) in
          ap row_found (row_closes_lem ∙ ap (λ o. ending_by (closes_by n o)) (closes-all (drop end line) q ∙ ap some (length-drop end line ∙ e)))

      -- one bracket
      pub row_read : run ≡ length line - end → length line - end ≡ 1 → Some (n, false) ≡ row_found (row_of line)
      row_read f e = sym (row-brackets f 1 e)

      -- two
      pub row_last : run ≡ length line - end → length line - end ≡ 2 → Some (n, true) ≡ row_found (row_of line)
      row_last f e = sym (row-brackets f 2 e)

      -- none, or more than two
      pub row_more : run ≡ length line - end → (length line - end ≡ 1 → ⊥) → (length line - end ≡ 2 → ⊥) → None ≡ row_found (row_of line)
      row_more f g h = sym (row-brackets f (length line - end) refl ∙ by (length line - end) g h)
        where
          by : (c : ℕ) → (c ≡ 1 → ⊥) → (c ≡ 2 → ⊥) → row_found (ending_by (closes_by n (some c))) ≡ None
          by zero u v = refl
          by (suc zero) u v = absurd (u refl)
          by (suc (suc zero)) u v = absurd (v refl)
          by (suc (suc (suc c))) u v = refl
