-- The text of a tree, read: the tree comes back. With `limits` off, this holds of every tree of the rule.
use mathlib.Core.Path.{◌≡◌, refl, ap, ◌∙◌}
use Prim.Native.Nat.{ℕ, suc, ◌+◌, ◌≤◌, ◌<◌}
use native.Mathlib.Omega.{arith}
use mathlib.Core.List.{List, [], ◌∷◌, ◌++◌, append_assoc}
use mathlib.Core.Bool.{Bool, true, false}
use lib.ListN.{length, length-append}
use borrow.Author.Tests.{le-ltb, lt-leb}
use Rattle.texts.specs.Limits.{max_bytes, max_joins, max_parts, max_seg}
use Rattle.texts.specs.Digits.{too_long}
use Rattle.texts.specs.Words.{close}
use Rattle.texts.specs.Lines.{Answer, to, at, got, counting, unless, line_done, feed_by, finish_by, line_count}
use Rattle.texts.specs.Plans.{Plan, Parts, seg, join, last, more, join_text, seg_text, form_text, parts_text, text_of, depth, parts_depth, part_count, width, parts_width, largest, parts_largest, Ruled, Within}
use Rattle.texts.specs.PlanTexts.{line_of, Reading, inside, whole, add_parts, put, parts_in, over_parts, over_seg, over_join, line_by, plan_step, any_room, plan_feed, plan_done, plan_lines, plan_of}
use Rattle.texts.proofs.Feeding.{feed-line}
use Rattle.texts.proofs.PlanLines.{join-reads, seg-reads, join-count, seg-count}

abbrev mutual
  -- a tree whose lines break no limit that counts, under d joins and after n parts of the innermost
  Fits : Bool → ℕ → ℕ → Plan → Type 0
  Fits limits d n (seg m) = (m < too_long) × (counting limits (over_seg n m) ≡ 0)
  Fits limits d n (join p ps) = (counting limits (over_join d n) ≡ 0) × Fits limits (suc d) 0 p × FitsParts limits (suc d) 1 ps

  -- a join's other parts, likewise
  FitsParts : Bool → ℕ → ℕ → Parts → Type 0
  FitsParts limits d n (last p) = Fits limits d n p
  FitsParts limits d n (more p ps) = Fits limits d n p × FitsParts limits d (suc n) ps

-- one part more before the others
add-more : (f : List Plan) (p : Plan) (ps : Parts) → add_parts (f ++ (p ∷ [])) ps ≡ add_parts f (more p ps)
unfolding add_parts
add-more [] p ps = refl
add-more (q ∷ f) p ps = ap (λ (z : Parts). more q z) (add-more f p ps)

module _ (limits : Bool) where
  -- a line that is ended, then the rest
  pub plan-line : (joins : List (List Plan)) (k : ℕ) (line rest : List ℕ) → line_count line ≡ 0
      → plan_feed limits (at k [] (inside joins)) (line ++ (10 ∷ rest)) ≡ plan_feed limits (line_done k (line_by limits joins (line_of (length joins) line))) rest
  unfolding plan_feed plan_step
  plan-line joins k line rest h = feed-line (plan_step limits) any_room line k (inside joins) rest h (λ n g. refl)

  module _ (joins : List (List Plan)) (k : ℕ) (rest : List ℕ) where
    -- a seg's line
    seg-line : (n c : ℕ) → n < too_long → counting limits (over_seg (parts_in joins) n) ≡ 0
        → plan_feed limits (at k [] (inside joins)) (seg_text (length joins) n c ++ (10 ∷ rest)) ≡ plan_feed limits (line_done k (put (seg n) c joins)) rest
    unfolding line_by unless
    seg-line n c h g =
        plan-line joins k (seg_text (length joins) n c) rest (seg-count (length joins) n c)
        ∙ ap (λ (w : Answer Reading). plan_feed limits (line_done k w) rest)
        (ap (line_by limits joins) (seg-reads (length joins) n c h) ∙ ap (λ (z : ℕ). unless z (put (seg n) c joins)) g)

    -- the line that opens a join
    join-line : counting limits (over_join (length joins) (parts_in joins)) ≡ 0
        → plan_feed limits (at k [] (inside joins)) (join_text (length joins) ++ (10 ∷ rest)) ≡ plan_feed limits (at (suc k) [] (inside ([] ∷ joins))) rest
    unfolding line_by unless line_done
    join-line g =
        plan-line joins k (join_text (length joins)) rest (join-count (length joins))
        ∙ ap (λ (w : Answer Reading). plan_feed limits (line_done k w) rest)
        (ap (line_by limits joins) (join-reads (length joins)) ∙ ap (λ (z : ℕ). unless z (to (inside ([] ∷ joins)))) g)

  mutual
    unfolding form_text put line_done add_parts

    -- a form with c brackets after it
    form-runs : (t : Plan) (joins : List (List Plan)) (k c : ℕ) (rest : List ℕ) → Fits limits (length joins) (parts_in joins) t
        → (j : ℕ) × (plan_feed limits (at k [] (inside joins)) (form_text (length joins) t ++ (close c ++ (10 ∷ rest))) ≡ plan_feed limits (line_done j (put t c joins)) rest)
    form-runs (seg n) joins k c rest h = (k, ap (plan_feed limits (at k [] (inside joins))) (simp append_assoc) ∙ seg-line joins k rest n c h.0 h.1)
    form-runs (join p ps) joins k c rest h =
        let a = form-runs p ([] ∷ joins) (suc k) 0 (parts_text (suc (length joins)) ps ++ (close c ++ (10 ∷ rest))) h.1 in
        let b = parts-run ps p [] joins (suc a.0) c rest h.2 in (
          b.0,
          ap (plan_feed limits (at k [] (inside joins))) (simp append_assoc)
              ∙ join-line joins k (form_text (suc (length joins)) p ++ (10 ∷ (parts_text (suc (length joins)) ps ++ (close c ++ (10 ∷ rest))))) h.0
              ∙ a.1
              ∙ b.1,
        )

    -- a join's other parts, with c brackets after the join
    parts-run : (ps : Parts) (p : Plan) (f : List Plan) (joins : List (List Plan)) (k c : ℕ) (rest : List ℕ) → FitsParts limits (suc (length joins)) (suc (length f)) ps
        → (j : ℕ) × (plan_feed limits (at k [] (inside ((p ∷ f) ∷ joins))) (parts_text (suc (length joins)) ps ++ (close c ++ (10 ∷ rest))) ≡ plan_feed limits (line_done j (put (join p (add_parts f ps)) c joins)) rest)
    parts-run (last q) p f joins k c rest h =
        let a = form-runs q ((p ∷ f) ∷ joins) k (suc c) rest h in
        (a.0, ap (plan_feed limits (at k [] (inside ((p ∷ f) ∷ joins)))) (simp append_assoc) ∙ a.1)
    parts-run (more q ps) p f joins k c rest h =
        let a = form-runs q ((p ∷ f) ∷ joins) k 0 (parts_text (suc (length joins)) ps ++ (close c ++ (10 ∷ rest))) h.0 in
        let l : length (f ++ (q ∷ [])) ≡ suc (length f) = rw length-append (omega arith) in
        let b = parts-run ps p (f ++ (q ∷ [])) joins (suc a.0) c rest (rw l h.1) in (
          b.0,
          ap (plan_feed limits (at k [] (inside ((p ∷ f) ∷ joins)))) (simp append_assoc)
              ∙ a.1
              ∙ b.1
              ∙ ap (λ (z : Parts). plan_feed limits (line_done b.0 (put (join p z) c joins)) rest) (add-more f q ps),
        )

  -- the whole text
  text-runs : (t : Plan) → Fits limits 0 0 t → (j : ℕ) × (plan_feed limits (at 0 [] (inside [])) (text_of t) ≡ at j [] (whole t))
  unfolding text_of put line_done plan_feed feed_by
  text-runs t h = let a = form-runs t [] 0 0 [] h in (suc a.0, a.1)

-- a part with room for it breaks no limit
over-parts : (n : ℕ) → n < max_parts → over_parts n ≡ 0
over-parts n h = rw (lt-leb max_parts n h)

mutual
  unfolding depth width largest part_count

  -- a tree within the limits breaks none
  fits-limits : (t : Plan) (d n : ℕ) → depth t + d ≤ max_joins → n < max_parts → width t ≤ max_parts → largest t ≤ max_seg → Fits true d n t
  fits-limits (seg m) d n a b c e = (omega arith, rw (le-ltb max_seg m e) (over-parts n b))
  fits-limits (join p ps) d n a b c e = (
    rw (lt-leb max_joins d (omega arith)) (over-parts n b),
    fits-limits p (suc d) 0 (omega arith) (omega arith) (omega arith) (omega arith),
    fits-parts ps (suc d) 1 (omega arith) (omega arith) (omega arith) (omega arith),
  )

  -- nor do a join's other parts
  fits-parts : (ps : Parts) (d n : ℕ) → parts_depth ps + d ≤ max_joins → n + part_count ps ≤ max_parts → parts_width ps ≤ max_parts → parts_largest ps ≤ max_seg → FitsParts true d n ps
  fits-parts (last p) d n a b c e = fits-limits p d n a (omega arith) c e
  fits-parts (more p ps) d n a b c e =
      (fits-limits p d n (omega arith) (omega arith) (omega arith) (omega arith), fits-parts ps d (suc n) (omega arith) (omega arith) (omega arith) (omega arith))

mutual
  unfolding largest

  -- without limits, a tree of the rule breaks none
  fits-rule : (t : Plan) (d n : ℕ) → Ruled t → Fits false d n t
  fits-rule (seg m) d n h = (h, refl)
  fits-rule (join p ps) d n h = (refl, fits-rule p (suc d) 0 (omega arith), fits-rule-parts ps (suc d) 1 (omega arith))

  -- nor do a join's other parts
  fits-rule-parts : (ps : Parts) (d n : ℕ) → parts_largest ps < too_long → FitsParts false d n ps
  fits-rule-parts (last p) d n h = fits-rule p d n h
  fits-rule-parts (more p ps) d n h = (fits-rule p d n (omega arith), fits-rule-parts ps d (suc n) (omega arith))

-- the text of a tree of the rule is read as that tree, without limits
pub rule-runs : (t : Plan) → Ruled t → (j : ℕ) × (plan_feed false (at 0 [] (inside [])) (text_of t) ≡ at j [] (whole t))
rule-runs t r = text-runs false t (fits-rule t 0 0 r)

-- the text of a tree within the limits is read as that tree
pub round_trip : (t : Plan) → Within t → plan_of (text_of t) ≡ got t
unfolding plan_of plan_lines finish_by
round_trip t w =
    rw (le-ltb max_bytes (length (text_of t)) w.bytes)
    (ap (finish_by plan_done) (text-runs true t (fits-limits t 0 0 (let h = w.deep in omega arith) (omega arith) w.wide w.long)).1)
