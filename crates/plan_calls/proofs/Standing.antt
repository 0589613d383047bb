-- A plan that stands at a place of a text: the line found there, and the parts of a join one after the other, each ready.
use mathlib.Core.Path.{◌≡◌, refl, sym, ap, subst, ◌∙◌}
use Prim.Native.Nat.{ℕ, suc, ◌+◌, ◌-◌, ◌≤◌, ◌<◌}
use native.Mathlib.Numerals.{add-one}
use native.Mathlib.Omega.{arith}
use mathlib.Core.List.{List, ◌∷◌, ◌++◌, append_assoc}
use mathlib.Core.Logic.{◌⊎◌, inl, inr}
use lib.ListN.{length, drop}
use borrow.Rule.Slice.PartMut.{mid_of}
use Rattle.texts.specs.Digits.{too_long}
use Rattle.texts.specs.Words.{close}
use Rattle.texts.specs.Plans.{Plan, Parts, seg, join, last, more, form_text, parts_text, reads, parts_reads, depth, parts_depth, largest, parts_largest}
use Rattle.texts.specs.PlanPlaces.{seg_at, join_at, bad_at, line_at}
use Rattle.texts.proofs.Tests.{never}
use Rattle.texts.proofs.PlanPlaces.{seg-at, join-at}
use Rattle.plan_calls.specs.Calls.{level_words}
use Rattle.plan_calls.specs.Standing.{Stands, Ready, Roomy}
use Rattle.plan_calls.proofs.Levels.{below-long}

-- a join that stands there, by its parts
pub record Opened (s : List ℕ) (next d : ℕ) (t : Plan) (c : ℕ) (rest : List ℕ) : Type 0 where
  pub parts : Parts
  pub printed : drop next s ≡ parts_text (suc d) parts ++ (close c ++ (10 ∷ rest))
  pub covers : reads t ≡ parts_reads parts
  pub deepens : depth t ≡ suc (parts_depth parts)
  pub ruled : parts_largest parts < too_long

module _ (s : List ℕ) (at d : ℕ) where
  -- a seg is found as one
  seg-found : (n c : ℕ) (rest : List ℕ) → Stands (drop at s) d (seg n) c rest → line_at d (drop at s) ≡ seg_at n c rest
  unfolding form_text largest
  seg-found n c rest g = ap (line_at d) (g.printed ∙ simp append_assoc) ∙ seg-at d n c rest g.ruled

  -- so is an opened join
  join-found : (p : Plan) (ps : Parts) (c : ℕ) (rest : List ℕ) → Stands (drop at s) d (join p ps) c rest
      → line_at d (drop at s) ≡ join_at (form_text (suc d) p ++ (10 ∷ (parts_text (suc d) ps ++ (close c ++ (10 ∷ rest)))))
  unfolding form_text
  join-found p ps c rest g =
      ap (line_at d) (g.printed ∙ simp append_assoc) ∙ join-at d (form_text (suc d) p ++ (10 ∷ (parts_text (suc d) ps ++ (close c ++ (10 ∷ rest)))))

  -- some line is found
  pub some-line : {G : Type 0} (t : Plan) (c : ℕ) (rest : List ℕ) → Stands (drop at s) d t c rest → bad_at ≡ line_at d (drop at s) → G
  some-line (seg n) c rest g e = let q : bad_at ≡ seg_at n c rest = e ∙ seg-found n c rest g in never (cc)
  some-line (join p ps) c rest g e =
      let q : bad_at ≡ join_at (form_text (suc d) p ++ (10 ∷ (parts_text (suc d) ps ++ (close c ++ (10 ∷ rest))))) = e ∙ join-found p ps c rest g in never (cc)

  module _ (next : ℕ) where
    -- a seg's line: the plan is that seg
    pub seg-there : (t : Plan) (c : ℕ) (rest : List ℕ) → Stands (drop at s) d t c rest → (n k : ℕ) → seg_at n k (drop next s) ≡ line_at d (drop at s)
        → (reads t ≡ n) × (k ≡ c) × (drop next s ≡ rest)
    unfolding reads
    seg-there (seg m) c rest g n k e = let q : seg_at n k (drop next s) ≡ seg_at m c rest = e ∙ seg-found m c rest g in ((cc), (cc), (cc))
    seg-there (join p ps) c rest g n k e =
        let q : seg_at n k (drop next s) ≡ join_at (form_text (suc d) p ++ (10 ∷ (parts_text (suc d) ps ++ (close c ++ (10 ∷ rest))))) = e ∙ join-found p ps c rest g in never (cc)

    -- the line of an opened join: the plan is a join, and its parts stand next
    pub join-there : (t : Plan) (c : ℕ) (rest : List ℕ) → Stands (drop at s) d t c rest → join_at (drop next s) ≡ line_at d (drop at s) → Opened s next d t c rest
    unfolding parts_text reads parts_reads depth parts_depth largest parts_largest
    join-there (seg m) c rest g e = let q : join_at (drop next s) ≡ seg_at m c rest = e ∙ seg-found m c rest g in never (cc)
    join-there (join p ps) c rest g e =
        let q : join_at (drop next s) ≡ join_at (form_text (suc d) p ++ (10 ∷ (parts_text (suc d) ps ++ (close c ++ (10 ∷ rest))))) = e ∙ join-found p ps c rest g in
        let l : drop next s ≡ form_text (suc d) p ++ (10 ∷ (parts_text (suc d) ps ++ (close c ++ (10 ∷ rest)))) = cc in
        record {
          parts = more p ps;
          printed = l ∙ simp append_assoc;
          covers = refl;
          deepens = refl;
          ruled = g.ruled;
        }

-- what is left of a join under d brackets that ends with the read `end`: parts, no deeper than `deep`; or c brackets after it, and the rest
abbrev pub Pending : List ℕ → ℕ → ℕ → List ℕ → ℕ → ℕ → ℕ → ℕ → ℕ → Type 0
Pending s d c rest end deep closes next taken =
    ((ps : Parts) × (closes ≡ 0) × (drop next s ≡ parts_text d ps ++ (close c ++ (10 ∷ rest))) × (parts_largest ps < too_long) × (parts_depth ps ≤ deep) × (taken + parts_reads ps ≡ end))
    ⊎ ((closes ≡ suc c) × (drop next s ≡ rest) × (taken ≡ end))

-- the next of the parts left
pub record NextPart (s : List ℕ) (d c : ℕ) (rest : List ℕ) (end deep next taken : ℕ) : Type 0 where
  pub part : Plan
  pub closes : ℕ
  pub after : List ℕ
  pub stands : Stands (drop next s) d part closes after
  pub shallow : depth part ≤ deep
  pub covered : taken + reads part ≤ end
  pub then : (closes' next' taken' : ℕ) → closes' ≡ closes → drop next' s ≡ after → taken' ≡ taken + reads part → Pending s d c rest end deep closes' next' taken'

module _ (s : List ℕ) (d c : ℕ) (rest : List ℕ) (end deep next taken : ℕ) where
  -- parts are left: one of them is next
  part_of : (ps : Parts) → drop next s ≡ parts_text d ps ++ (close c ++ (10 ∷ rest)) → parts_largest ps < too_long → parts_depth ps ≤ deep → taken + parts_reads ps ≡ end
      → NextPart s d c rest end deep next taken
  unfolding parts_text parts_largest parts_depth parts_reads
  part_of (last q) e l h r = record {
    part = q;
    closes = suc c;
    after = rest;
    stands = record { printed = e ∙ simp append_assoc; ruled = l };
    shallow = h;
    covered = omega arith;
    then = λ k n t a b f. inr (a, b, f ∙ r);
  }
  part_of (more q qs) e l h r = record {
    part = q;
    closes = 0;
    after = parts_text d qs ++ (close c ++ (10 ∷ rest));
    stands = record { printed = e ∙ simp append_assoc; ruled = omega arith };
    shallow = omega arith;
    covered = omega arith;
    then = λ k n t a b f. inl (qs, a, b, omega arith, omega arith, omega arith);
  }

  -- no bracket has closed the join: another part is next
  pub next-part : (closes : ℕ) → Pending s d c rest end deep closes next taken → closes ≡ 0 → NextPart s d c rest end deep next taken
  next-part closes (inl p) z = part_of p.0 p.2 p.3 p.4 p.5
  next-part closes (inr p) z = let q : suc c ≡ 0 = sym p.0 ∙ z in absurd (omega arith)

  -- a bracket has: no part is left
  pub no_part : (closes : ℕ) → Pending s d c rest end deep closes next taken → (closes ≡ 0 → ⊥) → (closes ≡ suc c) × (drop next s ≡ rest) × (taken ≡ end)
  no_part closes (inl p) z = absurd (z p.1)
  no_part closes (inr p) z = p

-- the next part is ready
abbrev pub ready-next : (s : List ℕ) (next d : ℕ) (log : List ℕ) (taken left c : ℕ) (rest : List ℕ) (end : ℕ) → (n : NextPart s (suc d) c rest end (left - 1) next taken) → end ≤ length log
    → Ready s next (d + 1) log taken (left - 1)
ready-next s next d log taken left c rest end n covered = record {
  plan = n.part;
  closes = n.closes;
  rest = n.after;
  stands = subst (λ (x : ℕ). Stands (drop next s) x n.part n.closes n.after) (sym (add-one d)) n.stands;
  deep = n.shallow;
  covered = omega (arith, n.covered);
}

-- the words lent for a level suffice for those below
pub below-roomy : (s : List ℕ) (at d : ℕ) (log work out : List ℕ) (left : ℕ) → Roomy s at d log work out left → 0 < left → (next : ℕ) → next ≤ length s → (w o : List ℕ) → length w ≡ length work → length o ≡ length out
    → Roomy s next (d + 1) log (mid_of level_words (length w - level_words) w) o (left - 1)
below-roomy s at d log work out left r p next h w o long wide = record {
  inside = h;
  joins = omega (arith, r.joins);
  within = r.within;
  levels = omega (arith, below-long w left p (omega (arith, r.levels)), r.levels);
  room = omega (arith, r.room);
}
