-- What the refusals of a plan text mean: 1 as the paper says, 2 and 4 from a broken limit only, at the earliest faulty line.
use mathlib.Core.Path.{◌≡◌, refl, sym, ap, subst, ◌∙◌}
use Prim.Native.Nat.{ℕ, zero, suc, ◌<◌}
use native.Mathlib.Omega.{arith}
use mathlib.Core.List.{List, [], ◌∷◌, ◌++◌, append_assoc, append-nil}
use mathlib.Core.Bool.{Bool, true, false}
use lib.ListN.{length}
use Rattle.texts.specs.Limits.{max_bytes}
use Rattle.texts.specs.Digits.{too_long}
use Rattle.texts.specs.Lines.{to, no, refused, unless, first_lines, line_count, Faulty}
use Rattle.texts.specs.Plans.{Plan, Parts, seg, join, last, join_text, seg_text, form_text, parts_text, text_of, largest, parts_largest, Ruled}
use Rattle.texts.specs.PlanTexts.{Line, seg_line, join_line, bad_line, line_of, Reading, inside, whole, add_parts, put, parts_in, over_seg, over_join, line_by, plan_step, any_room, plan_feed, plan_done, plan_lines, plan_of}
use Rattle.texts.specs.PlanFaults.{opened, so_far, Kept, Broken, long_seg, part_seg, part_join, deep_join, PlanOver}
use Rattle.texts.proofs.Tests.{never}
use Rattle.texts.proofs.Faults.{Reads, unless-to, unless-one, unless-no, faulty, before, over}
use Rattle.texts.proofs.PlanLines.{join-sound, seg-sound}
use Rattle.texts.proofs.PlanRuns.{rule-runs}
use Rattle.texts.proofs.PlanSound.{by-step, whole-ends, closed-text, plan-adds, by-over-seg, by-over-join, plan-keeps, by_bytes}

-- a line that goes on within the limits goes on without them
same : (s : Reading) (line : List ℕ) (s' : Reading) → plan_step true s line ≡ to s' → plan_step false s line ≡ to s'
unfolding plan_step line_by unless
same (whole t) line s' e = e
same (inside joins) line s' e = by-line (line_of (length joins) line) e
  where
    by-line : (l : Line) → line_by true joins l ≡ to s' → line_by false joins l ≡ to s'
    by-line bad_line p = p
    by-line join_line p = (unless-to (over_join (length joins) (parts_in joins)) (to (inside ([] ∷ joins))) s' p).1
    by-line (seg_line n c) p = (unless-to (over_seg (parts_in joins) n) (put (seg n) c joins) s' p).1

-- no limit of a seg has the number 1
seg-not-one : (parts n : ℕ) → over_seg parts n ≡ 1 → ⊥
seg-not-one parts n e =
    by-over-seg parts n
    (λ h q. let z : 2 ≡ 1 = sym q ∙ e in omega arith)
    (λ h g q. let z : 4 ≡ 1 = sym q ∙ e in omega arith)
    (λ h g q. let z : 0 ≡ 1 = sym q ∙ e in omega arith)

-- nor has one of a join
join-not-one : (d parts : ℕ) → over_join d parts ≡ 1 → ⊥
join-not-one d parts e =
    by-over-join d parts
    (λ h q. let z : 4 ≡ 1 = sym q ∙ e in omega arith)
    (λ h g q. let z : 4 ≡ 1 = sym q ∙ e in omega arith)
    (λ h g q. let z : 0 ≡ 1 = sym q ∙ e in omega arith)

-- a line refused with 1 is so without the limits
one : (s : Reading) (line : List ℕ) → plan_step true s line ≡ no 1 → plan_step false s line ≡ no 1
unfolding plan_step line_by unless
one (whole t) line e = e
one (inside joins) line e = by-line (line_of (length joins) line) e
  where
    by-line : (l : Line) → line_by true joins l ≡ no 1 → line_by false joins l ≡ no 1
    by-line bad_line p = p
    by-line join_line p = unless-one (over_join (length joins) (parts_in joins)) (to (inside ([] ∷ joins))) (join-not-one (length joins) (parts_in joins)) p
    by-line (seg_line n c) p = unless-one (over_seg (parts_in joins) n) (put (seg n) c joins) (seg-not-one (parts_in joins) n) p

-- the open joins closed around t, with a seg more where one has no part
plug : List (List Plan) → Plan → Plan
plug [] t = t
plug ([] ∷ joins) t = plug joins (join t (last (seg 0)))
plug ((p ∷ f) ∷ joins) t = plug joins (join p (add_parts f (last t)))

-- the text of a join, by its first part and the others
join-text : (d : ℕ) (t : Plan) (ps : Parts) (b : List ℕ) → form_text d (join t ps) ++ b ≡ join_text d ++ (10 ∷ (form_text (suc d) t ++ (10 ∷ (parts_text (suc d) ps ++ b))))
unfolding form_text
join-text d t ps b = simp append_assoc

-- its text begins with the text so far and t
plug-begins : (joins : List (List Plan)) (t : Plan) → (b : List ℕ) × (text_of (plug joins t) ≡ opened joins ++ (form_text (length joins) t ++ b))
unfolding plug text_of
plug-begins [] t = (10 ∷ [], refl)
plug-begins ([] ∷ joins) t =
    let r = plug-begins joins (join t (last (seg 0))) in (
      10 ∷ (parts_text (suc (length joins)) (last (seg 0)) ++ r.0),
      r.1 ∙ ap (λ (z : List ℕ). opened joins ++ z) (join-text (length joins) t (last (seg 0)) r.0) ∙ simp append_assoc,
    )
plug-begins ((p ∷ f) ∷ joins) t =
    let r = plug-begins joins (join p (add_parts f (last t))) in
    (41 ∷ r.0, r.1 ∙ ap (λ (z : List ℕ). opened joins ++ (z ++ r.0)) (closed-text (length joins) p f t) ∙ simp append_assoc)

-- parts of the rule
abbrev RuledParts : List Plan → Type 0
RuledParts [] = Unit
RuledParts (t ∷ f) = Ruled t × RuledParts f

-- joins with parts of the rule
abbrev RuledJoins : List (List Plan) → Type 0
RuledJoins [] = Unit
RuledJoins (f ∷ joins) = RuledParts f × RuledJoins joins

-- every tree in a reading is of the rule
abbrev RuledState : Reading → Type 0
RuledState (inside joins) = RuledJoins joins
RuledState (whole t) = Ruled t

-- one part more
ruled-more : (f : List Plan) (t : Plan) → RuledParts f → Ruled t → RuledParts (f ++ (t ∷ []))
ruled-more [] t h g = (g, tt)
ruled-more (p ∷ f) t h g = (h.0, ruled-more f t h.1 g)

-- the parts of a join and its last
add-largest : (f : List Plan) (t : Plan) → RuledParts f → Ruled t → parts_largest (add_parts f (last t)) < too_long
unfolding add_parts largest
add-largest [] t h g = g
add-largest (p ∷ f) t h g = let r = add-largest f t h.1 g in let q = h.0 in omega arith

-- a join of parts of the rule is of the rule
closed-ruled : (p : Plan) (f : List Plan) (t : Plan) → RuledParts (p ∷ f) → Ruled t → Ruled (join p (add_parts f (last t)))
unfolding largest
closed-ruled p f t h g = let r = add-largest f t h.1 g in let q = h.0 in omega arith

-- a form and its brackets keep the rule
put-ruled : (joins : List (List Plan)) (t : Plan) (c : ℕ) (r : Reading) → RuledJoins joins → Ruled t → put t c joins ≡ to r → RuledState r
unfolding put
put-ruled [] t zero r h g e = let z : whole t ≡ r = cc in subst RuledState z g
put-ruled [] t (suc c) r h g e = never (cc)
put-ruled (f ∷ joins) t zero r h g e =
    let z : inside ((f ++ (t ∷ [])) ∷ joins) ≡ r = cc in
    subst RuledState z (ruled-more f t h.0 g, h.1)
put-ruled ([] ∷ joins) t (suc c) r h g e = never (cc)
put-ruled ((p ∷ f) ∷ joins) t (suc c) r h g e = put-ruled joins (join p (add_parts f (last t))) c r h.1 (closed-ruled p f t h.0 g) e

-- each line keeps the rule
rule-keeps : (limits : Bool) (s : Reading) (line : List ℕ) (s' : Reading) → RuledState s → plan_step limits s line ≡ to s' → RuledState s'
unfolding largest
rule-keeps limits (whole t) line s' h e = whole-ends limits t line s' e
rule-keeps limits (inside joins) line s' h e =
    by-step limits joins line s' e (λ l o z. subst RuledState z (tt, h)) (λ n c l b o p. put-ruled joins (seg n) c s' h b p)

-- the open joins closed around a tree of the rule are of the rule
plug-ruled : (joins : List (List Plan)) (t : Plan) → RuledJoins joins → Ruled t → Ruled (plug joins t)
unfolding plug largest
plug-ruled [] t h g = g
plug-ruled ([] ∷ joins) t h g = plug-ruled joins (join t (last (seg 0))) h.1 (omega arith)
plug-ruled ((p ∷ f) ∷ joins) t h g = plug-ruled joins (join p (add_parts f (last t))) h.1 (closed-ruled p f t h.0 g)

-- every reading goes on to a text of the rule
viable : (s : Reading) → RuledState s → (t : Plan) × (b : List ℕ) × Ruled t × (text_of t ≡ so_far s ++ b)
unfolding largest
viable (inside joins) h =
    let r = plug-begins joins (seg 0) in
    (plug joins (seg 0), form_text (length joins) (seg 0) ++ r.0, plug-ruled joins (seg 0) h (omega arith), r.1)
viable (whole t) h = (t, [], h, sym (append-nil (text_of t)))

-- a reading keeps the limits and the rule
abbrev Both : Reading → Type 0
Both s = Kept s × RuledState s

-- the text so far, the limits and the rule
both-reads : Reads (plan_step true) (inside []) so_far Both
both-reads =
    record {
      adds = plan-adds true;
      keeps = λ s line s' h q. (plan-keeps s line s' h.0 q, rule-keeps true s line s' h.1 q);
      nothing = refl;
      kept = (tt, tt);
    }

-- refusal 1 is given where the paper says
pub plan-faulty : (text : List ℕ) (k : ℕ) → plan_of text ≡ refused k 1 → Faulty Ruled text_of text k
unfolding plan_lines plan_feed
plan-faulty text k e =
    by_bytes text (refused k 1) e
    (λ h q. let z : ◌≡◌ {A = ℕ} 4 1 = cc in absurd (omega arith))
    (λ h q. faulty any_room plan_done both-reads (plan_step false) Ruled text_of same one
    (λ t r. let a = rule-runs t r in (a.0, whole t, a.1, refl))
    (λ s b. viable s b.1) text k q)

-- a refusal at no line is 4, of a text over the limit of bytes
pub plan-long : (text : List ℕ) (n : ℕ) → plan_of text ≡ refused 0 n → (n ≡ 4) × (max_bytes < length text)
unfolding plan_lines plan_feed
plan-long text n e =
    by_bytes text (refused 0 n) e
    (λ h q. let z : 4 ≡ n = cc in (sym z, h))
    (λ h q. let b = before any_room plan_done both-reads text 0 n q in absurd (let c = b.0 in omega arith))

-- any other refusal leaves lines before it that were read and keep the limits
pub plan-before : (text : List ℕ) (k n : ℕ) → plan_of text ≡ refused (suc k) n → (s : Reading) × Kept s × (first_lines k text ≡ so_far s)
unfolding plan_lines plan_feed
plan-before text k n e =
    by_bytes text (refused (suc k) n) e
    (λ h q. let z : 0 ≡ suc k = cc in absurd (omega arith))
    (λ h q. let b = before any_room plan_done both-reads text (suc k) n q in (b.1, b.2.0, b.3))

-- a form is refused with 1 only
put-no : (joins : List (List Plan)) (t : Plan) (c m : ℕ) → put t c joins ≡ no m → m ≡ 1
unfolding put
put-no [] t zero m e = never (cc)
put-no [] t (suc c) m e = (cc)
put-no (f ∷ joins) t zero m e = never (cc)
put-no ([] ∷ joins) t (suc c) m e = (cc)
put-no ((p ∷ f) ∷ joins) t (suc c) m e = put-no joins (join p (add_parts f (last t))) c m e

module _ (joins : List (List Plan)) (line : List ℕ) (m : ℕ) where
  -- the limit that a seg broke
  broken-seg : (n c : ℕ) → line ≡ seg_text (length joins) n c → over_seg (parts_in joins) n ≡ m → (m ≡ 0 → ⊥) → Broken joins line m
  broken-seg n c l e z =
      by-over-seg (parts_in joins) n
      (λ h q. let u : 2 ≡ m = sym q ∙ e in subst (Broken joins line) u (long_seg n c l h))
      (λ h g q. let u : 4 ≡ m = sym q ∙ e in subst (Broken joins line) u (part_seg n c l h g))
      (λ h g q. let u : 0 ≡ m = sym q ∙ e in absurd (z (sym u)))

  -- the limit that a join broke
  broken-join : line ≡ join_text (length joins) → over_join (length joins) (parts_in joins) ≡ m → (m ≡ 0 → ⊥) → Broken joins line m
  broken-join l e z =
      by-over-join (length joins) (parts_in joins)
      (λ h q. let u : 4 ≡ m = sym q ∙ e in subst (Broken joins line) u (deep_join l h))
      (λ h g q. let u : 4 ≡ m = sym q ∙ e in subst (Broken joins line) u (part_join l g))
      (λ h g q. let u : 0 ≡ m = sym q ∙ e in absurd (z (sym u)))

  -- a line refused by a limit broke one, and goes on without it
  passes : (m ≡ 1 → ⊥) → plan_step true (inside joins) line ≡ no m → Broken joins line m × (s : Reading) × (plan_step false (inside joins) line ≡ to s)
  unfolding plan_step line_by unless
  passes other e = by-line (line_of (length joins) line) refl e
    where
      by-line : (l : Line) → line_of (length joins) line ≡ l → line_by true joins l ≡ no m → Broken joins line m × (s : Reading) × (line_by false joins l ≡ to s)
      by-line bad_line q p = let u : 1 ≡ m = cc in absurd (other (sym u))
      by-line join_line q p =
          let u = unless-no (over_join (length joins) (parts_in joins)) (to (inside ([] ∷ joins))) m (λ z. never (cc)) p in
          (broken-join (join-sound (length joins) line q) u.0 u.1, u.2, u.3)
      by-line (seg_line n c) q p =
          let u = unless-no (over_seg (parts_in joins) n) (put (seg n) c joins) m (λ z. other (put-no joins (seg n) c m z)) p in
          (broken-seg n c (seg-sound (length joins) line n c q).0 u.0 u.1, u.2, u.3)

-- a refusal other than 1 at a line is a broken limit's
pub plan-over : (text : List ℕ) (k n : ℕ) → plan_of text ≡ refused (suc k) n → (n ≡ 1 → ⊥) → PlanOver text (suc k) n
unfolding plan_lines plan_feed plan_step
plan-over text k n e other =
    by_bytes text (refused (suc k) n) e
    (λ h q. let z : 0 ≡ suc k = cc in absurd (omega arith))
    (λ h q. let r = over any_room plan_done both-reads text (suc k) n other q in
    by_state r.state r.line r.rest r.earlier r.refuses r.one_line r.place r.text-is)
  where
    by_state : (s : Reading) (line rest : List ℕ) → Both s → plan_step true s line ≡ no n → line_count line ≡ 0 → suc (line_count (so_far s)) ≡ suc k → text ≡ so_far s ++ (line ++ (10 ∷ rest)) → PlanOver text (suc k) n
    by_state (whole t) line rest h q c p x = let u : 1 ≡ n = cc in absurd (other (sym u))
    by_state (inside joins) line rest h q c p x =
        let b = passes joins line n other q in
        let v = viable b.1 (rule-keeps false (inside joins) line b.1 h.1 b.2) in
        record {
          joins = joins;
          line = line;
          rest = rest;
          text-is = x;
          one_line = c;
          place = p;
          earlier = h.0;
          goes_on = (v.0, v.1, v.2, v.3 ∙ ap (λ (z : List ℕ). z ++ v.1) (sym (plan-adds false (inside joins) line b.1 b.2)));
          broken = b.0;
        }
