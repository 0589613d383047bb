-- What has been read is the text so far, and keeps the limits: the accepted texts are those of trees within the limits.
use mathlib.Core.Path.{◌≡◌, refl, sym, ap, subst, ◌∙◌}
use Prim.Native.Nat.{ℕ, zero, suc, ◌+◌, ◌≤◌, ◌<◌}
use native.Mathlib.Omega.{arith}
use mathlib.Core.List.{List, [], ◌∷◌, ◌++◌, append_assoc}
use mathlib.Core.Bool.{Bool, true}
use mathlib.Core.Logic.{◌↔◌}
use mathlib.Core.Option.{some}
use lib.Dec.{ltb, leb}
use lib.ListN.{length, length-append}
use borrow.Author.Tests.{ltb-true, ltb-false, leb-true, leb-false}
use Rattle.texts.specs.Limits.{max_bytes, max_joins, max_parts, max_seg}
use Rattle.texts.specs.Digits.{too_long}
use Rattle.texts.specs.Words.{close}
use Rattle.texts.specs.Lines.{to, Read, got, refused, counting}
use Rattle.texts.specs.Plans.{Plan, seg, join, last, join_text, seg_text, form_text, parts_text, text_of, depth, parts_depth, part_count, width, parts_width, largest, parts_largest, Within}
use Rattle.texts.specs.PlanTexts.{Line, seg_line, join_line, bad_line, line_of, Reading, inside, whole, add_parts, put, parts_in, over_seg, over_join, line_by, plan_step, any_room, plan_feed, plan_done, plan_lines, plan_of}
use Rattle.texts.specs.PlanFaults.{filled, opened, so_far, KeptForm, KeptParts, KeptJoins, Kept}
use Rattle.reuse.proofs.Lists.{by-test}
use Rattle.texts.proofs.Tests.{never}
use Rattle.texts.proofs.Faults.{Reads, unless-to, content}
use Rattle.texts.proofs.PlanLines.{join-sound, seg-sound}
use Rattle.texts.proofs.PlanRuns.{round_trip}

-- a proof by the two lines that go on: an opened join, or a seg
pub by-step : {G : Type 0} (limits : Bool) (joins : List (List Plan)) (line : List ℕ) (s' : Reading) → plan_step limits (inside joins) line ≡ to s'
    → (line ≡ join_text (length joins) → counting limits (over_join (length joins) (parts_in joins)) ≡ 0 → inside ([] ∷ joins) ≡ s' → G)
    → ((n c : ℕ) → line ≡ seg_text (length joins) n c → n < too_long → counting limits (over_seg (parts_in joins) n) ≡ 0 → put (seg n) c joins ≡ to s' → G)
    → G
unfolding plan_step line_by
by-step {G} limits joins line s' e a b = by-line (line_of (length joins) line) refl e
  where
    by-line : (l : Line) → line_of (length joins) line ≡ l → line_by limits joins l ≡ to s' → G
    by-line bad_line q p = never (cc)
    by-line join_line q p =
        let u = unless-to (counting limits (over_join (length joins) (parts_in joins))) (to (inside ([] ∷ joins))) s' p in
        let r = u.1 in
        a (join-sound (length joins) line q) u.0 (cc)
    by-line (seg_line n c) q p =
        let u = unless-to (counting limits (over_seg (parts_in joins) n)) (put (seg n) c joins) s' p in
        let s = seg-sound (length joins) line n c q in
        b n c s.0 s.1 u.0 u.1

-- nothing goes on after the whole plan
pub whole-ends : {G : Type 0} (limits : Bool) (t : Plan) (line : List ℕ) (s' : Reading) → plan_step limits (whole t) line ≡ to s' → G
unfolding plan_step
whole-ends limits t line s' e = never (cc)

-- one part more
filled_more : (d : ℕ) (f : List Plan) (t : Plan) → filled d (f ++ (t ∷ [])) ≡ filled d f ++ (form_text d t ++ (10 ∷ []))
filled_more d [] t = refl
filled_more d (p ∷ f) t = rw (filled_more d f t) (simp append_assoc)

-- the last part, and the join's bracket
filled-last : (d : ℕ) (f : List Plan) (t : Plan) → parts_text d (add_parts f (last t)) ≡ filled d f ++ (form_text d t ++ (41 ∷ []))
unfolding form_text add_parts
filled-last d [] t = refl
filled-last d (p ∷ f) t = rw (filled-last d f t) (simp append_assoc)

-- a join closed after its parts f and the last t
pub closed-text : (d : ℕ) (p : Plan) (f : List Plan) (t : Plan)
    → form_text d (join p (add_parts f (last t))) ≡ join_text d ++ (10 ∷ (form_text (suc d) p ++ (10 ∷ (filled (suc d) f ++ (form_text (suc d) t ++ (41 ∷ []))))))
unfolding form_text
closed-text d p f t = rw (filled-last (suc d) f t) (simp append_assoc)

-- a form and its brackets add themselves
put-adds : (joins : List (List Plan)) (t : Plan) (c : ℕ) (r : Reading) → put t c joins ≡ to r
    → opened joins ++ (form_text (length joins) t ++ (close c ++ (10 ∷ []))) ≡ so_far r
unfolding put text_of
put-adds [] t zero r e = let z : whole t ≡ r = cc in rw (← z)
put-adds [] t (suc c) r e = never (cc)
put-adds (f ∷ joins) t zero r e =
    let z : inside ((f ++ (t ∷ [])) ∷ joins) ≡ r = cc in
    rw (← z) (rw (filled_more (suc (length joins)) f t) (simp append_assoc))
put-adds ([] ∷ joins) t (suc c) r e = never (cc)
put-adds ((p ∷ f) ∷ joins) t (suc c) r e =
    rw (closed-text (length joins) p f t) (simp append_assoc) ∙ put-adds joins (join p (add_parts f (last t))) c r e

-- a seg's line is the seg and its brackets
seg-text : (d n c : ℕ) → seg_text d n c ++ (10 ∷ []) ≡ form_text d (seg n) ++ (close c ++ (10 ∷ []))
unfolding form_text
seg-text d n c = simp append_assoc

-- each line adds itself
pub plan-adds : (limits : Bool) (s : Reading) (line : List ℕ) (s' : Reading) → plan_step limits s line ≡ to s' → so_far s ++ (line ++ (10 ∷ [])) ≡ so_far s'
plan-adds limits (whole t) line s' e = whole-ends limits t line s' e
plan-adds limits (inside joins) line s' e =
    by-step limits joins line s' e
    (λ l o z. ap (λ (x : List ℕ). opened joins ++ (x ++ (10 ∷ []))) l ∙ rw (← z) (simp append_assoc))
    (λ n c l h o p.
    ap (λ (x : List ℕ). opened joins ++ (x ++ (10 ∷ []))) l
    ∙ ap (λ (x : List ℕ). opened joins ++ x) (seg-text (length joins) n c)
    ∙ put-adds joins (seg n) c s' p)

-- a proof by the limit that a seg breaks
pub by-over-seg : {G : Type 0} (parts n : ℕ) → (max_seg < n → over_seg parts n ≡ 2 → G)
    → (n ≤ max_seg → max_parts ≤ parts → over_seg parts n ≡ 4 → G) → (n ≤ max_seg → parts < max_parts → over_seg parts n ≡ 0 → G) → G
by-over-seg parts n a b c =
    by-test (ltb max_seg n)
    (λ t. a (ltb-true max_seg n t) (rw t))
    (λ t. by-test (leb max_parts parts)
    (λ u. b (ltb-false max_seg n t) (leb-true max_parts parts u) (rw (t, u)))
    (λ u. c (ltb-false max_seg n t) (leb-false max_parts parts u) (rw (t, u))))

-- a proof by the limit that a join breaks
pub by-over-join : {G : Type 0} (d parts : ℕ) → (max_joins ≤ d → over_join d parts ≡ 4 → G)
    → (d < max_joins → max_parts ≤ parts → over_join d parts ≡ 4 → G) → (d < max_joins → parts < max_parts → over_join d parts ≡ 0 → G) → G
by-over-join d parts a b c =
    by-test (leb max_joins d)
    (λ t. a (leb-true max_joins d t) (rw t))
    (λ t. by-test (leb max_parts parts)
    (λ u. b (leb-false max_joins d t) (leb-true max_parts parts u) (rw (t, u)))
    (λ u. c (leb-false max_joins d t) (leb-false max_parts parts u) (rw (t, u))))

-- a seg that breaks no limit
over-seg : (parts n : ℕ) → over_seg parts n ≡ 0 → (parts < max_parts) × (n ≤ max_seg)
over-seg parts n e =
    by-over-seg parts n
    (λ h q. let z : 2 ≡ 0 = sym q ∙ e in absurd (omega arith))
    (λ h g q. let z : 4 ≡ 0 = sym q ∙ e in absurd (omega arith))
    (λ h g q. (g, h))

-- a join that breaks no limit
over-join : (d parts : ℕ) → over_join d parts ≡ 0 → (d < max_joins) × (parts < max_parts)
over-join d parts e =
    by-over-join d parts
    (λ h q. let z : 4 ≡ 0 = sym q ∙ e in absurd (omega arith))
    (λ h g q. let z : 4 ≡ 0 = sym q ∙ e in absurd (omega arith))
    (λ h g q. (h, g))

-- one part more keeps the limits
kept_more : (d : ℕ) (f : List Plan) (t : Plan) → KeptParts d f → KeptForm d t → KeptParts d (f ++ (t ∷ []))
kept_more d [] t h g = (g, tt)
kept_more d (p ∷ f) t h g = (h.0, kept_more d f t h.1 g)

-- how many parts
add-count : (f : List Plan) (t : Plan) → part_count (add_parts f (last t)) ≡ suc (length f)
unfolding add_parts part_count
add-count [] t = refl
add-count (p ∷ f) t = ap suc (add-count f t)

-- the parts of a join and its last keep the limits
add-bounds : (d : ℕ) (f : List Plan) (t : Plan) → KeptParts d f → KeptForm d t
    → (parts_depth (add_parts f (last t)) + d ≤ max_joins) × (parts_width (add_parts f (last t)) ≤ max_parts) × (parts_largest (add_parts f (last t)) ≤ max_seg)
unfolding add_parts depth width largest
add-bounds d [] t h g = g
add-bounds d (p ∷ f) t h g = let r = add-bounds d f t h.1 g in let q = h.0 in (omega arith, omega arith, omega arith)

-- so does the join
join-bounds : (d : ℕ) (p : Plan) (f : List Plan) (t : Plan) → d < max_joins → KeptForm (suc d) p → KeptParts (suc d) f → KeptForm (suc d) t → suc (length f) < max_parts → KeptForm d (join p (add_parts f (last t)))
unfolding depth width largest
join-bounds d p f t a q h g n = let r = add-bounds (suc d) f t h g in let c = add-count f t in (omega arith, omega arith, omega arith)

-- a form and its brackets keep the limits
put_keeps : (joins : List (List Plan)) (t : Plan) (c : ℕ) (r : Reading) → KeptJoins joins → KeptForm (length joins) t → parts_in joins < max_parts → put t c joins ≡ to r → Kept r
unfolding put
put_keeps [] t zero r h g n e = let z : whole t ≡ r = cc in subst Kept z g
put_keeps [] t (suc c) r h g n e = never (cc)
put_keeps (f ∷ joins) t zero r h g n e =
    let z : inside ((f ++ (t ∷ [])) ∷ joins) ≡ r = cc in
    let w : KeptJoins ((f ++ (t ∷ [])) ∷ joins) =
    (h.0, rw length-append (omega arith), h.2, kept_more (suc (length joins)) f t h.3 g, h.4) in
    subst Kept z w
put_keeps ([] ∷ joins) t (suc c) r h g n e = never (cc)
put_keeps ((p ∷ f) ∷ joins) t (suc c) r h g n e =
    put_keeps joins (join p (add_parts f (last t))) c r h.4 (join-bounds (length joins) p f t h.0 h.3.0 h.3.1 g n) h.2 e

-- no more joins are open than may be
joins-kept : (joins : List (List Plan)) → KeptJoins joins → length joins ≤ max_joins
joins-kept [] h = omega arith
joins-kept (f ∷ joins) h = h.0

-- a seg keeps the limits
seg-kept : (joins : List (List Plan)) (n : ℕ) → KeptJoins joins → n ≤ max_seg → KeptForm (length joins) (seg n)
unfolding depth width largest
seg-kept joins n h b = let g = joins-kept joins h in (omega arith, omega arith, b)

-- each line keeps the limits
pub plan-keeps : (s : Reading) (line : List ℕ) (s' : Reading) → Kept s → plan_step true s line ≡ to s' → Kept s'
plan-keeps (whole t) line s' h e = whole-ends true t line s' e
plan-keeps (inside joins) line s' h e =
    by-step true joins line s' e
    (λ l o z. let v = over-join (length joins) (parts_in joins) o in
    let w : KeptJoins ([] ∷ joins) = (v.0, omega arith, v.1, tt, h) in
    subst Kept z w)
    (λ n c l b o p. let v = over-seg (parts_in joins) n o in put_keeps joins (seg n) c s' h (seg-kept joins n h v.1) v.0 p)

-- the text so far, and the limits
pub plan-reads : Reads (plan_step true) (inside []) so_far Kept
plan-reads = record { adds = plan-adds true; keeps = plan-keeps; nothing = refl; kept = tt }

-- a proof by the length of a text
pub by_bytes : {G : Type 0} (text : List ℕ) (r : Read Plan) → plan_of text ≡ r → (max_bytes < length text → refused 0 4 ≡ r → G) → (length text ≤ max_bytes → plan_lines text ≡ r → G) → G
unfolding plan_of
by_bytes text r e a b =
    by-test (ltb max_bytes (length text))
    (λ t. a (ltb-true max_bytes (length text) t) (sym (rw t) ∙ e))
    (λ t. b (ltb-false max_bytes (length text) t) (sym (rw t) ∙ e))

-- what the lines of an accepted text have read
lines-content : (text : List ℕ) (t : Plan) → plan_lines text ≡ got t → (text ≡ text_of t) × KeptForm 0 t
unfolding plan_lines plan_feed
lines-content text t e = let c = content any_room plan_done plan-reads text t e in by_state c.0 c.1 c.2 c.3
  where
    by_state : (s : Reading) → Kept s → text ≡ so_far s → plan_done s ≡ some t → (text ≡ text_of t) × KeptForm 0 t
    by_state (inside joins) k q d = never (cc)
    by_state (whole u) k q d = let z : u ≡ t = cc in (q ∙ ap text_of z, subst (KeptForm 0) z k)

-- an accepted text is the text of its tree, which is within the limits
pub sound : (text : List ℕ) (t : Plan) → plan_of text ≡ got t → (text ≡ text_of t) × Within t
sound text t e =
    by_bytes text (got t) e
    (λ h q. never (cc))
    (λ h q. let c = lines-content text t q in
    let k = c.1 in
    (c.0, record { deep = omega arith; wide = k.1; long = k.2; bytes = subst (λ (z : List ℕ). length z ≤ max_bytes) c.0 h }))

-- exactly the texts of trees within the limits are accepted
pub accepted : (text : List ℕ) (t : Plan) → (plan_of text ≡ got t) ↔ ((text ≡ text_of t) × Within t)
accepted text t = (sound text t, λ p. ap plan_of p.0 ∙ round_trip t p.1)
