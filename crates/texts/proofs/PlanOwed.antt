-- The two readers' answers, line by line: one law for each way that the code returns.
use mathlib.Core.Path.{◌≡◌, refl, ap, ◌∙◌}
use Prim.Native.Nat.{ℕ, zero, suc, ◌+◌, ◌≤◌, ◌<◌, max}
use native.Mathlib.Omega.{arith}
use mathlib.Core.List.{List, [], ◌∷◌, ◌++◌}
use lib.ListN.{length, length-append}
use borrow.Author.Tests.{le-ltb, lt-leb, lt-ltb, le-leb}
use Rattle.texts.specs.Limits.{max_bytes, max_joins, max_parts, max_seg}
use Rattle.texts.specs.Lines.{Answer, to, no, got, refused, unless, line_count}
use Rattle.texts.specs.Plans.{Plan, seg, join, last, reads, depth}
use Rattle.texts.specs.PlanTexts.{seg_line, join_line, bad_line, line_of, Reading, inside, add_parts, put, parts_in, over_seg, over_join, line_by, plan_of}
use Rattle.texts.specs.PlanOwed.{plan_from, plan_after, closable, closable_after, done_reads, done_depth, FormGives, FormRefuses, PartsGive, PartsRefuse}
use Rattle.texts.proofs.PlanReader.{from_start, from_end, from-line, after-no, after-inside, after-whole, after_more, put-many, put_some, put-part, put_last, closed-reads, closed-depth, done-reads, done-depth}

-- a broken limit refuses a line that would go on
unless-limit : {S : Type 0} (a : Answer S) (n : ℕ) (s : S) → a ≡ to s → unless (suc n) a ≡ no (suc n)
unfolding unless
unless-limit a n s e = rw e

-- a broken limit changes nothing of a refusal 1
unless-bad : {S : Type 0} (a : Answer S) (n : ℕ) → a ≡ no 1 → unless n a ≡ no 1
unfolding unless
unless-bad a zero e = e
unless-bad a (suc n) e = rw e

module _ (k d most parts : ℕ) where
  -- the text ends in this line
  pub form-end : (l : List ℕ) → line_count l ≡ 0 → FormRefuses k d most parts l (suc k) 1
  form-end l h joins a b c = from_end k joins l h

  module _ (line rest : List ℕ) (one : line_count line ≡ 0) where
    -- the line is neither a seg nor a join
    pub form-bad : line_of d line ≡ bad_line → FormRefuses k d most parts (line ++ (10 ∷ rest)) (suc k) 1
    unfolding line_by
    form-bad e joins a b c = from-line k joins line rest one bad_line (ap (λ (x : ℕ). line_of x line) a ∙ e) ∙ after-no k 1 rest

    module _ (n closes : ℕ) (is : line_of d line ≡ seg_line n closes) where
      -- a seg's line, by its answer
      seg-by : (joins : List (List Plan)) → length joins ≡ d → (w : Answer Reading) → unless (over_seg (parts_in joins) n) (put (seg n) closes joins) ≡ w
          → plan_from k joins (line ++ (10 ∷ rest)) ≡ plan_after k w rest
      unfolding line_by
      seg-by joins a w e = from-line k joins line rest one (seg_line n closes) (ap (λ (x : ℕ). line_of x line) a ∙ is) ∙ ap (λ (x : Answer Reading). plan_after k x rest) e

      -- more brackets than may close
      pub form-many : most < closes → FormRefuses k d most parts (line ++ (10 ∷ rest)) (suc k) 1
      form-many h joins a b c =
          seg-by joins a (no 1) (unless-bad (put (seg n) closes joins) (over_seg (parts_in joins) n) (put-many joins (seg n) closes (omega arith))) ∙ after-no k 1 rest

      -- a seg that is too long
      pub form-long : closes ≤ most → max_seg < n → FormRefuses k d most parts (line ++ (10 ∷ rest)) (suc k) 2
      form-long h g joins a b c =
          let s = put_some joins (seg n) closes (omega arith) in
          seg-by joins a (no 2) (rw (lt-ltb max_seg n g) (unless-limit (put (seg n) closes joins) 1 s.0 s.1)) ∙ after-no k 2 rest

      -- a seg that is a part too many
      pub form-full : closes ≤ most → n ≤ max_seg → max_parts ≤ parts → FormRefuses k d most parts (line ++ (10 ∷ rest)) (suc k) 4
      form-full h g p joins a b c =
          let s = put_some joins (seg n) closes (omega arith) in
          seg-by joins a (no 4) (rw (le-ltb max_seg n g, le-leb max_parts (parts_in joins) (omega arith)) (unless-limit (put (seg n) closes joins) 3 s.0 s.1)) ∙ after-no k 4 rest

      -- a seg that is taken
      pub form-seg : n ≤ max_seg → parts < max_parts → FormGives k d most parts (line ++ (10 ∷ rest)) n 0 closes k rest
      unfolding reads depth unless
      form-seg g p joins a b c = (seg n, refl, refl, seg-by joins a (put (seg n) closes joins) (rw (le-ltb max_seg n g, lt-leb max_parts (parts_in joins) (omega arith))))

    module _ (is : line_of d line ≡ join_line) where
      -- the line that opens a join, by its answer
      join_by_lem : (joins : List (List Plan)) → length joins ≡ d → (w : Answer Reading) → unless (over_join (length joins) (parts_in joins)) (to (inside ([] ∷ joins))) ≡ w
          → plan_from k joins (line ++ (10 ∷ rest)) ≡ plan_after k w rest
      unfolding line_by
      join_by_lem joins a w e = from-line k joins line rest one join_line (ap (λ (x : ℕ). line_of x line) a ∙ is) ∙ ap (λ (x : Answer Reading). plan_after k x rest) e

      -- a join too deep
      pub join-deep : max_joins ≤ d → FormRefuses k d most parts (line ++ (10 ∷ rest)) (suc k) 4
      join-deep h joins a b c = join_by_lem joins a (no 4) (rw (le-leb max_joins (length joins) (omega arith)) (unless-limit (to (inside ([] ∷ joins))) 3 (inside ([] ∷ joins)) refl)) ∙ after-no k 4 rest

      -- a join that is a part too many
      pub join-full : d < max_joins → max_parts ≤ parts → FormRefuses k d most parts (line ++ (10 ∷ rest)) (suc k) 4
      join-full h p joins a b c =
          join_by_lem joins a (no 4) (rw (lt-leb max_joins (length joins) (omega arith), le-leb max_parts (parts_in joins) (omega arith)) (unless-limit (to (inside ([] ∷ joins))) 3 (inside ([] ∷ joins)) refl)) ∙ after-no k 4 rest

      -- a join that is opened
      opens : (joins : List (List Plan)) → length joins ≡ d → parts_in joins ≡ parts → d < max_joins → parts < max_parts → plan_from k joins (line ++ (10 ∷ rest)) ≡ plan_from (suc k) ([] ∷ joins) rest
      unfolding unless
      opens joins a c h p =
          join_by_lem joins a (to (inside ([] ∷ joins))) (rw (lt-leb max_joins (length joins) (omega arith), lt-leb max_parts (parts_in joins) (omega arith))) ∙ after-inside k ([] ∷ joins) rest

      -- a join whose parts are taken
      pub form-join : d < max_joins → parts < max_parts → (total deep closes j : ℕ) (rest' : List ℕ) → PartsGive (suc k) d most 0 0 0 rest total deep closes j rest'
          → FormGives k d most parts (line ++ (10 ∷ rest)) total deep closes j rest'
      unfolding done_reads done_depth
      form-join h p total deep closes j rest' g joins a b c =
          let r = g joins [] a b refl refl refl in
          (r.0, r.1, r.2, opens joins a c h p ∙ r.3)

      -- a join with a part refused
      pub join-refuses : d < max_joins → parts < max_parts → (ln n : ℕ) → PartsRefuse (suc k) d most 0 0 0 rest ln n → FormRefuses k d most parts (line ++ (10 ∷ rest)) ln n
      unfolding done_reads done_depth
      join-refuses h p ln n g joins a b c = opens joins a c h p ∙ g joins [] a b refl refl refl

module _ (k d most count sum low : ℕ) (l : List ℕ) where
  -- how many joins may close after the next part
  closable-is : (joins : List (List Plan)) (f : List Plan) → closable joins ≡ most → length f ≡ count → closable (f ∷ joins) ≡ closable_after most count
  unfolding closable
  closable-is joins [] b c = rw (← c)
  closable-is joins (p ∷ f) b c = rw (← c) (ap suc b)

  -- the next part is refused
  pub parts-stop : (ln n : ℕ) → FormRefuses k (suc d) (closable_after most count) count l ln n → PartsRefuse k d most count sum low l ln n
  parts-stop ln n g joins f a b c e h = g (f ∷ joins) (ap suc a) (closable-is joins f b c) c

  module _ (total deep j : ℕ) (rest : List ℕ) where
    -- the next part closes the join
    pub parts_last : (closes : ℕ) → 0 < count → FormGives k (suc d) (closable_after most count) count l total deep (suc closes) j rest
        → PartsGive k d most count sum low l (sum + total) (suc (max low deep)) closes j rest
    parts_last closes p g joins [] a b c e h = absurd (omega arith)
    parts_last closes p g joins (q ∷ f) a b c e h =
        let r = g ((q ∷ f) ∷ joins) (ap suc a) (closable-is joins (q ∷ f) b c) c in
        (join q (add_parts f (last r.0)), closed-reads q f r.0 ∙ rw (e, r.1), closed-depth q f r.0 ∙ rw (h, r.2), r.3 ∙ put_last j closes q f joins r.0 rest)

    -- the next part closes nothing
    next : (joins : List (List Plan)) (f : List Plan) → FormGives k (suc d) (closable_after most count) count l total deep 0 j rest → length joins ≡ d → closable joins ≡ most → length f ≡ count
        → (t : Plan) × (reads t ≡ total) × (depth t ≡ deep) × (plan_from k (f ∷ joins) l ≡ plan_from (suc j) ((f ++ (t ∷ [])) ∷ joins) rest)
    next joins f g a b c = let r = g (f ∷ joins) (ap suc a) (closable-is joins f b c) c in (r.0, r.1, r.2, r.3 ∙ put-part j f joins r.0 rest)

    -- the other parts are taken
    pub parts_more : FormGives k (suc d) (closable_after most count) count l total deep 0 j rest → (total' deep' closes j' : ℕ) (rest' : List ℕ)
        → PartsGive (suc j) d most (suc count) (sum + total) (max low deep) rest total' deep' closes j' rest'
        → PartsGive k d most count sum low l total' deep' closes j' rest'
    parts_more g total' deep' closes j' rest' w joins f a b c e h =
        let n = next joins f g a b c in
        let v = w joins (f ++ (n.0 ∷ [])) a b (rw length-append (omega arith)) (done-reads f n.0 ∙ rw (e, n.1)) (done-depth f n.0 ∙ rw (h, n.2)) in
        (v.0, v.1, v.2, n.3 ∙ v.3)

    -- one of the other parts is refused
    pub parts-refuse : FormGives k (suc d) (closable_after most count) count l total deep 0 j rest → (ln n : ℕ)
        → PartsRefuse (suc j) d most (suc count) (sum + total) (max low deep) rest ln n → PartsRefuse k d most count sum low l ln n
    parts-refuse g ln n w joins f a b c e h =
        let x = next joins f g a b c in
        x.3 ∙ w joins (f ++ (x.0 ∷ [])) a b (rw length-append (omega arith)) (done-reads f x.0 ∙ rw (e, x.1)) (done-depth f x.0 ∙ rw (h, x.2))

-- a text over the limit of bytes is refused at once
pub text-long : (text : List ℕ) → max_bytes < length text → plan_of text ≡ refused 0 4
unfolding plan_of
text-long text h = rw (lt-ltb max_bytes (length text) h)

module _ (text : List ℕ) (fits : length text ≤ max_bytes) where
  -- the form that a text is to be is refused
  pub text-refused : (ln n : ℕ) → FormRefuses 0 0 0 0 text ln n → plan_of text ≡ refused ln n
  unfolding closable
  text-refused ln n g = from_start text fits ∙ g [] refl refl refl

  -- the text is a form, and nothing else
  pub text-whole : (total deep j : ℕ) → FormGives 0 0 0 0 text total deep 0 j [] → (t : Plan) × (reads t ≡ total) × (depth t ≡ deep) × (plan_of text ≡ got t)
  unfolding closable put
  text-whole total deep j g = let r = g [] refl refl refl in (r.0, r.1, r.2, from_start text fits ∙ r.3 ∙ after-whole j r.0)

  -- bytes follow the form
  pub text-after : (total deep j x : ℕ) (rest : List ℕ) → FormGives 0 0 0 0 text total deep 0 j (x ∷ rest) → plan_of text ≡ refused (suc (suc j)) 1
  unfolding closable put
  text-after total deep j x rest g = let r = g [] refl refl refl in from_start text fits ∙ r.3 ∙ after_more j r.0 x rest
