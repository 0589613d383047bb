-- What a reader of one form, and a reader of a join's parts, owe to the definition: a contract's clauses, over the text left.
use Rattle.std.specs.Prelude.{◌≡◌, ℕ, zero, suc, ◌+◌, max, List, [], ◌∷◌, true, length}
use Rattle.texts.specs.Lines.{Answer, at, Read, refused, line_done, finish_by}
use Rattle.texts.specs.Plans.{Plan, reads, depth}
use Rattle.texts.specs.PlanTexts.{Reading, inside, put, parts_in, plan_feed, plan_done}

-- the answer from inside a text: after k lines with these joins open, the text goes on with l
unfoldable pub plan_from : ℕ → List (List Plan) → List ℕ → Read Plan
plan_from k joins l = finish_by plan_done (plan_feed true (at k [] (inside joins)) l)

-- the answer after the next line, from what that line did
unfoldable pub plan_after : ℕ → Answer Reading → List ℕ → Read Plan
plan_after k a l = finish_by plan_done (plan_feed true (line_done k a) l)

-- how many joins may close after the next form: those with a part already, up to the first with none
unfoldable pub closable : List (List Plan) → ℕ
closable [] = 0
closable ([] ∷ joins) = 0
closable ((p ∷ f) ∷ joins) = suc (closable joins)

-- how many joins may close after the next part of a join, which has `count` parts, where `most` may after the join
abbrev pub closable_after : ℕ → ℕ → ℕ
closable_after most zero = 0
closable_after most (suc count) = suc most

-- the reads of the parts so far
unfoldable pub done_reads : List Plan → ℕ
done_reads [] = 0
done_reads (p ∷ f) = reads p + done_reads f

-- the largest depth of the parts so far
unfoldable pub done_depth : List Plan → ℕ
done_depth [] = 0
done_depth (p ∷ f) = max (depth p) (done_depth f)

-- a form after k lines, under d joins of which `most` may close after it, the innermost with `parts` parts so far:
-- it has the reads and the depth said, `closes` brackets after it, its last line after j lines, then `rest`
abbrev pub FormGives : ℕ → ℕ → ℕ → ℕ → List ℕ → ℕ → ℕ → ℕ → ℕ → List ℕ → Type 0
FormGives k d most parts l total deep closes j rest =
    (joins : List (List Plan)) → length joins ≡ d → closable joins ≡ most → parts_in joins ≡ parts
    → (t : Plan) × (reads t ≡ total) × (depth t ≡ deep) × (plan_from k joins l ≡ plan_after j (put t closes joins) rest)

-- the same form is refused, and with it the whole text
abbrev pub FormRefuses : ℕ → ℕ → ℕ → ℕ → List ℕ → ℕ → ℕ → Type 0
FormRefuses k d most parts l line n =
    (joins : List (List Plan)) → length joins ≡ d → closable joins ≡ most → parts_in joins ≡ parts → plan_from k joins l ≡ refused line n

-- the rest of a join under d others, after `count` parts with `sum` reads and the depth `low`: the whole join, likewise
abbrev pub PartsGive : ℕ → ℕ → ℕ → ℕ → ℕ → ℕ → List ℕ → ℕ → ℕ → ℕ → ℕ → List ℕ → Type 0
PartsGive k d most count sum low l total deep closes j rest =
    (joins : List (List Plan)) (f : List Plan) → length joins ≡ d → closable joins ≡ most → length f ≡ count → done_reads f ≡ sum → done_depth f ≡ low
    → (t : Plan) × (reads t ≡ total) × (depth t ≡ deep) × (plan_from k (f ∷ joins) l ≡ plan_after j (put t closes joins) rest)

-- the rest of the join is refused, and with it the whole text
abbrev pub PartsRefuse : ℕ → ℕ → ℕ → ℕ → ℕ → ℕ → List ℕ → ℕ → ℕ → Type 0
PartsRefuse k d most count sum low l line n =
    (joins : List (List Plan)) (f : List Plan) → length joins ≡ d → closable joins ≡ most → length f ≡ count → done_reads f ≡ sum → done_depth f ≡ low
    → plan_from k (f ∷ joins) l ≡ refused line n
