-- What reading a plan text gives: the tree, or the earliest faulty line and its refusal.
use Rattle.std.specs.Prelude.{ℕ, zero, suc, List, [], ◌∷◌, ◌++◌, Bool, true, cond, ltb, leb, length}
use Rattle.std.proofs.Math.Option.{Option, none, some}
use Rattle.texts.specs.Limits.{max_bytes, max_joins, max_parts, max_seg}
use Rattle.texts.specs.Words.{after, spaces, Ending, ending, bad_ending, ending_of}
use Rattle.texts.specs.Lines.{Answer, to, no, Fed, at, Read, refused, counting, unless, feed_by, finish_by}
use Rattle.texts.specs.Plans.{Plan, Parts, seg, join, last, more, join_word, seg_word}

-- a line by itself: a seg with c brackets after its own, an opened join, or neither
pub data Line : Type 0 where
  seg_line : ℕ → ℕ → Line
  join_line : Line
  bad_line : Line

-- by what stands after `(seg `: a number, its own bracket, and c more
abbrev pub ending_by : Ending → Line
ending_by bad_ending = bad_line
ending_by (ending n zero) = bad_line
ending_by (ending n (suc c)) = seg_line n c

-- by whether `(seg ` stands there
abbrev pub seg_by : Option (List ℕ) → Line
seg_by none = bad_line
seg_by (some l) = ending_by (ending_of l)

-- by whether `(join` stands there, with nothing after it
abbrev pub join_by : Option (List ℕ) → List ℕ → Line
join_by none l = seg_by (after seg_word l)
join_by (some []) l = join_line
join_by (some (x ∷ r)) l = bad_line

-- by whether the leading spaces stand there
abbrev pub indent_by : Option (List ℕ) → Line
indent_by none = bad_line
indent_by (some l) = join_by (after join_word l) l

-- the line under d brackets, without its byte 10
unfoldable pub line_of : ℕ → List ℕ → Line
line_of d line = indent_by (after (spaces d) line)

-- the joins open, innermost first, each with its parts so far; or the whole plan
pub data Reading : Type 0 where
  inside : List (List Plan) → Reading
  whole : Plan → Reading

-- the parts before, then the others
unfoldable pub add_parts : List Plan → Parts → Parts
add_parts [] ps = ps
add_parts (p ∷ f) ps = more p (add_parts f ps)

-- a form ends, and c brackets close after it: a join may close with its second part or a later one
unfoldable pub put : Plan → ℕ → List (List Plan) → Answer Reading
put t zero [] = to (whole t)
put t (suc c) [] = no 1
put t zero (f ∷ joins) = to (inside ((f ++ (t ∷ [])) ∷ joins))
put t (suc c) ([] ∷ joins) = no 1
put t (suc c) ((p ∷ f) ∷ joins) = put (join p (add_parts f (last t))) c joins

-- the parts so far of the innermost join
abbrev pub parts_in : List (List Plan) → ℕ
parts_in [] = 0
parts_in (f ∷ joins) = length f

-- the limit that one part more breaks, after so many: 4, or 0 for none
abbrev pub over_parts : ℕ → ℕ
over_parts parts = cond (leb max_parts parts) 4 0

-- the limit that a seg of n reads breaks, after so many parts: 2, then 4
abbrev pub over_seg : ℕ → ℕ → ℕ
over_seg parts n = cond (ltb max_seg n) 2 (over_parts parts)

-- the limit that a join breaks, under so many joins and after so many parts
abbrev pub over_join : ℕ → ℕ → ℕ
over_join joins parts = cond (leb max_joins joins) 4 (over_parts parts)

-- what a line does to the joins open
unfoldable pub line_by : Bool → List (List Plan) → Line → Answer Reading
line_by limits joins (seg_line n c) = unless (counting limits (over_seg (parts_in joins) n)) (put (seg n) c joins)
line_by limits joins join_line = unless (counting limits (over_join (length joins) (parts_in joins))) (to (inside ([] ∷ joins)))
line_by limits joins bad_line = no 1

-- what a line does to a reading: nothing may follow the whole plan
unfoldable pub plan_step : Bool → Reading → List ℕ → Answer Reading
plan_step limits (inside joins) line = line_by limits joins (line_of (length joins) line)
plan_step limits (whole t) line = no 1

-- a line of any length is held until it ends
abbrev pub any_room : ℕ → Bool
any_room n = true

-- bytes of a plan text
unfoldable pub plan_feed : Bool → Fed Reading → List ℕ → Fed Reading
plan_feed limits = feed_by (plan_step limits) any_room

-- what is read whole
abbrev pub plan_done : Reading → Option Plan
plan_done (inside joins) = none
plan_done (whole t) = some t

-- a text's answer by its lines alone
unfoldable pub plan_lines : List ℕ → Read Plan
plan_lines text = finish_by plan_done (plan_feed true (at 0 [] (inside [])) text)

-- a text's answer: one over the limit of bytes is refused at once, at no line (0)
unfoldable pub plan_of : List ℕ → Read Plan
plan_of text = cond (ltb max_bytes (length text)) (refused 0 4) (plan_lines text)
