-- Plans: their trees, the text of a tree, and the limits of a tree.
use Rattle.std.specs.Prelude.{ℕ, suc, ◌+◌, ◌≤◌, ◌<◌, max, List, [], ◌∷◌, ◌++◌, length}
use Rattle.texts.specs.Bytes.{bytes}
use Rattle.texts.specs.Limits.{max_bytes, max_joins, max_parts, max_seg}
use Rattle.texts.specs.Digits.{decimal, too_long}
use Rattle.texts.specs.Words.{spaces, close}

mutual
  -- a plan is a seg, the next n reads, or a join of a first plan and others
  pub data Plan : Type 0 where
    seg : ℕ → Plan
    join : Plan → Parts → Plan

  -- one or more plans
  pub data Parts : Type 0 where
    last : Plan → Parts
    more : Plan → Parts → Parts

-- `(join`
abbrev pub join_word : List ℕ
join_word = bytes "(join"

-- `(seg `
abbrev pub seg_word : List ℕ
seg_word = bytes "(seg "

-- the line that opens a join under d brackets, without its byte 10
abbrev pub join_text : ℕ → List ℕ
join_text d = spaces d ++ join_word

-- the line of a seg under d brackets, with c brackets after its own
abbrev pub seg_text : ℕ → ℕ → ℕ → List ℕ
seg_text d n c = spaces d ++ (seg_word ++ (decimal n ++ close (suc c)))

unfoldable mutual
  -- a form under d brackets, one form a line, the last line not ended
  pub form_text : ℕ → Plan → List ℕ
  form_text d (seg n) = seg_text d n 0
  form_text d (join p ps) = join_text d ++ (10 ∷ (form_text (suc d) p ++ (10 ∷ parts_text (suc d) ps)))

  -- a join's other parts, with its bracket after the last
  pub parts_text : ℕ → Parts → List ℕ
  parts_text d (last p) = form_text d p ++ (41 ∷ [])
  parts_text d (more p ps) = form_text d p ++ (10 ∷ parts_text d ps)

-- the text of a plan
unfoldable pub text_of : Plan → List ℕ
text_of t = form_text 0 t ++ (10 ∷ [])

unfoldable mutual
  -- the largest number of joins open together; a lone seg has depth 0
  pub depth : Plan → ℕ
  depth (seg n) = 0
  depth (join p ps) = suc (max (depth p) (parts_depth ps))

  -- the largest depth of plans
  pub parts_depth : Parts → ℕ
  parts_depth (last p) = depth p
  parts_depth (more p ps) = max (depth p) (parts_depth ps)

unfoldable mutual
  -- the reads that the segs cover together
  pub reads : Plan → ℕ
  reads (seg n) = n
  reads (join p ps) = reads p + parts_reads ps

  -- the reads of plans together
  pub parts_reads : Parts → ℕ
  parts_reads (last p) = reads p
  parts_reads (more p ps) = reads p + parts_reads ps

-- how many parts
unfoldable pub part_count : Parts → ℕ
part_count (last p) = 1
part_count (more p ps) = suc (part_count ps)

unfoldable mutual
  -- the largest number of parts in one join
  pub width : Plan → ℕ
  width (seg n) = 0
  width (join p ps) = max (suc (part_count ps)) (max (width p) (parts_width ps))

  -- the largest such number in plans
  pub parts_width : Parts → ℕ
  parts_width (last p) = width p
  parts_width (more p ps) = max (width p) (parts_width ps)

unfoldable mutual
  -- the largest seg
  pub largest : Plan → ℕ
  largest (seg n) = n
  largest (join p ps) = max (largest p) (parts_largest ps)

  -- the largest seg in plans
  pub parts_largest : Parts → ℕ
  parts_largest (last p) = largest p
  parts_largest (more p ps) = max (largest p) (parts_largest ps)

-- a plan of the rule, whatever its limits: numbers of 1 to 10 digits
abbrev pub Ruled : Plan → Type 0
Ruled t = largest t < too_long

-- a plan within the limits of refusals 2 and 4
pub record Within (t : Plan) : Type 0 where
  pub deep : depth t ≤ max_joins
  pub wide : width t ≤ max_parts
  pub long : largest t ≤ max_seg
  pub bytes : length (text_of t) ≤ max_bytes
