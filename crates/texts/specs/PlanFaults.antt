-- What a refusal by a limit, 2 or 4, says of a plan text.
use Rattle.std.specs.Prelude.{◌≡◌, ℕ, suc, ◌+◌, ◌≤◌, ◌<◌, List, [], ◌∷◌, ◌++◌, length}
use Rattle.texts.specs.Limits.{max_joins, max_parts, max_seg}
use Rattle.texts.specs.Lines.{line_count}
use Rattle.texts.specs.Plans.{Plan, join_text, seg_text, form_text, text_of, depth, width, largest, Ruled}
use Rattle.texts.specs.PlanTexts.{Reading, inside, whole, parts_in}

-- the text of parts under d brackets
abbrev pub filled : ℕ → List Plan → List ℕ
filled d [] = []
filled d (t ∷ f) = form_text d t ++ (10 ∷ filled d f)

-- the text of the joins open and their parts so far
abbrev pub opened : List (List Plan) → List ℕ
opened [] = []
opened (f ∷ joins) = opened joins ++ (join_text (length joins) ++ (10 ∷ filled (suc (length joins)) f))

-- the text that a reading has read
abbrev pub so_far : Reading → List ℕ
so_far (inside joins) = opened joins
so_far (whole t) = text_of t

-- a form under d joins keeps the limits
abbrev pub KeptForm : ℕ → Plan → Type 0
KeptForm d t = (depth t + d ≤ max_joins) × (width t ≤ max_parts) × (largest t ≤ max_seg)

-- each part does
abbrev pub KeptParts : ℕ → List Plan → Type 0
KeptParts d [] = Unit
KeptParts d (t ∷ f) = KeptForm d t × KeptParts d f

-- the joins open and their parts keep the limits
abbrev pub KeptJoins : List (List Plan) → Type 0
KeptJoins [] = Unit
KeptJoins (f ∷ joins) =
    (length joins < max_joins) × (length f ≤ max_parts) × (parts_in joins < max_parts) × KeptParts (suc (length joins)) f × KeptJoins joins

-- a reading keeps the limits, that of bytes aside
abbrev pub Kept : Reading → Type 0
Kept (inside joins) = KeptJoins joins
Kept (whole t) = KeptForm 0 t

-- the limit that a line breaks after the open joins, by the refusal's number
pub data Broken (joins : List (List Plan)) (line : List ℕ) : ℕ → Type 0 where
  long_seg : (n c : ℕ) → line ≡ seg_text (length joins) n c → max_seg < n → Broken joins line 2
  part_seg : (n c : ℕ) → line ≡ seg_text (length joins) n c → n ≤ max_seg → max_parts ≤ parts_in joins → Broken joins line 4
  part_join : line ≡ join_text (length joins) → max_parts ≤ parts_in joins → Broken joins line 4
  deep_join : line ≡ join_text (length joins) → max_joins ≤ length joins → Broken joins line 4

-- a refusal n by a limit, at line k: the lines before it keep the limits, a text of the rule goes on with it, and it breaks one
pub record PlanOver (text : List ℕ) (k n : ℕ) : Type 0 where
  pub joins : List (List Plan)
  pub line : List ℕ
  pub rest : List ℕ
  pub text-is : text ≡ opened joins ++ (line ++ (10 ∷ rest))
  pub one_line : line_count line ≡ 0
  pub place : suc (line_count (opened joins)) ≡ k
  pub earlier : KeptJoins joins
  pub goes_on : (t : Plan) × (b : List ℕ) × Ruled t × (text_of t ≡ (opened joins ++ (line ++ (10 ∷ []))) ++ b)
  pub broken : Broken joins line n
