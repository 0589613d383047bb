-- What a refusal by a limit, 2, 8 or 9, says of a log text.
use Rattle.std.specs.Prelude.{◌≡◌, ℕ, suc, ◌≤◌, ◌<◌, List, [], ◌∷◌, ◌++◌, Bool, false, length}
use Rattle.reuse.specs.Limits.{max_reads, max_extents}
use Rattle.texts.specs.Limits.{max_extent}
use Rattle.texts.specs.Lines.{line_count}
use Rattle.reuse.specs.Lists.{mem, firsts}
use Rattle.texts.specs.Logs.{trace_word, row_text, log_text, Logged, empty, inside, whole, Ruled, Within}

-- the text of the reads so far
abbrev pub rows : List ℕ → List ℕ
rows [] = []
rows (x ∷ t) = row_text x false ++ (10 ∷ rows t)

-- the text that a state has read
abbrev pub so_far : Logged (List ℕ) → List ℕ
so_far empty = []
so_far (inside t) = trace_word ++ (10 ∷ rows t)
so_far (whole t) = log_text t

-- what a state has read keeps the limits
abbrev pub Kept : Logged (List ℕ) → Type 0
Kept empty = Unit
Kept (inside t) = Within t
Kept (whole t) = Within t

-- the limit that a line breaks after the reads t, by the refusal's number
pub data Broken (t line : List ℕ) : ℕ → Type 0 where
  big_extent : (x : ℕ) (ends : Bool) → line ≡ row_text x ends → max_extent < x → Broken t line 2
  many_reads : (x : ℕ) (ends : Bool) → line ≡ row_text x ends → x ≤ max_extent → max_reads ≤ length t → Broken t line 8
  many_extents : (x : ℕ) (ends : Bool) → line ≡ row_text x ends → x ≤ max_extent → length t < max_reads → mem x t ≡ false → max_extents ≤ length (firsts t) → Broken t line 9

-- a refusal n by a limit, at line k: the lines before it keep the limits, a text of the rule goes on with it, and it breaks one
pub record LogOver (text : List ℕ) (k n : ℕ) : Type 0 where
  pub reads : List ℕ
  pub line : List ℕ
  pub rest : List ℕ
  pub text-is : text ≡ so_far (inside reads) ++ (line ++ (10 ∷ rest))
  pub one_line : line_count line ≡ 0
  pub place : suc (line_count (so_far (inside reads))) ≡ k
  pub earlier : Within reads
  pub goes_on : (t : List ℕ) × (b : List ℕ) × Ruled t × (log_text t ≡ (so_far (inside reads) ++ (line ++ (10 ∷ []))) ++ b)
  pub broken : Broken reads line n
