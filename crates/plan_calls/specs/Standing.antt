-- A plan that stands at a place of a text, its reads in a log, and the words lent for it.
use Rattle.std.specs.Prelude.{◌≡◌, ℕ, ◌+◌, ◌*◌, ◌≤◌, ◌<◌, List, ◌∷◌, ◌++◌, length, take, drop}
use Rattle.reuse.specs.Lists.{firsts}
use Rattle.reuse.specs.Traces.{Within}
use Rattle.texts.specs.Limits.{max_joins}
use Rattle.texts.specs.Digits.{too_long}
use Rattle.texts.specs.Words.{close}
use Rattle.texts.specs.Plans.{Plan, form_text, reads, depth, largest}
use Rattle.plan_calls.specs.Calls.{level_words}

-- n reads of a log, from a place on
abbrev pub span : ℕ → ℕ → List ℕ → List ℕ
span from n log = take n (drop from log)

-- a plan stands at the front of a text under d brackets: its form, `closes` brackets that close joins, and the rest
pub record Stands (text : List ℕ) (d : ℕ) (t : Plan) (closes : ℕ) (rest : List ℕ) : Type 0 where
  pub printed : text ≡ form_text d t ++ (close closes ++ (10 ∷ rest))
  pub ruled : largest t < too_long

-- a plan at a place of a text, no deeper than the levels left, whose reads stand in the log from a place on
pub record Ready (s : List ℕ) (at under : ℕ) (log : List ℕ) (from left : ℕ) : Type 0 where
  pub plan : Plan
  pub closes : ℕ
  pub rest : List ℕ
  pub stands : Stands (drop at s) under plan closes rest
  pub deep : depth plan ≤ left
  pub covered : from + reads plan ≤ length log

-- the log is within the limits, and the words lent suffice for its summary and for the levels left
pub record Roomy (s : List ℕ) (at under : ℕ) (log work out : List ℕ) (left : ℕ) : Type 0 where
  pub inside : at ≤ length s
  pub joins : under + left ≤ max_joins
  pub within : Within log
  pub levels : level_words * left ≤ length work
  pub room : 2 + 3 * length (firsts log) ≤ length out
