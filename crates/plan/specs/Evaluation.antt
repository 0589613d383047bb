-- What evaluation leaves.
use Rattle.std.specs.Prelude.{◌≡◌, ℕ, ◌+◌, ◌*◌, ◌≤◌, ◌<◌, List, length, drop}
use Rattle.reuse.specs.Summary.{summary_of}
use Rattle.texts.specs.Plans.{Plan, reads}
use Rattle.plan_calls.specs.Calls.{level_words, fronted}
use Rattle.plan_calls.specs.Standing.{span, Ready}
use Rattle.plan.specs.declared.evaluation.Done.{Done}

-- what evaluation of the plan at a place leaves: the summary of its reads at the front of the output
pub record Evaluated (s : List ℕ) (at : ℕ) (log : List ℕ) (from left : ℕ) (work out : List ℕ) (t : Plan) (closes : ℕ) (rest : List ℕ) (r : Done) (work' out' : List ℕ) : Type 0 where
  pub forward : at < r.next
  pub inside : r.next ≤ length s
  pub goes_on : drop r.next s ≡ rest
  pub brackets : r.closes ≡ closes
  pub taken : r.taken ≡ from + reads t
  pub counted : r.words ≡ length (summary_of (span from (reads t) log))
  pub written : out' ≡ fronted (summary_of (span from (reads t) log)) out
  pub kept : drop (level_words * left) work' ≡ drop (level_words * left) work

-- of each plan that stands there (there is only one)
abbrev pub Evaluates : List ℕ → ℕ → ℕ → List ℕ → ℕ → ℕ → List ℕ → List ℕ → Done → List ℕ → List ℕ → Type 0
Evaluates s at under log from left work out r work' out' =
    (g : Ready s at under log from left) → Evaluated s at log from left work out g.plan g.closes g.rest r work' out'
