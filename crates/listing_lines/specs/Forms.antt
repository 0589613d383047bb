-- The forms of a log's lines as the code answers them.
use Rattle.std.specs.Prelude.{ℕ, List, [], ◌∷◌, Bool, true, false, Option, None, Some, cond, eqb}
use Rattle.std.proofs.Math.Option.{Option as Rest, none, some}
use Rattle.texts.specs.Logs.{Row, row, bad_row}

-- a read's line
abbrev pub row_found : Row → Option (ℕ × Bool)
row_found (row x ends) = Some (x, ends)
row_found bad_row = None

-- the first line, by what stands after `(trace`
abbrev pub head_found : Rest (List ℕ) → Option Bool
head_found none = None
head_found (some []) = Some false
head_found (some (x ∷ [])) = cond (eqb x 41) (Some true) None
head_found (some (x ∷ y ∷ l)) = None
