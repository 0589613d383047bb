-- A number found at a place of a text, and the bytes before the end of a line.
use Rattle.std.specs.Prelude.{ℕ, zero, suc, ◌-◌, List, [], ◌∷◌, Option, None, Some, cond, eqb, length, drop}
use Rattle.texts.specs.Digits.{Number, value, bad, number_of}

-- in a text of so many bytes: the number, and the position of what stands after it
abbrev pub found_by : ℕ → Number → Option (ℕ × ℕ)
found_by len bad = None
found_by len (value n rest) = Some (n, len - length rest)

-- at this place
unfoldable pub found_at : List ℕ → ℕ → Option (ℕ × ℕ)
found_at s at = found_by (length s) (number_of (drop at s))

-- how many bytes stand before the next byte 10, counted to at most k
unfoldable pub line_length : ℕ → List ℕ → ℕ
line_length zero l = 0
line_length (suc k) [] = 0
line_length (suc k) (x ∷ l) = cond (eqb x 10) 0 (suc (line_length k l))
