-- The pieces of a line: a word at the front, runs of one byte, a number with its closing brackets.
use Rattle.std.specs.Prelude.{ℕ, zero, suc, List, [], ◌∷◌, Bool, true, false, cond, ◌&&◌, eqb, length, drop, replicate}
use Rattle.std.proofs.Math.Option.{Option, none, some}
use Rattle.texts.specs.Digits.{Number, value, bad, number_of}

-- the bytes begin with the word
unfoldable pub word_at : List ℕ → List ℕ → Bool
word_at [] l = true
word_at (c ∷ w) [] = false
word_at (c ∷ w) (x ∷ l) = eqb x c && word_at w l

-- what stands after a word, where the bytes begin with it
unfoldable pub after : List ℕ → List ℕ → Option (List ℕ)
after w l = cond (word_at w l) (some (drop (length w) l)) none

-- n spaces
abbrev pub spaces : ℕ → List ℕ
spaces n = replicate n 32

-- n closing brackets
abbrev pub close : ℕ → List ℕ
close n = replicate n 41

-- how many bytes b stand at the front, counted to at most k
unfoldable pub run_of : ℕ → ℕ → List ℕ → ℕ
run_of zero b l = 0
run_of (suc k) b [] = 0
run_of (suc k) b (x ∷ l) = cond (eqb x b) (suc (run_of k b l)) 0

-- one closing bracket more
abbrev pub one_more : Option ℕ → Option ℕ
one_more none = none
one_more (some n) = some (suc n)

-- how many closing brackets the bytes are, where they are nothing else
unfoldable pub closes_of : List ℕ → Option ℕ
closes_of [] = some 0
closes_of (x ∷ l) = cond (eqb x 41) (one_more (closes_of l)) none

-- a number with c closing brackets after it and nothing else, or not so
pub data Ending : Type 0 where
  ending : ℕ → ℕ → Ending
  bad_ending : Ending

-- by the brackets after the number
abbrev pub closes_by : ℕ → Option ℕ → Ending
closes_by n none = bad_ending
closes_by n (some c) = ending n c

-- by the number
abbrev pub number_by : Number → Ending
number_by bad = bad_ending
number_by (value n l) = closes_by n (closes_of l)

-- the end of a line, from its number on
unfoldable pub ending_of : List ℕ → Ending
ending_of l = number_by (number_of l)
