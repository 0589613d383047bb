-- The next line of a plan text, found from the front of the text left, as a loop over positions finds it.
use Rattle.std.specs.Prelude.{ℕ, zero, suc, List, [], ◌∷◌, cond, eqb, length, drop}
use Rattle.texts.specs.Digits.{Number, value, bad, number_of}
use Rattle.texts.specs.Words.{run_of, word_at}
use Rattle.texts.specs.Plans.{join_word, seg_word}

-- a line and the text after it: a seg with c brackets after its own, an opened join, or neither
pub data Place : Type 0 where
  seg_at : ℕ → ℕ → List ℕ → Place
  join_at : List ℕ → Place
  bad_at : Place

-- a join's line must end here
abbrev pub join_ends : List ℕ → Place
join_ends [] = bad_at
join_ends (x ∷ l) = cond (eqb x 10) (join_at l) bad_at

-- a seg's line must end here
abbrev pub seg_ends : ℕ → ℕ → List ℕ → Place
seg_ends n c [] = bad_at
seg_ends n c (x ∷ l) = cond (eqb x 10) (seg_at n c l) bad_at

-- after the number come brackets: its own, then those that close joins
abbrev pub brackets_at : ℕ → ℕ → List ℕ → Place
brackets_at n zero l = bad_at
brackets_at n (suc c) l = seg_ends n c (drop (suc c) l)

-- a seg's line from its number on
abbrev pub number_at : Number → Place
number_at bad = bad_at
number_at (value n l) = brackets_at n (run_of (length l) 41 l) l

-- the line after its leading spaces
abbrev pub form_at : List ℕ → Place
form_at l = cond (word_at join_word l) (join_ends (drop 5 l)) (cond (word_at seg_word l) (number_at (number_of (drop 5 l))) bad_at)

-- the next line under d brackets
unfoldable pub line_at : ℕ → List ℕ → Place
line_at d l = cond (eqb (run_of d 32 l) d) (form_at (drop d l)) bad_at
