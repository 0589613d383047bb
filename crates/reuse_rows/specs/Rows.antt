-- Rows of words: one that is all 0, words put into one, and a row as long as the limit.
use Rattle.std.specs.Prelude.{ℕ, ◌+◌, ◌%◌, ◌^◌, List, [], ◌∷◌, ◌++◌, Bool, true, cond, ◌&&◌, eqb, leb, length, take, drop, get_or, set, replicate}
use Rattle.reuse.specs.Limits.{max_extents}

-- all words are 0
unfoldable pub blank : List ℕ → Bool
blank [] = true
blank (x ∷ xs) = eqb x 0 && blank xs

-- the words l from place `at` on, the others as they were
unfoldable pub put_at : {A : Type 0} → List A → ℕ → List A → List A
put_at o at l = take at o ++ (l ++ drop (at + length l) o)

-- the words l from place `at` on where they fit; the row as it was where they do not
unfoldable pub placed : {A : Type 0} → List A → ℕ → List A → List A
placed o at l = cond (leb (at + length l) (length o)) (put_at o at l) o

-- one more at a place of the row, where there is one, in a word of 32 bits
abbrev pub one_more : ℕ → List ℕ → List ℕ
one_more at row = set row at ((get_or row at 0 + 1) % 2 ^ 32)

-- as many words as the limit of extents: these words, as many as fit, and 0 after them
unfoldable pub padded : List ℕ → List ℕ
padded l = take max_extents l ++ drop (length l) (replicate max_extents 0)
