-- Tables of words: each word falls to one of its places, by which it is looked up.
use Rattle.std.specs.Prelude.{ℕ, suc, ◌*◌, ◌^◌, ◌/◌, ◌%◌, ◌≤◌, min, ◌≡◌, List, [], ◌∷◌, ◌++◌, Bool, true, cond, eqb, length, take, drop, get_or, set, replicate}
use Rattle.reuse.specs.Limits.{max_extents}
use Rattle.reuse.specs.Lists.{mem, distinct, firsts}

-- the places of a table: sixteen for each word within the limit
abbrev pub table_places : ℕ
table_places = 16 * max_extents

-- what a word is multiplied by, so that the multiples of a power of two spread over the places
abbrev pub table_factor : ℕ
table_factor = 2_654_435_761

-- what the product is divided by
abbrev pub table_step : ℕ
table_step = 2 ^ 32 / table_places

-- the place of a word: of the 32 lowest binary digits of the product, as many of the first as number the places
unfoldable pub bucket_of : ℕ → ℕ
bucket_of x = x * table_factor / table_step % table_places

-- the table with these words noted at their places by their numbers, n and so on, a later word over an earlier one
unfoldable pub hints_from : List ℕ → ℕ → List ℕ → List ℕ
hints_from table n [] = table
hints_from table n (x ∷ xs) = hints_from (set table (bucket_of x) n) (suc n) xs

-- for each place the number of the last word that falls there, 1 for the first word, 0 where none does; words past the limit are not noted
unfoldable pub hints_of : List ℕ → List ℕ
hints_of words = hints_from (replicate table_places 0) 1 (take max_extents words)

-- x stands among the words, by the table's number p: where that is 0, only the words past the limit are asked
unfoldable pub stands_by : List ℕ → ℕ → ℕ → Bool
stands_by words p x = cond (eqb p 0) (mem x (drop max_extents words)) (mem x words)

-- x stands among the words, by a table of them
unfoldable pub looked_up : List ℕ → List ℕ → ℕ → Bool
looked_up words table x = stands_by words (get_or table (bucket_of x) 0) x

-- each of the words l is noted in the table
pub record Notes (table l : List ℕ) : Type 0 where
  pub wide : length table ≡ table_places
  pub noted : (y : ℕ) → mem y l ≡ true → get_or table (bucket_of y) 0 ≡ 0 → ⊥

-- the first n words are held, each once, and noted in the table
pub record Held (held table : List ℕ) (n : ℕ) : Type 0 where
  pub long : length held ≡ max_extents
  pub fits : n ≤ max_extents
  pub once : distinct (take n held) ≡ true
  pub notes : Notes table (take n held)

-- r different words are in l and then in the others, to one more than the limit; within the limit they are held
pub record Counted (l words held table : List ℕ) (r : ℕ) : Type 0 where
  pub count : r ≡ min (length (firsts (l ++ words))) (suc max_extents)
  pub front : r ≤ max_extents → take r held ≡ firsts (l ++ words)
  pub kept : r ≤ max_extents → Held held table r
