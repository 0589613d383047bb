-- An LRU stack in the first n words of a slice: what bringing an extent to its top answers, and the words it leaves.
use Rattle.std.specs.Prelude.{◌≡◌, ℕ, suc, ◌≤◌, List, ◌∷◌, ◌++◌, Bool, false, cond, leb, ltb, length, take, drop, get_or}
use Rattle.reuse_engine.specs.declared.Place.{Place}
use Rattle.reuse_engine.specs.declared.Place.TheVariants.{Cold, Depth, Full, BadCount}
use Rattle.reuse.specs.Lists.{mem}
use Rattle.reuse.specs.Lru.{Reuse, cold, at, depth}

-- the answer by the extent's depth, and by whether there is room for one more
abbrev pub place_at : Reuse → Bool → Place
place_at (at d) room = Depth d
place_at (cold k) room = cond room Cold Full

-- the answer for x and the stack in the first n of these words
unfoldable pub place_of : List ℕ → ℕ → ℕ → Place
place_of a n x = cond (leb n (length a)) (place_at (depth (take n a) x) (ltb n (length a))) BadCount

-- x, then the words before place d, then those after it: the word at place d, counted from 1, is gone
unfoldable pub lifted : ℕ → ℕ → List ℕ → List ℕ
lifted d x a = take d (x ∷ a) ++ drop d a

-- the words afterwards, by the answer: a new extent takes the place below the others
abbrev pub left_by : Place → ℕ → ℕ → List ℕ → List ℕ
left_by Cold n x a = lifted (suc n) x a
left_by (Depth d) n x a = lifted d x a
left_by Full n x a = a
left_by BadCount n x a = a

-- how many of the words are the stack afterwards
abbrev pub held_after : Place → ℕ → ℕ
held_after Cold n = suc n
held_after (Depth d) n = n
held_after Full n = n
held_after BadCount n = n

-- the first i words of s moved one place down, with x before them
pub record Shifted (s : List ℕ) (x : ℕ) (row : List ℕ) (carry i : ℕ) : Type 0 where
  -- s has that many
  pub within : i ≤ length s
  -- the words now
  pub moved : row ≡ take i (x ∷ s) ++ drop i s
  -- the word for the next place
  pub hand : carry ≡ get_or (x ∷ s) i 0

-- the same within the first n words, with x not among those passed
pub record Sunk (s : List ℕ) (x n : ℕ) (row : List ℕ) (carry i : ℕ) : Type 0 where
  -- the words that moved
  pub shift : Shifted s x row carry i
  -- they are among the n, and the n in s
  pub below : i ≤ n
  pub fits : n ≤ length s
  -- none of them is x
  pub passed : mem x (take i s) ≡ false
