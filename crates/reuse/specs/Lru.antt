-- Reuse distances: the place in the published LRU stack, and the same number counted on the trace (the papers' log).
use Rattle.std.specs.Prelude.{ℕ, suc, ◌+◌, Bool, true, false, cond, eqb, leb, ltb, length}
use mathlib.Core.List.{List, [], ◌∷◌, ◌++◌, foldl}
use Rattle.reuse.specs.Lists.{mem, remove, firsts, count}

-- a read's answer: cold, the extent was not read before (001 writes an infinite distance), with the number of different
-- extents read, itself included; or its distance
pub data Reuse : Type 0 where
  cold : ℕ → Reuse
  at : ℕ → Reuse

-- under one extent more
abbrev pub deeper : Reuse → Reuse
deeper (cold n) = cold (suc n)
deeper (at d) = at (suc d)

-- the place of x in the stack, 1 at the top: its stack distance (001, 1.3); what is not among k extents is cold, number k + 1
unfoldable pub depth : List ℕ → ℕ → Reuse
depth [] x = cold 1
depth (y ∷ ys) x = cond (eqb x y) (at 1) (deeper (depth ys x))

-- x comes to the top, the others keep their order (001, 1.3 and 2.2)
unfoldable pub touch : List ℕ → ℕ → List ℕ
touch s x = x ∷ remove x s

-- the stack after a trace, the newest read on top
unfoldable pub stack : List ℕ → List ℕ
stack t = foldl touch [] t

-- the answers to the reads of a trace from the stack s on, each from the stack that the reads before it left
unfoldable pub reuses : List ℕ → List ℕ → List Reuse
reuses s [] = []
reuses s (x ∷ xs) = depth s x ∷ reuses (touch s x) xs

-- the reads from the last read of x on; none where x was not read
unfoldable pub since : ℕ → List ℕ → List ℕ
since x [] = []
since x (y ∷ ys) = cond (mem x ys) (since x ys) (cond (eqb x y) (y ∷ ys) [])

-- the answer to a read of x after the reads `seen`: the number of different extents from the last read of x on; where there
-- is none, cold with 1 plus the number of different extents seen
unfoldable pub distance : List ℕ → ℕ → Reuse
distance seen x = cond (mem x seen) (at (length (firsts (since x seen)))) (cold (suc (length (firsts seen))))

-- the answers to the reads of a trace after the reads `seen`, counted on the trace
unfoldable pub distances : List ℕ → List ℕ → List Reuse
distances seen [] = []
distances seen (x ∷ xs) = distance seen x ∷ distances (seen ++ (x ∷ [])) xs

-- the numbers of the cold answers, in order
unfoldable pub newcomers : List Reuse → List ℕ
newcomers [] = []
newcomers (cold n ∷ rs) = n ∷ newcomers rs
newcomers (at d ∷ rs) = newcomers rs

-- the answer is cold
abbrev pub is_cold : Reuse → Bool
is_cold (cold n) = true
is_cold (at d) = false

-- the answer is the distance d
abbrev pub is_at : ℕ → Reuse → Bool
is_at d (cold n) = false
is_at d (at e) = eqb d e

-- the answer is a distance of at most c
abbrev pub within : ℕ → Reuse → Bool
within c (cold n) = false
within c (at d) = leb d c

-- the answer is a distance above c
abbrev pub is_above : ℕ → Reuse → Bool
is_above c (cold n) = false
is_above c (at d) = ltb c d

-- how many of the answers are the distance d
unfoldable pub count_at : List Reuse → ℕ → ℕ
count_at rs d = count (is_at d) rs

-- misses at size c, by the answers: cold reads plus reads of distance above c
unfoldable pub misses_at : ℕ → List Reuse → ℕ
misses_at c rs = count is_cold rs + count (is_above c) rs
