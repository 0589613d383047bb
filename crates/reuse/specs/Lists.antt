-- Lists of extents and of numbers: membership, removal, the two ways to drop repeats, counts and sums.
use Rattle.std.specs.Prelude.{ℕ, zero, suc, ◌+◌, List, [], ◌∷◌, ◌++◌, Bool, true, false, cond, not, ◌&&◌, ◌||◌, eqb}

-- x stands in the list
unfoldable pub mem : ℕ → List ℕ → Bool
mem x [] = false
mem x (y ∷ ys) = eqb x y || mem x ys

-- each member of the first list stands in the second
unfoldable pub all_in : List ℕ → List ℕ → Bool
all_in [] ys = true
all_in (x ∷ xs) ys = mem x ys && all_in xs ys

-- no member stands twice
unfoldable pub distinct : List ℕ → Bool
distinct [] = true
distinct (x ∷ xs) = not (mem x xs) && distinct xs

-- the list without x
unfoldable pub remove : ℕ → List ℕ → List ℕ
remove x [] = []
remove x (y ∷ ys) = cond (eqb x y) (remove x ys) (y ∷ remove x ys)

-- the members of the second list that stand in the first, in order
unfoldable pub inside : List ℕ → List ℕ → List ℕ
inside a [] = []
inside a (x ∷ xs) = cond (mem x a) (x ∷ inside a xs) (inside a xs)

-- the members of the second list that do not stand in the first, in order
unfoldable pub outside : List ℕ → List ℕ → List ℕ
outside a [] = []
outside a (x ∷ xs) = cond (mem x a) (outside a xs) (x ∷ outside a xs)

-- a list, then the members of another that do not stand in it
abbrev pub beside : List ℕ → List ℕ → List ℕ
beside s t = s ++ outside s t

-- the members that stand before the first p; all of them where there is no p
unfoldable pub before : ℕ → List ℕ → List ℕ
before p [] = []
before p (x ∷ xs) = cond (eqb p x) [] (x ∷ before p xs)

-- each member once, at its first place
unfoldable pub firsts : List ℕ → List ℕ
firsts [] = []
firsts (x ∷ xs) = x ∷ remove x (firsts xs)

-- each member once, at its last place: the cleanup of 001, 3.2
unfoldable pub cleanup : List ℕ → List ℕ
cleanup [] = []
cleanup (x ∷ xs) = cond (mem x xs) (cleanup xs) (x ∷ cleanup xs)

-- k, k + 1, and so on: n numbers
unfoldable pub from : ℕ → ℕ → List ℕ
from k zero = []
from k (suc n) = k ∷ from (suc k) n

-- all members added
unfoldable pub sum : List ℕ → ℕ
sum [] = 0
sum (x ∷ xs) = x + sum xs

-- how many members pass a test
unfoldable pub count : {A : Type 0} → (A → Bool) → List A → ℕ
count p [] = 0
count p (x ∷ xs) = cond (p x) (suc (count p xs)) (count p xs)
