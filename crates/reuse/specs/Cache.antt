-- A read cache of one size (the papers' store), defined with no stack and no distance.
use Rattle.std.specs.Prelude.{ℕ, zero, suc, ◌-◌, List, [], ◌∷◌, ◌++◌, Bool, cond, not, eqb, ltb, length}
use Rattle.reuse.specs.Lists.{mem, remove, firsts, count}

-- when x was last read, counted from 1; 0 where it was not read
unfoldable pub last_read : List ℕ → ℕ → ℕ
last_read [] x = 0
last_read (y ∷ ys) x = cond (mem x ys) (suc (last_read ys x)) (cond (eqb x y) 1 0)

-- of x and the extents of a list, the one whose last read is oldest
unfoldable pub oldest : List ℕ → ℕ → List ℕ → ℕ
oldest seen x [] = x
oldest seen x (y ∷ ys) = cond (ltb (last_read seen x) (last_read seen y)) (oldest seen x ys) (oldest seen y ys)

-- the extents held, less the one whose last read is oldest
unfoldable pub evict : List ℕ → List ℕ → List ℕ
evict seen [] = []
evict seen (x ∷ xs) = remove (oldest seen x xs) (x ∷ xs)

-- what the cache of size c holds after a read of x, having held `held` after the reads `seen`
unfoldable pub admit : ℕ → List ℕ → List ℕ → ℕ → List ℕ
admit zero seen held x = []
admit (suc c) seen held x =
    cond (mem x held) held (x ∷ cond (ltb (length held) (suc c)) held (evict seen held))

-- whether each further read is a hit: a read is one where the extent is held
unfoldable pub hits : ℕ → List ℕ → List ℕ → List ℕ → List Bool
hits c seen held [] = []
hits c seen held (x ∷ xs) = mem x held ∷ hits c (seen ++ (x ∷ [])) (admit c seen held x) xs

-- what the cache holds after all further reads
unfoldable pub holds : ℕ → List ℕ → List ℕ → List ℕ → List ℕ
holds c seen held [] = held
holds c seen held (x ∷ xs) = holds c (seen ++ (x ∷ [])) (admit c seen held x) xs

-- the hits of a whole trace: the cache starts empty
unfoldable pub cache_hits : ℕ → List ℕ → List Bool
cache_hits c t = hits c [] [] t

-- what the cache holds after a whole trace
unfoldable pub cache_after : ℕ → List ℕ → List ℕ
cache_after c t = holds c [] [] t

-- the misses of a whole trace
unfoldable pub cache_misses : ℕ → List ℕ → ℕ
cache_misses c t = count not (cache_hits c t)

-- the hits of a whole trace, counted
unfoldable pub hit_count : ℕ → List ℕ → ℕ
hit_count c t = count (λ b. b) (cache_hits c t)

-- the reads of a whole trace that some size could have served: reads less cold reads, one for each extent
unfoldable pub servable : List ℕ → ℕ
servable t = length t - length (firsts t)
