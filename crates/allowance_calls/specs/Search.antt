-- The search that reads H from distance 1 upwards and stops at the first size that suffices.
use Rattle.std.specs.Prelude.{ℕ, ◌-◌, List, [], ◌∷◌, cond, leb}
use Rattle.reuse.specs.Summary.{reads_of, counts_of}

-- the words read from a size on that has so many misses, with the words of H for larger distances: none where that size
-- suffices, else the next word, whose reads are no longer missed, and what is read from the next size on
unfoldable pub searched : ℕ → ℕ → List ℕ → List ℕ
searched m left [] = []
searched m left (h ∷ hs) = cond (leb left m) [] (h ∷ searched m (left - h) hs)

-- the words of H read by the whole search: from size 0, where all reads are misses
unfoldable pub words_searched : List ℕ → ℕ → List ℕ
words_searched w m = searched m (reads_of w) (counts_of w)
