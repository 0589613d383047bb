-- The listing: its text, and what it is for a whole log text.
use Rattle.std.specs.Prelude.{ℕ, zero, suc, List, [], ◌∷◌, ◌++◌, length}
use Rattle.reuse.specs.Lists.{firsts}
use Rattle.reuse.specs.Lru.{reuses, misses_at}
use Rattle.texts.specs.Bytes.{bytes}
use Rattle.texts.specs.Digits.{decimal}
use Rattle.texts.specs.Words.{close}
use Rattle.texts.specs.Lines.{Read, got, refused}
use Rattle.texts.specs.Logs.{log_of}

-- ` (reads n)`
abbrev pub reads_row : ℕ → List ℕ
reads_row n = bytes " (reads " ++ (decimal n ++ close 1)

-- ` (cold n)`, with the listing's bracket where no size follows
abbrev pub cold_row : ℕ → List ℕ
cold_row zero = bytes " (cold " ++ (decimal 0 ++ close 2)
cold_row (suc n) = bytes " (cold " ++ (decimal (suc n) ++ close 1)

-- ` (at c n)`, with so many brackets
abbrev pub at_row : ℕ → ℕ → ℕ → List ℕ
at_row c n closes = bytes " (at " ++ (decimal c ++ (32 ∷ (decimal n ++ close closes)))

-- so many rows from size c on, each line ended; the listing's bracket closes after the last
unfoldable pub at_rows : (ℕ → ℕ) → ℕ → ℕ → List ℕ
at_rows misses c zero = []
at_rows misses c (suc zero) = at_row c (misses c) 2 ++ (10 ∷ [])
at_rows misses c (suc (suc k)) = at_row c (misses c) 1 ++ (10 ∷ at_rows misses (suc c) (suc k))

-- a listing: reads, cold reads, and for every size from 1 to the number of cold reads its misses
unfoldable pub listed : ℕ → ℕ → (ℕ → ℕ) → List ℕ
listed reads cold misses =
    bytes "(sizing\n" ++ (reads_row reads ++ (10 ∷ (cold_row cold ++ (10 ∷ at_rows misses 1 cold))))

-- `(refused n)`
unfoldable pub refused_text : ℕ → List ℕ
refused_text n = bytes "(refused " ++ (decimal n ++ bytes ")\n")

-- the listing of a trace
unfoldable pub sizes_of : List ℕ → List ℕ
sizes_of t = listed (length t) (length (firsts t)) (λ c. misses_at c (reuses [] t))

-- by a text's answer: the whole output
abbrev pub output_of : Read (List ℕ) → List ℕ
output_of (got t) = sizes_of t
output_of (refused line n) = refused_text n

-- the whole output for a whole text
unfoldable pub listing_of : List ℕ → List ℕ
listing_of text = output_of (log_of text)
