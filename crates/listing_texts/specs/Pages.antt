-- Pages of output: their bytes, the end of a row, and the text of the page of a listing.
use Rattle.std.specs.Prelude.{◌≡◌, ℕ, zero, suc, ◌+◌, ◌*◌, ◌≤◌, List, [], ◌∷◌, ◌++◌, cond, ◌&&◌, eqb, leb, length}
use Rattle.reuse.specs.Limits.{max_extents}
use Rattle.reuse.specs.Lists.{sum}
use Rattle.texts.specs.Words.{close}
use Rattle.listing_texts.specs.Listings.{listed, refused_text}
use Rattle.listing_texts.specs.Tallies.{misses_by}

-- more bytes than the rows of the reads and of the cold reads have, with the line before them
abbrev pub head_room : ℕ
head_room = 64

-- the most digits of a size
abbrev pub size_digits : ℕ
size_digits = 4

-- as many bytes as the row of any size has, with ten digits for its misses
abbrev pub row_room : ℕ
row_room = 19 + size_digits

-- the bytes of a page: room for the row of each size
abbrev pub page_bytes : ℕ
page_bytes = head_room + row_room * max_extents

-- how many brackets close a row that so many rows follow: the last row closes the listing too
abbrev pub row_closes : ℕ → ℕ
row_closes zero = 2
row_closes (suc k) = 1

-- so many brackets and the line's end
abbrev pub line_end : ℕ → List ℕ
line_end closes = close closes ++ (10 ∷ [])

-- the reads are the cold ones, no more than the limit, and those that the counts count
pub record AddsUp (reads : ℕ) (counts : List ℕ) : Type 0 where
  pub few : length counts ≤ max_extents
  pub whole : length counts + sum counts ≡ reads

-- the text of the page of so many reads with these counts: the listing, or refusal 7 where they do not add up
unfoldable pub page_text : ℕ → List ℕ → List ℕ
page_text reads counts =
    cond (leb (length counts) max_extents && eqb (length counts + sum counts) reads) (listed reads (length counts) (misses_by counts)) (refused_text 7)
