-- The texts of pages in pieces, as they are laid, and the page of a text.
use Rattle.std.specs.Prelude.{ℕ, zero, suc, List, [], ◌∷◌, ◌++◌, length, replicate}
use Rattle.reuse_rows.specs.Rows.{put_at}
use Rattle.texts.specs.Bytes.{bytes}
use Rattle.listing_texts.specs.Pages.{page_bytes, row_closes, line_end}
use Rattle.listing_rows.specs.Laying.{named_pieces, row_pieces}
use Rattle.listing_pages.specs.declared.Page.{Page}

-- so many rows from size c on
unfoldable pub rows_pieces : (ℕ → ℕ) → ℕ → ℕ → List (List ℕ)
rows_pieces misses c zero = []
rows_pieces misses c (suc k) = row_pieces c (misses c) k ++ rows_pieces misses (suc c) k

-- a listing
abbrev pub listing_pieces : ℕ → ℕ → (ℕ → ℕ) → List (List ℕ)
listing_pieces reads cold misses =
    named_pieces (bytes "(sizing\n (reads ") reads ++ (named_pieces (bytes ")\n (cold ") cold ++ (line_end (row_closes cold) ∷ rows_pieces misses 1 cold))

-- a refusal
abbrev pub refused_pieces : ℕ → List (List ℕ)
refused_pieces n = named_pieces (bytes "(refused ") n ++ (bytes ")\n" ∷ [])

-- a page with nothing on it
unfoldable pub blank_page : List ℕ
blank_page = replicate page_bytes 0

-- the page of a text: the text, and 0 after it
unfoldable pub page_of : List ℕ → Page
page_of text = record { bytes = put_at blank_page 0 text; len = length text }
