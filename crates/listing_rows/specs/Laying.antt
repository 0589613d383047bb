-- Pieces of output laid on a page of bytes, one after the other.
use Rattle.std.specs.Prelude.{ℕ, ◌+◌, List, [], ◌∷◌, cond, leb, length}
use Rattle.reuse_rows.specs.Rows.{put_at}
use Rattle.texts.specs.Bytes.{bytes}
use Rattle.texts.specs.Digits.{decimal}
use Rattle.listing_texts.specs.Pages.{row_closes, line_end}

-- a page of bytes, and the place where the next ones go
pub record Laid : Type 0 where
  pub page : List ℕ
  pub at : ℕ

-- by its parts
abbrev pub laid_at : List ℕ → ℕ → Laid
laid_at page at = record { page = page; at = at }

-- the bytes at that place and the place after them, where they fit; nothing changed where they do not
unfoldable pub lay : Laid → List ℕ → Laid
lay d l = cond (leb (d.at + length l) (length d.page)) (laid_at (put_at d.page d.at l) (d.at + length l)) d

-- pieces, one after the other
abbrev pub lay_all : Laid → List (List ℕ) → Laid
lay_all d [] = d
lay_all d (piece ∷ pieces) = lay_all (lay d piece) pieces

-- a word and a number after it
abbrev pub named_pieces : List ℕ → ℕ → List (List ℕ)
named_pieces word n = word ∷ decimal n ∷ []

-- the row of one size, which so many rows follow
abbrev pub row_pieces : ℕ → ℕ → ℕ → List (List ℕ)
row_pieces size misses rows = bytes " (at " ∷ decimal size ∷ bytes " " ∷ decimal misses ∷ line_end (row_closes rows) ∷ []
