-- The rows of a listing one after the other, and the text of a page.
use mathlib.Core.Path.{◌≡◌, sym}
use Prim.Native.Nat.{ℕ, zero, suc, ◌+◌, ◌≤◌, ◌<◌}
use mathlib.Core.List.{List, [], ◌∷◌, ◌++◌, append_assoc, append-nil}
use lib.ListN.{length}
use borrow.Author.Tests.{le-leb, lt-leb, eq-eqb, ne_eqb}
use Rattle.reuse.specs.Limits.{max_extents}
use Rattle.reuse.specs.Lists.{sum}
use Rattle.listing_texts.specs.Listings.{at_row, at_rows, listed, refused_text}
use Rattle.listing_texts.specs.Tallies.{misses_by}
use Rattle.listing_texts.specs.Pages.{AddsUp, row_closes, page_text}

-- the row of one size with its line's end
abbrev pub row_at : ℕ → ℕ → ℕ → List ℕ
row_at c n rows = at_row c n (row_closes rows) ++ (10 ∷ [])

-- the first of the rows, and the others
pub rows-cons : (m : ℕ → ℕ) (c k : ℕ) → at_rows m c (suc k) ≡ row_at c (m c) k ++ at_rows m (suc c) k
unfolding at_rows
rows-cons m c zero = sym (append-nil (row_at c (m c) 0))
rows-cons m c (suc k) = sym (append_assoc (at_row c (m c) 1) (10 ∷ []) (at_rows m (suc c) (suc k)))

-- the page of counts that add up is the listing
pub page-listed : (reads : ℕ) (counts : List ℕ) → AddsUp reads counts → listed reads (length counts) (misses_by counts) ≡ page_text reads counts
unfolding page_text
page-listed reads counts g = rw (le-leb (length counts) max_extents g.few, eq-eqb (length counts + sum counts) reads g.whole)

-- that of too many counts is a refusal
pub page-many : (reads : ℕ) (counts : List ℕ) → max_extents < length counts → refused_text 7 ≡ page_text reads counts
unfolding page_text
page-many reads counts h = rw (lt-leb (length counts) max_extents h)

-- so is that of counts that do not add up
pub page-other : (reads : ℕ) (counts : List ℕ) → length counts ≤ max_extents → (length counts + sum counts ≡ reads → ⊥) → refused_text 7 ≡ page_text reads counts
unfolding page_text
page-other reads counts h e = rw (le-leb (length counts) max_extents h, ne_eqb (length counts + sum counts) reads e)
