-- How long a listing is: no longer than a page.
use mathlib.Core.Path.{◌≡◌}
use Prim.Native.Nat.{ℕ, zero, suc, ◌+◌, ◌*◌, ◌≤◌, ◌<◌}
use native.Mathlib.Omega.{arith}
use mathlib.Core.List.{List, []}
use lib.ListN.{length, length-append}
use Rattle.reuse.specs.Limits.{max_extents}
use Rattle.reuse.specs.Lists.{firsts}
use Rattle.reuse.specs.Lru.{is_cold, is_above, reuses, misses_at}
use Rattle.reuse.proofs.Counts.{count-le}
use Rattle.reuse.proofs.Sums.{sum-drop-le}
use Rattle.reuse.proofs.Stack.{length-reuses}
use Rattle.texts.specs.Digits.{decimal, too_long}
use Rattle.texts.specs.Lines.{got}
use Rattle.texts.specs.Logs.{log_of, Within}
use Rattle.texts.proofs.Numbers.{ten, length-by, decimal-length}
use Rattle.texts.proofs.LogSound.{sound}
use Rattle.listing_texts.specs.Listings.{cold_row, at_rows, listed, refused_text, sizes_of, listing_of}
use Rattle.listing_texts.specs.Tallies.{misses_by}
use Rattle.listing_texts.specs.Pages.{size_digits, row_room, page_bytes, AddsUp}
use Rattle.listing_texts.proofs.RowLaws.{row_at, rows-cons}
use Rattle.listing_texts.proofs.Listings.{listing-read}

-- the digits of a size
size-length : (c : ℕ) → c ≤ max_extents → length (decimal c) ≤ size_digits
unfolding ten
size-length c h = length-by 3 c (omega arith)

-- a row's length
row-length : (c n rows : ℕ) → c ≤ max_extents → n < too_long → length (row_at c n rows) ≤ row_room
row-length c n zero h g = simp length-append (omega (arith, size-length c h, decimal-length n g))
row-length c n (suc k) h g = simp length-append (omega (arith, size-length c h, decimal-length n g))

-- that of the row of the cold reads
cold-length : (n : ℕ) → n ≤ max_extents → length (cold_row n) ≤ 10 + size_digits
cold-length zero h = simp length-append (omega (arith, size-length 0 h))
cold-length (suc n) h = simp length-append (omega (arith, size-length (suc n) h))

-- that of so many rows
rows-length : (m : ℕ → ℕ) → ((d : ℕ) → m d < too_long) → (k c : ℕ) → c + k ≤ suc max_extents → length (at_rows m c k) ≤ row_room * k
unfolding at_rows
rows-length m h zero c g = omega arith
rows-length m h (suc k) c g =
    rw (rows-cons m c k, length-append (row_at c (m c) k) (at_rows m (suc c) k))
    (omega (arith, row-length c (m c) k (omega arith) (h c), rows-length m h k (suc c) (omega arith)))

-- that of a listing
pub listed-length : (reads cold : ℕ) (m : ℕ → ℕ) → reads < too_long → cold ≤ max_extents → ((d : ℕ) → m d < too_long)
    → length (listed reads cold m) ≤ page_bytes
unfolding listed
listed-length reads cold m h g b =
    simp length-append
    (omega (arith, decimal-length reads h, cold-length cold (omega arith), rows-length m b cold 1 (omega arith)))

-- that of the listing of counts that add up
pub counted-length : (reads : ℕ) (counts : List ℕ) → reads < too_long → AddsUp reads counts → length (listed reads (length counts) (misses_by counts)) ≤ page_bytes
counted-length reads counts h g =
    listed-length reads (length counts) (misses_by counts) h g.few (λ d. omega (arith, sum-drop-le d counts, g.whole))

-- that of a refusal
pub refused-length : (n : ℕ) → n < too_long → length (refused_text n) ≤ page_bytes
unfolding refused_text
refused-length n h = simp length-append (omega (arith, decimal-length n h))

-- the misses are at most twice the reads
misses-bound : (c : ℕ) (t : List ℕ) → misses_at c (reuses [] t) ≤ length t + length t
unfolding misses_at
misses-bound c t =
    omega (arith, count-le is_cold (reuses [] t), count-le (is_above c) (reuses [] t), length-reuses [] t)

-- the listing of a trace within the limits fits a page
pub sizes-fit : (t : List ℕ) → Within t → length (sizes_of t) ≤ page_bytes
unfolding sizes_of
sizes-fit t w =
    listed-length (length t) (length (firsts t)) (λ c. misses_at c (reuses [] t)) (omega (arith, w.reads)) w.kinds
    (λ c. omega (arith, misses-bound c t, w.reads))

-- so does that of a text that is read as a trace
pub listing-fits : (text t : List ℕ) → log_of text ≡ got t → length (listing_of text) ≤ page_bytes
listing-fits text t e = rw (listing-read text t e) (sizes-fit t (sound text t e).1)
