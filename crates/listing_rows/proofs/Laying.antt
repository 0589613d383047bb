-- Laws of laying: a piece that fits, one that does not, pieces that fit all, and the page afterwards.
use mathlib.Core.Path.{◌≡◌, refl, sym, ap, ◌∙◌}
use Prim.Native.Nat.{ℕ, zero, suc, ◌+◌, ◌≤◌, ◌<◌}
use native.Mathlib.Omega.{arith}
use mathlib.Core.List.{List, [], ◌∷◌, ◌++◌}
use lib.ListN.{length, take, drop, length-append}
use lib.Seq.{take_at}
use borrow.Author.Tests.{le-leb, lt-leb}
use Rattle.reuse_rows.specs.Rows.{put_at, placed}
use Rattle.reuse_copies.proofs.Puts.{put-none, put-length, put-append, placed-fits}
use Rattle.texts.specs.Bytes.{bytes}
use Rattle.listing_texts.specs.Pieces.{end_to_end}
use Rattle.listing_texts.specs.Pages.{row_closes, line_end}
use Rattle.listing_rows.specs.Laying.{Laid, laid_at, lay, lay_all, named_pieces, row_pieces}

-- a piece that fits
pub lay-fits : (was : List ℕ) (at : ℕ) (l : List ℕ) → at + length l ≤ length was → lay (laid_at was at) l ≡ laid_at (put_at was at l) (at + length l)
unfolding lay
lay-fits was at l h = rw (le-leb (at + length l) (length was) h)

-- one that does not
pub lay_over : (was : List ℕ) (at : ℕ) (l : List ℕ) → length was < at + length l → laid_at was at ≡ lay (laid_at was at) l
unfolding lay
lay_over was at l h = rw (lt-leb (at + length l) (length was) h)

-- bytes placed are laid
pub placed_laid : (was : List ℕ) (at : ℕ) (l page : List ℕ) → at + length l ≤ length was → page ≡ placed was at l → laid_at page (at + length l) ≡ lay (laid_at was at) l
placed_laid was at l page h e =
    ap (λ (p : List ℕ). laid_at p (at + length l)) (e ∙ placed-fits was at l h) ∙ sym (lay-fits was at l h)

-- a piece, and then another
pub lay-then : (d : Laid) (x y : List ℕ) {e f : Laid} → e ≡ lay d x → f ≡ lay e y → f ≡ lay (lay d x) y
lay-then d x y p q = q ∙ ap (λ (u : Laid). lay u y) p

-- the pieces of a row, by the calls that lay them
pub row-then : (d : Laid) (size misses rows : ℕ) {e f g : Laid}
    → e ≡ lay_all d (named_pieces (bytes " (at ") size) → f ≡ lay_all e (named_pieces (bytes " ") misses) → g ≡ lay f (line_end (row_closes rows))
    → g ≡ lay_all d (row_pieces size misses rows)
row-then d size misses rows p q s =
    s ∙ ap (λ (u : Laid). lay u (line_end (row_closes rows))) (q ∙ ap (λ (u : Laid). lay_all u (named_pieces (bytes " ") misses)) p)

-- the end of the last row
pub end-last : (d : Laid) (rows : ℕ) → rows ≡ 0 → {e : Laid} → e ≡ lay d (bytes "))\n") → e ≡ lay d (line_end (row_closes rows))
end-last d zero h p = p
end-last d (suc k) h p = absurd (omega arith)

-- the end of a row before it
pub end-inner : (d : Laid) (rows : ℕ) → (rows ≡ 0 → ⊥) → {e : Laid} → e ≡ lay d (bytes ")\n") → e ≡ lay d (line_end (row_closes rows))
end-inner d zero h p = absurd (h refl)
end-inner d (suc k) h p = p

-- pieces that fit all are laid as one
pub all_fit : (pieces : List (List ℕ)) (was : List ℕ) (at : ℕ) → at + length (end_to_end pieces) ≤ length was
    → lay_all (laid_at was at) pieces ≡ laid_at (put_at was at (end_to_end pieces)) (at + length (end_to_end pieces))
unfolding end_to_end
all_fit [] was at h = let z : at + 0 ≡ at = omega arith in rw (put-none was at, z)
all_fit (x ∷ pieces) was at h =
    let s : length (x ++ end_to_end pieces) ≡ length x + length (end_to_end pieces) = length-append x (end_to_end pieces) in
    let g : at + length x ≤ length was = omega arith in
    let w : length (put_at was at x) ≡ length was = put-length was at x g in
    let n : at + length x + length (end_to_end pieces) ≡ at + length (x ++ end_to_end pieces) = omega arith in
    ap (λ (d : Laid). lay_all d pieces) (lay-fits was at x g)
    ∙ all_fit pieces (put_at was at x) (at + length x) (omega arith)
    ∙ rw (put-append was at x (end_to_end pieces) g, n)

-- a text laid at the front stands there
pub laid-front : (was l : List ℕ) → take (length l) (put_at was 0 l) ≡ l
unfolding put_at
laid-front was l = take_at l (drop (0 + length l) was) (length l) refl
