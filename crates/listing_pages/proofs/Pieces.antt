-- Texts laid in pieces: each is its text end to end, and the page of a text.
use mathlib.Core.Path.{◌≡◌, refl, sym, ap, ◌∙◌}
use Prim.Native.Nat.{ℕ, zero, suc, ◌+◌, ◌≤◌}
use native.Mathlib.Omega.{arith}
use mathlib.Core.List.{List, ◌++◌, append_assoc}
use lib.ListN.{length, take, length-replicate}
use Rattle.reuse_rows.specs.Rows.{put_at}
use Rattle.texts.specs.Bytes.{bytes}
use Rattle.listing_texts.specs.Pieces.{end_to_end}
use Rattle.listing_texts.specs.Listings.{at_rows, listed, refused_text}
use Rattle.listing_texts.specs.Pages.{page_bytes, row_closes, line_end}
use Rattle.listing_texts.proofs.RowLaws.{row_at, rows-cons}
use Rattle.listing_rows.specs.Laying.{Laid, laid_at, lay, lay_all, named_pieces, row_pieces}
use Rattle.listing_rows.proofs.Laying.{all_fit, laid-front}
use Rattle.listing_pages.specs.Texts.{rows_pieces, listing_pieces, refused_pieces, blank_page, page_of}

-- the pieces of a row, and others after them
row-joins : (c n k : ℕ) (pieces : List (List ℕ)) → end_to_end (row_pieces c n k ++ pieces) ≡ row_at c n k ++ end_to_end pieces
unfolding end_to_end
row-joins c n k pieces = simp append_assoc

-- those of so many rows
rows_join : (m : ℕ → ℕ) (c k : ℕ) → end_to_end (rows_pieces m c k) ≡ at_rows m c k
unfolding end_to_end rows_pieces at_rows
rows_join m c zero = refl
rows_join m c (suc k) = row-joins c (m c) k (rows_pieces m (suc c) k) ∙ ap (λ (l : List ℕ). row_at c (m c) k ++ l) (rows_join m (suc c) k) ∙ sym (rows-cons m c k)

-- those of a listing
pub listing-joins : (reads cold : ℕ) (m : ℕ → ℕ) → end_to_end (listing_pieces reads cold m) ≡ listed reads cold m
unfolding end_to_end listed
listing-joins reads zero m = rw (rows_join m 1 zero) (simp append_assoc)
listing-joins reads (suc n) m = rw (rows_join m 1 (suc n)) (simp append_assoc)

-- those of a refusal
pub refusal-joins : (n : ℕ) → end_to_end (refused_pieces n) ≡ refused_text n
unfolding end_to_end refused_text
refusal-joins n = refl

-- those of a refusal, by the calls that lay them
pub refusal-then : (d : Laid) (n : ℕ) {e f : Laid} → e ≡ lay_all d (named_pieces (bytes "(refused ") n) → f ≡ lay e (bytes ")\n") → f ≡ lay_all d (refused_pieces n)
refusal-then d n p q = q ∙ ap (λ (u : Laid). lay u (bytes ")\n")) p

-- those of a listing, by the calls that lay them
pub listing-then : (d : Laid) (reads cold : ℕ) (m : ℕ → ℕ) {e f g h : Laid}
    → e ≡ lay_all d (named_pieces (bytes "(sizing\n (reads ") reads) → f ≡ lay_all e (named_pieces (bytes ")\n (cold ") cold) → g ≡ lay f (line_end (row_closes cold)) → h ≡ lay_all g (rows_pieces m 1 cold)
    → h ≡ lay_all d (listing_pieces reads cold m)
listing-then d reads cold m p q s t =
    t ∙ ap (λ (u : Laid). lay_all u (rows_pieces m 1 cold))
    (s ∙ ap (λ (u : Laid). lay u (line_end (row_closes cold))) (q ∙ ap (λ (u : Laid). lay_all u (named_pieces (bytes ")\n (cold ") cold)) p))

-- a blank page has its bytes
blank-length : length blank_page ≡ page_bytes
unfolding blank_page
blank-length = length-replicate {A = ℕ} page_bytes 0

-- the page of a text shows it
pub page-front : (text : List ℕ) → take (page_of text).len (page_of text).bytes ≡ text
unfolding page_of
page-front text = laid-front blank_page text

-- it has as many bytes
pub page-len : (text : List ℕ) → (page_of text).len ≡ length text
unfolding page_of
page-len text = refl

-- a text laid in pieces on a blank page
pub page-laid : (text : List ℕ) (pieces : List (List ℕ)) → end_to_end pieces ≡ text → length text ≤ page_bytes
    → (page : List ℕ) (next : ℕ) → laid_at page next ≡ lay_all (laid_at blank_page 0) pieces → record { bytes = page; len = next } ≡ page_of text
unfolding page_of
page-laid text pieces e h page next p =
    let z : 0 + length (end_to_end pieces) ≡ length text = omega (arith, ap length e) in
    let q : laid_at page next ≡ laid_at (put_at blank_page 0 text) (length text) =
    p ∙ all_fit pieces blank_page 0 (omega (arith, blank-length)) ∙ rw (z, e) in
    ap (λ (d : Laid). record { bytes = d.page; len = d.at }) q
