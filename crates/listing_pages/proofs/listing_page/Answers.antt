-- `listing_pages::listing_page` meets its contract.
use mathlib.Core.Path.{◌≡◌, ap, ◌∙◌}
use Prim.Native.Nat.{ℕ, ◌≤◌}
use native.Mathlib.Omega.{arith}
use lib.ListN.{length}
use lib.Seq.{take_all}
use Rattle.reuse.specs.Limits.{max_extents}
use Rattle.reuse.specs.Lists.{sum}
use Rattle.listing_texts.specs.Listings.{refused_text}
use Rattle.listing_texts.specs.Pages.{AddsUp}
use Rattle.listing_texts.specs.Tallies.{misses_by}
use Rattle.listing_texts.proofs.RowLaws.{page-listed, page-many, page-other}
use Rattle.listing_texts.proofs.Lengths.{counted-length}
use Rattle.listing_pages.specs.Texts.{blank_page, page_of}
use Rattle.listing_pages.proofs.Pieces.{listing-joins, page-laid}
use Rattle.listing_pages.proofs.listing_page.Goals as goal
use Rattle.listing_pages.proofs.listing_page.Goals.{After-bytes-1, After-total}

-- the sum of no more counts than the limit
total-is : (c : After-total) → length c.args.counts.now ≤ max_extents → c.total.result ≡ sum c.args.counts.now
total-is c h = c.total.ensures.0 ∙ ap sum (take_all max_extents c.args.counts.now h)

-- counts that the code has found to add up
adds : (c : After-bytes-1) → AddsUp c.args.reads c.args.counts.now
adds c =
    let few : length c.args.counts.now ≤ max_extents = omega arith in
    let s : c.total.result ≡ sum c.args.counts.now = c.total.ensures.0 ∙ ap sum (take_all max_extents c.args.counts.now few) in
    record { few = omega arith; whole = omega arith }

pub returns-then-cold-gt-MAX_EXTENTS : goal.returns-then-cold-gt-MAX_EXTENTS
returns-then-cold-gt-MAX_EXTENTS c = c.refused_page.ensures ∙ ap (λ (n : ℕ). page_of (refused_text n)) c.from.ensures ∙ ap page_of (page-many _ _ c.if-cold-gt-MAX_EXTENTS.true)

pub returns-then-cold-total : goal.returns-then-cold-total
returns-then-cold-total c =
    let s = total-is (goal.at.returns-then-cold-total c).After-total c.if-cold-gt-MAX_EXTENTS.false in
    c.refused_page-then-cold-total.ensures
    ∙ ap (λ (n : ℕ). page_of (refused_text n)) c.from-then-cold-total.ensures
    ∙ ap page_of (page-other _ _ (omega arith) (λ e. c.if-cold-total.true (omega arith)))

pub put_listing-len-requires : goal.put_listing-len-requires
put_listing-len-requires c = adds c

pub returns : goal.returns
unfolding blank_page
returns c =
    let a = c.args in
    let g = adds (goal.at.returns c).After-bytes-1 in
    page-laid _ _ (listing-joins a.reads (length a.counts.now) (misses_by a.counts.now)) (counted-length a.reads a.counts.now (omega arith) g) _ _ c.put_listing-len.ensures
    ∙ ap page_of (page-listed a.reads a.counts.now g)
