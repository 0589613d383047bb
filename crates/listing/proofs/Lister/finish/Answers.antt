-- `listing::Lister::finish` meets its contract.
use Prim.Native.Nat.{ℕ}
use mathlib.Core.Path.{◌≡◌, sym, ap, ◌∙◌}
use native.Mathlib.Omega.{arith}
use lib.ListN.{length, take}
use lib.Seq.{length-take-le}
use Rattle.reuse.specs.Limits.{max_extents}
use Rattle.listing_texts.specs.Feeding.{verdict_at}
use Rattle.listing_texts.proofs.RowLaws.{page-listed}
use Rattle.listing_pages.specs.Texts.{page_of}
use Rattle.listing_tally.specs.Rows.{Tallied}
use Rattle.listing.specs.Listers.{state_of}
use Rattle.std.specs.Prelude.{Ok}
use Rattle.listing_texts.specs.Listings.{refused_text}
use Rattle.listing.proofs.Listers.{Wide}
use Rattle.listing.proofs.Soundness.{sound-facts}
use Rattle.listing.proofs.Finishing.{counted, prints-refused, listed-sound, prints-listed, page-fits}
use borrow.Author.Rules.{rules}
use Rattle.listing.proofs.Lister.finish.Goals as goal
use Rattle.listing.proofs.Lister.finish.Goals.{In-Ok}

-- a lister that the code has found listed
is-listed : (c : In-Ok) → verdict_at (state_of c.args.self) ≡ Ok tt
is-listed c = sym c.verdict.ensures ∙ c.in-Ok.is

-- its rows hold a tally
tally : (c : In-Ok) → let l = c.args.self in Tallied l.reads l.extents l.stack l.counts
tally c =
    let l = c.args.self in
    let wide : (length l.stack ≡ max_extents) × (length l.counts ≡ max_extents) = search rules in
    (sound-facts l (listed-sound l (is-listed c)) wide.0 wide.1).1

pub slice_bounds-counts-end : goal.slice_bounds-counts-end
slice_bounds-counts-end c = let g = tally (goal.at.slice_bounds-counts-end c).In-Ok in omega arith

pub slice_bounds-listing_page-end : goal.slice_bounds-listing_page-end
slice_bounds-listing_page-end c = let g = tally (goal.at.slice_bounds-listing_page-end c).In-Ok in sym (length-take-le _ _ (omega arith))

pub returns-in-Err : goal.returns-in-Err
returns-in-Err c =
    let l = c.args.self in
    let wide : Wide l = record { stack-wide = search rules; counts-wide = search rules } in
    let e = c.refused_page.ensures ∙ ap (λ (n : ℕ). page_of (refused_text n)) c.from.ensures ∙ ap page_of (sym (prints-refused l wide c.in-Err.refusal (sym c.verdict.ensures ∙ c.in-Err.is))) in
    record { prints = e; fits = page-fits l wide c.refused_page.result e }

pub returns-in-Ok : goal.returns-in-Ok
returns-in-Ok c =
    let l = c.args.self in
    let wide : Wide l = record { stack-wide = search rules; counts-wide = search rules } in
    let i = (goal.at.returns-in-Ok c).In-Ok in
    let e =
    c.listing_page.ensures
    ∙ ap page_of (sym (page-listed l.reads (take l.extents l.counts) (counted l.reads l.extents l.stack l.counts (tally i))) ∙ prints-listed l (listed-sound l (is-listed i)) (is-listed i)) in
    record { prints = e; fits = page-fits l wide c.listing_page.result e }
