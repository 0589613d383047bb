-- `listing_memory::list` meets its contract.
use mathlib.Core.List.{List}
use mathlib.Core.Path.{◌≡◌, refl, sym, ap, ◌∙◌}
use Prim.Native.Nat.{ℕ, ◌+◌, ◌≤◌}
use native.Mathlib.Omega.{arith}
use lib.ListN.{length, take}
use lib.Seq.{length-take-le}
use Rattle.reuse_rows.specs.Rows.{placed, put_at}
use Rattle.reuse_copies.proofs.Puts.{placed-fits}
use Rattle.summary_calls.specs.Calls.{Wrote}
use Rattle.texts.specs.Logs.{log_of}
use Rattle.std.specs.Prelude.{Ok, Err, Result}
use Rattle.reuse.specs.declared.refusals.Refusal.{Refusal}
use Rattle.listing_texts.specs.Feeding.{printed_at, verdict_by, verdict_at}
use Rattle.listing_texts.specs.Listings.{listing_of}
use Rattle.listing_texts.specs.Pages.{page_bytes}
use Rattle.listing.specs.declared.Lister.{Lister}
use Rattle.listing.specs.Listers.{state_of, empty_lister, fed_of}
use Rattle.listing.proofs.Finishing.{page-shows}
use Rattle.listing.proofs.Cuttings.{printed-whole, verdict-whole}
use Rattle.listing_memory.proofs.Listed.{list-refused, list-short, list_all}
use borrow.Author.Rules.{rules}
use Rattle.listing_memory.proofs.list.Goals as goal
use Rattle.listing_memory.proofs.list.Goals.{After-finish-page}

-- a new lister, fed the text
module _ (l new : Lister) (text : List ℕ) (fed : l ≡ fed_of new text) (is : new ≡ empty_lister) where
  fed-new : l ≡ fed_of empty_lister text
  fed-new = fed ∙ ap (λ (n : Lister). fed_of n text) is

  -- it is judged as the text's definition says
  judged : verdict_at (state_of l) ≡ verdict_by (log_of text)
  judged = ap (λ (n : Lister). verdict_at (state_of n)) fed-new ∙ verdict-whole text

  -- and printed so
  prints : printed_at (state_of l) ≡ listing_of text
  prints = ap (λ (n : Lister). printed_at (state_of n)) fed-new ∙ printed-whole text

-- the text is printed
printed : (c : After-finish-page) → take c.finish-page.result.len c.finish-page.result.bytes ≡ listing_of c.args.text.now
printed c = page-shows c.feed-lister.result c.finish-page.result c.finish-page.ensures.prints ∙ prints _ _ _ c.feed-lister.ensures c.new.ensures

-- the page holds what was printed
holds : (c : After-finish-page) → c.finish-page.result.len ≤ length c.finish-page.result.bytes
holds c = let w : length c.finish-page.result.bytes ≡ page_bytes = search rules in omega (arith, w, c.finish-page.ensures.fits)

-- what is not refused is told
not-refused : (r : Result Unit Refusal) → ((e : Refusal) → r ≡ Err e → ⊥) → r ≡ Ok tt
not-refused (Ok x) h = refl
not-refused (Err e) h = absurd (h e (cc))

-- the text is listed
listed : (c : After-finish-page) → verdict_by (log_of c.args.text.now) ≡ Ok tt
listed c = sym (c.verdict.ensures ∙ judged _ _ _ c.feed-lister.ensures c.new.ensures) ∙ not-refused _ c.in_default.not-Err

pub returns-then-out-page : goal.returns-then-out-page
returns-then-out-page c =
    let b = (goal.at.returns-then-out-page c).After-finish-page in
    let e = list-short c.args.out.now _ c.finish-page.result.bytes c.finish-page.result.len (listed b) (holds b) (printed b) c.if-out-page.true in
    (sym (ap (λ (v : Wrote). v.answer) e), sym (ap (λ (v : Wrote). v.buffer) e))

pub returns-in-Err : goal.returns-in-Err
returns-in-Err c =
    let e = list-refused c.args.out.now c.args.text.now _ (sym (c.verdict.ensures ∙ judged _ _ _ c.feed-lister.ensures c.new.ensures) ∙ c.in-Err.is) in
    (sym (ap (λ (v : Wrote). v.answer) e), sym (ap (λ (v : Wrote). v.buffer) e))

pub returns : goal.returns
returns c =
    let o = c.args.out.now in
    let b = (goal.at.returns c).After-finish-page in
    let n : length (take c.finish-page.result.len c.finish-page.result.bytes) ≡ c.finish-page.result.len = length-take-le _ _ (holds b) in
    let w : 0 + length (take c.finish-page.result.len c.finish-page.result.bytes) ≤ length o = omega (arith, n, c.if-out-page.false) in
    let e = list_all o _ c.finish-page.result.bytes c.finish-page.result.len (listed b) (holds b) (printed b) c.if-out-page.false in (
      sym (ap (λ (v : Wrote). v.answer) e),
      c.put.ensures ∙ ap (placed o 0) c.text.ensures ∙ placed-fits _ 0 _ w ∙ ap (put_at o 0) (printed b) ∙ sym (ap (λ (v : Wrote). v.buffer) e),
    )
