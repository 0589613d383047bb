-- `listing_pages::refused_page` meets its contract.
use native.Mathlib.Omega.{arith}
use Rattle.listing_texts.proofs.Lengths.{refused-length}
use Rattle.listing_pages.specs.Texts.{blank_page}
use Rattle.listing_pages.proofs.Pieces.{refusal-joins, page-laid}
use Rattle.listing_pages.proofs.refused_page.Goals as goal

pub returns : goal.returns
unfolding blank_page
returns c = page-laid _ _ (refusal-joins c.args.n) (refused-length _ (omega arith)) _ _ c.put_refused-len.ensures
