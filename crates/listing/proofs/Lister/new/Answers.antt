-- `listing::Lister::new` meets its contract.
use mathlib.Core.Path.{refl}
use Rattle.reuse_rows.specs.Rows.{put_at, padded}
use Rattle.listing.specs.Listers.{blank_line, lister_with, lister_of, empty_lister}
use Rattle.listing.proofs.Lister.new.Goals as goal

pub returns : goal.returns
unfolding blank_line lister_with lister_of empty_lister put_at padded
returns c = refl
