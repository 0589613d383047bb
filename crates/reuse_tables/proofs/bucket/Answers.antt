-- `reuse_tables::bucket` meets its contract.
use mathlib.Core.Path.{refl}
use Rattle.reuse_tables.specs.Tables.{bucket_of}
use Rattle.reuse_tables.proofs.Lookups.{bucket-below}
use Rattle.reuse_tables.proofs.bucket.Goals as goal

pub returns : goal.returns
unfolding bucket_of
returns c = (refl, bucket-below c.args.x)
