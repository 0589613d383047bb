-- `reuse_tables::all_in` meets its contract.
use Rattle.std.proofs.Common.{rules}
use Rattle.reuse_tables.proofs.Lookups.{all-told}
use Rattle.reuse_tables.proofs.all_in.Goals as goal

pub returns : goal.returns
returns c = all-told _ _ _ _ c.note.ensures (search rules)
