-- `split::search::smallest` meets its contract.
use Rattle.std.proofs.Common.{rules}
use Rattle.split.proofs.Scanning.{scanned}
use Rattle.split.proofs.search.smallest.Goals as goal

pub returns : goal.returns
returns c = scanned _ _ _ c.requires c.position-before.result (search rules) _ c.unwrap_or.ensures
