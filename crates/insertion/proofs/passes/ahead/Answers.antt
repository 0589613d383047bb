-- `insertion::passes::ahead` meets its contract.
use Rattle.std.proofs.Common.{rules}
use Rattle.insertion.proofs.Seeking.{known_place, before_place}
use Rattle.insertion.proofs.passes.ahead.Goals as goal

pub returns : goal.returns
returns c = record { known = known_place _ _ c.position.result (search rules); above = before_place _ _ c.position.result (search rules) }
