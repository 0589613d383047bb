-- `session::Session::entered` meets its contract. From what `change` ensures.
use native.Mathlib.Omega.{arith}
use Rattle.session.proofs.Parts.{count-is, entered-step}
use Rattle.session.proofs.Session.entered.Goals as goal

pub bounds-first-v : goal.bounds-first-v
bounds-first-v c = omega (arith, count-is _ c.requires.summed, c.requires.few)

pub overflow_add-result-2 : goal.overflow_add-result-2
overflow_add-result-2 c = omega (arith, count-is _ c.requires.summed, c.requires.few)

pub overflow_add-result-4 : goal.overflow_add-result-4
overflow_add-result-4 c = omega (arith, count-is _ c.requires.summed, c.requires.few)

pub returns : goal.returns
returns c = entered-step c.args.self _ c.requires _ _ c.change.ensures
