use mathlib.Core.Path.{refl}
use borrow.Author.Rules.{rules}
use Rattle.listing_rows.proofs.Digits.{digits-start, digits-room, digits-turn, digits-laid}
use Rattle.listing_rows.proofs.put_number.Goals as goal

pub loop-left-init : goal.loop-left-init
loop-left-init c = digits-start _ _ (search rules) refl

pub overflow_sub-first : goal.overflow_sub-first
overflow_sub-first c = digits-room _ _ _ _ c.loop-left.invariant

pub loop-left-preserved : goal.loop-left-preserved
loop-left-preserved c = digits-turn _ _ _ _ c.loop-left.invariant c.if-left-eq0.false

pub returns : goal.returns
returns c = digits-laid _ _ _ _ c.loop-left.invariant c.if-left-eq0.true _ c.put.ensures
