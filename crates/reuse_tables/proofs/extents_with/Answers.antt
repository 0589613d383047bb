-- `reuse_tables::extents_with` meets its contract.
use native.Mathlib.Omega.{arith}
use Rattle.reuse_tables.proofs.Counting.{held_none, first-over, both-counted}
use Rattle.reuse_tables.proofs.extents_with.Goals as goal

pub hold-n-requires : goal.hold-n-requires
hold-n-requires c = held_none

pub returns-then-n-gt-MAX_EXTENTS : goal.returns-then-n-gt-MAX_EXTENTS
returns-then-n-gt-MAX_EXTENTS c = first-over _ _ _ _ _ c.hold-n.ensures c.if-n-gt-MAX_EXTENTS.true

pub hold-requires : goal.hold-requires
hold-requires c = c.hold-n.ensures.kept (omega arith)

pub returns : goal.returns
returns c = both-counted _ _ _ _ _ c.hold-n.ensures _ _ _ (omega arith) c.hold.ensures
