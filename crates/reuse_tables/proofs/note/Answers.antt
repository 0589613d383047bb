-- `reuse_tables::note` meets its contract.
use native.Mathlib.Omega.{arith}
use mathlib.Core.Path.{ap}
use Prim.Native.Nat.{ℕ}
use lib.ListN.{take}
use Rattle.reuse_tables.proofs.Lookups.{note-start, note-turn, note-end}
use Rattle.reuse_tables.proofs.note.Goals as goal

pub loop-i-init : goal.loop-i-init
loop-i-init c = rw c.requires (note-start _ _ (ap (λ (n : ℕ). take n c.args.words.now) c.min.ensures))

pub loop-i-preserved : goal.loop-i-preserved
loop-i-preserved c = rw c.bucket.ensures.0 (note-turn _ _ _ _ c.loop-i.invariant (omega arith))

pub returns : goal.returns
returns c = note-end _ _ _ _ c.loop-i.invariant (omega arith)
