-- `reuse_tables::beyond` meets its contract.
use mathlib.Core.Path.{ap, ◌∙◌}
use Prim.Native.Nat.{◌≤◌}
use native.Mathlib.Omega.{arith}
use lib.ListN.{length, drop_of_length-le}
use Rattle.reuse.specs.Limits.{max_extents}
use Rattle.reuse.specs.Lists.{mem}
use Rattle.reuse_rows.proofs.Slices.{part-rest}
use Rattle.reuse_tables.proofs.beyond.Goals as goal

pub returns-then-within : goal.returns-then-within
unfolding mem
returns-then-within c =
    let s = c.args.words.now in
    let l : length s ≤ max_extents = omega arith in
    rw (drop_of_length-le s {i = max_extents} l)

pub returns : goal.returns
returns c =
    let a = c.args in
    c.contains.ensures ∙ ap (mem a.x) (part-rest a.words.now max_extents)
