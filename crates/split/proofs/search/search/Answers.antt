-- `split::search::search` meets its contract.
use Rattle.split.proofs.Searching.{searching-laying, searching-chooses, searched}
use Prim.Native.Nat.{◌+◌, ◌*◌}
use native.Mathlib.Omega.{arith}
use Rattle.reuse.specs.Limits.{max_customers}
use Rattle.split_rows.specs.Rows.{sizes, rooms}
use Rattle.split.proofs.search.search.Goals as goal

pub lay-low-requires : goal.lay-low-requires
lay-low-requires c = searching-laying _ _ _ _ c.requires (max_customers * sizes) ((max_customers + 1) * rooms) (omega arith) (omega arith)

pub choose-requires : goal.choose-requires
choose-requires c =
    let l = c.lay-low in
    (_, _, searching-chooses _ _ _ _ c.requires _ _ _ l.ensures _ c.smallest-total.ensures (omega (arith, l.auto.costs)) (omega (arith, l.auto.table)))

pub returns : goal.returns
returns c =
    let l = c.lay-low in
    searched _ _ _ _ c.requires _ _ _ l.ensures _ c.smallest-total.ensures (omega (arith, l.auto.costs)) (omega (arith, l.auto.table)) _ c.choose.ensures
