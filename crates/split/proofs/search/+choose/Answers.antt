use Rattle.reuse_rows.proofs.Parts.{back-length}
use mathlib.Core.Path.{◌≡◌, ◌∙◌}
use borrow.Rule.Slice.PartMut.{mid_len}
use Rattle.split.proofs.Choosing.{chosen_none, seeking, choosing-rest, chosen-all}
use lib.ListN.{length, set, length-set}
use native.Mathlib.Omega.{arith}
use Prim.Native.Nat.{ℕ, ◌-◌}
use Rattle.split.proofs.search.+choose.Goals as goal
use Rattle.split.proofs.search.+choose.Goals.{After-slice_known-2-1}

-- the others' words come back as many
long : (t : ℕ) (c : After-slice_known-2-1 t) →
    let a = c.args in
    length c.choose.new.shares ≡ length (set a.shares.now 0 c.share_at-share.result) - 1
long t c =
    let s = set c.args.shares.now 0 c.share_at-share.result in
    c.choose.auto.shares ∙ mid_len 1 (length s) s (omega arith)

pub returns-then-leasts-eq0 : goal.returns-then-leasts-eq0
returns-then-leasts-eq0 t c = λ ss store h. chosen_none ss store _ _ _ _ _ h (omega arith)

pub share_at-share-requires : goal.share_at-share-requires
share_at-share-requires t c =
    seeking c.args.left c.args.costs.now c.args.table.now c.args.shares.now c.requires.0 c.requires.1 c.args.leasts.now c.requires.2 (omega arith)

pub choose-requires : goal.choose-requires
choose-requires t c =
    let s = c.share_at-share in (
      omega (arith, c.decreases, mid_len 1 (length c.args.leasts.now) c.args.leasts.now (omega arith)),
      choosing-rest c.args.left c.args.costs.now c.args.table.now c.args.shares.now s.result c.requires.0 c.requires.1 c.args.leasts.now c.requires.2 (omega arith) s.ensures,
    )

pub shape_of-shares : goal.shape_of-shares
shape_of-shares t c =
    let r = c.share_at-share.result in
    let n = length-set c.args.shares.now 0 r in
    back-length 1 (set c.args.shares.now 0 r) c.choose.new.shares (omega (arith, n, c.requires.2.room)) (long t c) ∙ n

pub returns : goal.returns
returns t c =
    let a = c.args in
    let s = c.share_at-share in
    let k = c.choose in
    λ ss store h. chosen-all a.left a.costs.now a.table.now a.shares.now s.result ss store a.leasts.now h (omega arith) s.ensures k.new.shares k.ensures (long t c)
