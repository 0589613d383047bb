use Rattle.std.proofs.Common.{arith}
use Rattle.session_points.proofs.Spreads.{spread-start, spread-above, spread-within, spread_end}
use Rattle.session_points.proofs.spread.Goals as goal
use Rattle.session_points.proofs.spread.Goals.{else-over, then-over}

pub loop-i-init : goal.loop-i-init
loop-i-init c = let p = c.requires in spread-start _ _ _ (omega (arith, p.room, p.half)) p.each

pub loop-i-preserved : goal.loop-i-preserved
loop-i-preserved c =
    let l = c.loop-i in
    elim c.if-over.branch [
      | then-over w ↦ rw (w.good-is, c.saturating_sub.ensures) (spread-above _ _ _ _ _ _ l.invariant (omega arith) w.if-over.true)
      | else-over w ↦ rw (w.good-is, c.saturating_sub.ensures) (spread-within _ _ _ _ _ _ l.invariant (omega arith) w.if-over.false)
    ]

pub returns : goal.returns
returns c = spread_end _ _ _ _ _ _ c.loop-i.invariant (omega arith)
