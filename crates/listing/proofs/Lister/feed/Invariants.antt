-- `listing::Lister::feed` meets its contract.
use Prim.Native.Nat.{◌-◌}
use lib.ListN.{length, take}
use Rattle.listing_turns.proofs.Turns.{state_in}
use Rattle.listing.proofs.Feeds.{PieceTaken}
use Rattle.listing.proofs.Lister.feed.Given as goal

abbrev pub invariant-loop-turn : goal.invariant-loop-turn
invariant-loop-turn l =
    let first = l.initial.turn in
    let next = l.turn in
    PieceTaken l.bytes (state_in first.progress.phase first.progress.reads first.progress.extents l.initial.stack l.initial.counts (take first.held first.line)) next.progress.phase next.line next.held next.progress.reads next.progress.extents l.stack l.counts next.at

abbrev pub decreases-loop-turn : goal.decreases-loop-turn
decreases-loop-turn l = length l.bytes - l.turn.at
