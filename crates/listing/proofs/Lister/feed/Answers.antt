use mathlib.Core.Path.{◌≡◌, refl, sym, ap, ◌∙◌}
use native.Mathlib.Omega.{arith}
use mathlib.Core.Bool.{true, false}
use lib.ListN.{take}
use Rattle.listing_texts.specs.Feeding.{State, take_piece}
use Rattle.listing_turns.specs.Turns.{is_stopped}
use Rattle.listing_turns.proofs.Turns.{state_in}
use Rattle.listing.specs.Listers.{sound_lister, lister_of, takes_more}
use Rattle.listing.proofs.Feeds.{fed-start, fed-on, fed-turn, fed-lister}
use Rattle.listing.proofs.Soundness.{sound-facts, state-sound}
use Rattle.listing.proofs.Listers.{goes_on, fed-idle, fed-more}
use borrow.Author.Rules.{rules}
use Rattle.listing.proofs.Lister.feed.Goals as goal
use Rattle.listing.proofs.Lister.feed.Goals.{Else-not-takes_more}

-- a lister that the code has found to take more
takes : (c : Else-not-takes_more) → takes_more c.args.self ≡ true
takes c = sym c.takes_more.ensures ∙ c.if-not-takes_more.false

-- it is not refused, and sound
sound-is : (c : Else-not-takes_more) → (is_stopped c.args.self.phase ≡ false) × (sound_lister c.args.self ≡ true)
sound-is c = goes_on c.args.self (takes c)

pub returns-then-not-takes_more : goal.returns-then-not-takes_more
returns-then-not-takes_more c =
    let a = c.args in
    sym (fed-idle a.self a.bytes.now (sym c.takes_more.ensures ∙ c.if-not-takes_more.true))

pub loop-turn-init : goal.loop-turn-init
loop-turn-init c =
    let a = c.args in
    let s = sound-is (goal.at.loop-turn-init c).Else-not-takes_more in
    let f = sound-facts a.self s.1 (search rules) (search rules) in
    fed-start a.bytes.now (state_in a.self.phase a.self.reads a.self.extents a.self.stack a.self.counts (take a.self.held a.self.line)) a.self.phase a.self.line a.self.held a.self.reads a.self.extents a.self.stack a.self.counts
    refl f.0 (search rules) f.1 s.0

pub loop-turn-smaller : goal.loop-turn-smaller
loop-turn-smaller c = let t = fed-on _ _ _ _ _ _ _ _ _ _ c.loop-turn.invariant (omega arith) _ _ _ c.advance-turn.ensures in omega (arith, t.forward, t.inside)

pub loop-turn-preserved : goal.loop-turn-preserved
loop-turn-preserved c = fed-turn _ _ _ _ _ _ _ _ _ _ c.loop-turn.invariant (omega arith) _ _ _ c.advance-turn.ensures

pub returns : goal.returns
returns c =
    let a = c.args in
    c.stands.ensures
    ∙ fed-lister _ _ _ _ _ _ _ _ _ _ c.loop-turn.invariant (omega arith)
    ∙ ap (λ (v : State). lister_of (take_piece v a.bytes.now)) (sym (state-sound a.self (sound-is (goal.at.returns c).Else-not-takes_more).1))
    ∙ sym (fed-more a.self a.bytes.now (takes (goal.at.returns c).Else-not-takes_more))
