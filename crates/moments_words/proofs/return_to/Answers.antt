-- `moments_words::return_to` meets its contract.
use mathlib.Core.Path.{refl, ◌∙◌}
use Rattle.reuse.proofs.Told.{handed_on}
use Rattle.session.specs.Sessions.{Wide}
use Rattle.session_layout.proofs.Laid.{laid-fits}
use Rattle.moments_words.proofs.Kept.{came_refused, came-short, came-all}
use borrow.Author.Rules.{rules}
use Rattle.moments_words.proofs.return_to.Goals as goal

pub returns-in_err-back : goal.returns-in_err-back
returns-in_err-back c =
    let r = c.return_to-back in
    rw (came_refused _ _ _ _ r.result r.ensures _ c.in_err-back.was) (handed_on _ _ c.from_residual.ensures.1, refl)

pub returns-then-words-lt-SESSION : goal.returns-then-words-lt-SESSION
returns-then-words-lt-SESSION c =
    let r = c.return_to-back in rw (came-short _ _ _ _ r.result r.ensures c.in_ok-back.was c.if-words-lt-SESSION.true) (refl, refl)

pub returns : goal.returns
returns c =
    let r = c.return_to-back in
    let wide : Wide r.result.session = search rules in
    let room = c.if-words-lt-SESSION.false in
    rw (came-all _ _ _ _ r.result r.ensures c.in_ok-back.was room) (refl, c.put_session.ensures ∙ laid-fits r.result.session wide _ room)
