-- `session_layout::put_session` meets its contract.
use mathlib.Core.Path.{sym, ◌∙◌}
use Rattle.session.specs.Sessions.{Wide}
use Rattle.session_layout.proofs.Laid.{laid-parts, laid-last, laid-fits, laid-not}
use borrow.Author.Rules.{rules}
use Rattle.session_layout.proofs.put_session.Goals as goal
use Rattle.session_layout.proofs.put_session.Goals.{Start}

-- the session has its widths
wide : (c : Start) → Wide c.args.s
wide c = record { first-wide = search rules; hist-wide = search rules; slots-wide = search rules; rights-wide = search rules }

pub returns-then-words-lt-SESSION : goal.returns-then-words-lt-SESSION
returns-then-words-lt-SESSION c =
    sym (laid-not c.args.s (wide (goal.at.returns-then-words-lt-SESSION c).Start) _ c.if-words-lt-SESSION.true)

pub returns : goal.returns
returns c =
    let enough = c.if-words-lt-SESSION.false in
    let t = c.args.s in
    let w = wide (goal.at.returns c).Start in
    let parts = laid-parts t w _ _ _ _ _ enough c.put.ensures c.put-2.ensures c.put-3.ensures c.put-4.ensures in
    laid-last t w _ _ enough parts ∙ sym (laid-fits t w _ enough)
