-- `session::Session::sound` meets its contract. The test of its fields is the test of the session.
use Rattle.session.specs.Sessions.{Wide}
use Rattle.session.proofs.Corresponds.{lent-tested}
use borrow.Author.Rules.{rules}
use Rattle.session.proofs.Session.sound.Goals as goal
use Rattle.session.proofs.Session.sound.Goals.{Start}

-- the widths of the session's arrays
wide : (c : Start) → Wide c.args.self
wide c = record { first-wide = search rules; hist-wide = search rules; slots-wide = search rules; rights-wide = search rules }

pub returns : goal.returns
returns c =
    let w = wide (goal.at.returns c).Start in
    lent-tested _ w c.intact.ensures (cc) (cc) (cc) (cc) (cc) (cc) (cc)
