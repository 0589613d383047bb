-- `listing::Lister::verdict` meets its contract.
use Rattle.std.specs.Prelude.{Err}
use Rattle.reuse.proofs.Numbers.{named}
use mathlib.Core.Path.{◌≡◌, sym, ap, ◌∙◌}
use native.Mathlib.Omega.{arith}
use mathlib.Core.Bool.{true}
use lib.ListN.{length}
use Rattle.texts.specs.Logs.{longest_line}
use Rattle.listing.specs.Listers.{sound_lister}
use Rattle.listing.proofs.Soundness.{sound-fits}
use Rattle.listing.proofs.Finishing.{verdict-unsound, verdict-open, verdict-stopped, verdict-held, verdict-listed}
use borrow.Author.Rules.{rules}
use Rattle.listing.proofs.Lister.verdict.Goals as goal
use Rattle.listing.proofs.Lister.verdict.Goals.{Else-not-sound, Start}

-- a lister's line has its length
line-wide : (c : Start) → length c.args.self.line ≡ longest_line
line-wide c = search rules

-- a lister that the code has found sound
is-sound : (c : Else-not-sound) → sound_lister c.args.self ≡ true
is-sound c = sym c.sound.ensures ∙ c.if-not-sound.false

pub returns-then-not-sound : goal.returns-then-not-sound
returns-then-not-sound c = verdict-unsound c.args.self (sym c.sound.ensures ∙ c.if-not-sound.true)

pub returns-then-more : goal.returns-then-more
returns-then-more c =
    let l = c.args.self in
    verdict-held l (is-sound (goal.at.returns-then-more c).Else-not-sound) c.in-Whole.is c.if-more.true (omega (arith, sound-fits l (is-sound (goal.at.returns-then-more c).Else-not-sound), line-wide (goal.at.returns-then-more c).Start))

pub returns-in-Stopped : goal.returns-in-Stopped
returns-in-Stopped c =
    ap Err (c.unwrap_or.ensures ∙ named c.in-Stopped.n _ c.try_from.ensures)
    ∙ verdict-stopped c.args.self (is-sound (goal.at.returns-in-Stopped c).Else-not-sound) c.in-Stopped.n c.in-Stopped.is

pub returns-else-more : goal.returns-else-more
returns-else-more c =
    verdict-listed c.args.self (is-sound (goal.at.returns-else-more c).Else-not-sound) c.in-Whole.is (omega (arith, c.if-more.false))

pub returns-in-Empty : goal.returns-in-Empty
returns-in-Empty c = verdict-open c.args.self (is-sound (goal.at.returns-in-Empty c).Else-not-sound) c.in-Empty.is
