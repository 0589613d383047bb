-- `listing::Lister::sound` meets its contract.
use mathlib.Core.Path.{sym, ◌∙◌}
use Rattle.listing.proofs.Soundness.{sound-line, sound-tally, sound-phase}
use Rattle.listing.proofs.Lister.sound.Goals as goal

pub returns-then-not-holds_line : goal.returns-then-not-holds_line
returns-then-not-holds_line c = sound-line c.args.self (sym c.if-not-holds_line.true ∙ c.holds_line.ensures)

pub returns-then-not-holds_tally : goal.returns-then-not-holds_tally
returns-then-not-holds_tally c =
    sound-tally c.args.self (sym c.if-not-holds_line.false ∙ c.holds_line.ensures)
    (sym c.if-not-holds_tally.true ∙ c.holds_tally.ensures)

pub returns : goal.returns
returns c =
    c.holds_phase.ensures
    ∙ sound-phase c.args.self (sym c.if-not-holds_line.false ∙ c.holds_line.ensures)
    (sym c.if-not-holds_tally.false ∙ c.holds_tally.ensures)
