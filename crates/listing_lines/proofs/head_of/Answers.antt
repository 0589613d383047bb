-- `listing_lines::head_of` meets its contract.
use mathlib.Core.Path.{◌≡◌, sym, ◌∙◌}
use mathlib.Core.Bool.{true}
use Rattle.texts.specs.Words.{word_at}
use Rattle.texts.specs.Logs.{trace_word}
use Rattle.listing_lines.proofs.LineLaws.{head-none, head-open, head_more, head-other, head-closed}
use Rattle.listing_lines.proofs.head_of.Goals as goal
use Rattle.listing_lines.proofs.head_of.Goals.{Else-not-word_at}

-- the line begins with the word
worded : (c : Else-not-word_at) → true ≡ word_at trace_word c.args.line.now
worded c = sym (c.if-not-word_at.false) ∙ c.word_at.ensures

pub returns-then-not-word_at : goal.returns-then-not-word_at
returns-then-not-word_at c = head-none c.args.line.now (sym (c.if-not-word_at.true) ∙ c.word_at.ensures)

pub returns-then-line-eq6 : goal.returns-then-line-eq6
returns-then-line-eq6 c = head-open c.args.line.now (worded (goal.at.returns-then-line-eq6 c).Else-not-word_at) c.if-line-eq6.true

pub returns-then-other : goal.returns-then-other
returns-then-other c = head_more c.args.line.now (worded (goal.at.returns-then-other c).Else-not-word_at) c.if-line-eq6.false c.if-other.true

pub returns-then-unclosed : goal.returns-then-unclosed
returns-then-unclosed c =
    head-other c.args.line.now (worded (goal.at.returns-then-unclosed c).Else-not-word_at) c.if-other.false c.if-unclosed.true

pub returns : goal.returns
returns c =
    head-closed c.args.line.now (worded (goal.at.returns c).Else-not-word_at) c.if-other.false c.if-unclosed.false
