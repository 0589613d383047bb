-- `listing_lines::row_of` meets its contract.
use mathlib.Core.Path.{◌≡◌, sym, ◌∙◌}
use Prim.Native.Nat.{◌≤◌}
use mathlib.Core.Bool.{true}
use lib.ListN.{length, drop}
use Rattle.std.specs.Prelude.{None, Some}
use Rattle.texts.specs.Digits.{value, number_of}
use Rattle.texts.specs.Words.{word_at}
use Rattle.texts.specs.Logs.{read_word}
use Rattle.texts_pieces.proofs.Pieces.{found-there}
use Rattle.listing_lines.proofs.LineLaws.{row-none, row-long, row-bad, row-spoilt, row_read, row_last, row_more}
use Rattle.listing_lines.proofs.row_of.Goals as goal
use Rattle.listing_lines.proofs.row_of.Goals.{Else-not-word_at, In-Some}

-- the line begins with the word
worded : (c : Else-not-word_at) → true ≡ word_at read_word c.args.line.now
worded c = sym (c.if-not-word_at.false) ∙ c.word_at.ensures

pub returns-then-not-word_at : goal.returns-then-not-word_at
returns-then-not-word_at c = row-none c.args.line.now (sym (c.if-not-word_at.true) ∙ c.word_at.ensures)

pub returns-in_default : goal.returns-in_default
returns-in_default c =
    let line = c.args.line.now in
    let w = worded (goal.at.returns-in_default c).Else-not-word_at in
    row-bad line w (found-there line 7 (row-long line w) None c.in_default.ensures).0

-- the number that was read, and the position past it
numbered : (c : In-Some) →
    let line = c.args.line.now in
    (value c.in-Some.extent (drop c.in-Some.end line) ≡ number_of (drop 7 line)) × (c.in-Some.end ≤ length line)
numbered c =
    let line = c.args.line.now in
    let g = c.in-Some in
    let n = found-there line 7 (row-long line (sym c.if-not-word_at.false ∙ c.word_at.ensures)) (Some (g.extent, g.end)) g.ensures in
    (n.0, n.1.1)

pub overflow_sub-left : goal.overflow_sub-left
overflow_sub-left c = (numbered c).1

pub returns-then-run_of-left : goal.returns-then-run_of-left
returns-then-run_of-left c =
    let at = goal.at.returns-then-run_of-left c in
    row-spoilt c.args.line.now (worded at.Else-not-word_at) c.in-Some.extent c.in-Some.end c.run_of.result (numbered at.In-Some).0 c.run_of.ensures c.if-run_of-left.true

pub returns-then-open : goal.returns-then-open
returns-then-open c =
    let at = goal.at.returns-then-open c in
    row_read c.args.line.now (worded at.Else-not-word_at) c.in-Some.extent c.in-Some.end c.run_of.result (numbered at.In-Some).0 c.run_of.ensures c.if-run_of-left.false c.if-open.true

pub returns-then-left-eq2 : goal.returns-then-left-eq2
returns-then-left-eq2 c =
    let at = goal.at.returns-then-left-eq2 c in
    row_last c.args.line.now (worded at.Else-not-word_at) c.in-Some.extent c.in-Some.end c.run_of.result (numbered at.In-Some).0 c.run_of.ensures c.if-run_of-left.false c.if-left-eq2.true

pub returns : goal.returns
returns c =
    let at = goal.at.returns c in
    row_more c.args.line.now (worded at.Else-not-word_at) c.in-Some.extent c.in-Some.end c.run_of.result (numbered at.In-Some).0 c.run_of.ensures c.if-run_of-left.false c.if-open.false c.if-left-eq2.false
