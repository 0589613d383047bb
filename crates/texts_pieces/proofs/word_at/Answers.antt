-- `texts_pieces::word_at` meets its contract.
use borrow.Author.Tests.{ne_eqb}
use Rattle.std.proofs.Common.{◌∙◌, rules, tests}
use Rattle.std.proofs.lemmas.Iterator.{YieldsList-from_slice, YieldsList-from_zip, same_from_all}
use Rattle.texts_pieces.proofs.Pieces.{word_taken, word_short}
use Rattle.texts_pieces.proofs.word_at.Goals as goal

pub returns-then-front-w : goal.returns-then-front-w
returns-then-front-w c =
    let a = c.args in
    let f = c.window-front.result in
    word_taken _ _ _ _ c.window-front.ensures
    (same_from_all c.all.new.self _ _ _ _ c.all.ensures.ran (YieldsList-from_zip (YieldsList-from_slice f.now cc) (YieldsList-from_slice a.w.now cc)) (search rules) (λ x q k. search (rules, tests)) (λ x q k. search (rules, tests)))

pub returns-else-front-w : goal.returns-else-front-w
returns-else-front-w c = ne_eqb _ _ c.if-front-w.false ∙ word_short _ _ _ c.window-front.ensures c.if-front-w.false
