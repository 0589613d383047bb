-- `texts_pieces::run_of` meets its contract.
use mathlib.Core.Path.{ap, ◌∙◌}
use lib.Dec.{eqb}
use lib.ListN.{drop}
use Rattle.std.specs.List.{prefix_len}
use Rattle.texts_pieces.proofs.Pieces.{run_front}
use Rattle.texts_pieces.proofs.run_of.Goals as goal

pub returns : goal.returns
returns c =
    let a = c.args in
    c.leading.ensures ∙ ap (prefix_len (λ x. eqb x a.b)) c.window.ensures ∙ run_front a.b a.most (drop a.at a.s.now)
