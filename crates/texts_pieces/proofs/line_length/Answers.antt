-- `texts_pieces::line_length` meets its contract.
use mathlib.Core.Path.{ap, ◌∙◌}
use mathlib.Core.Bool.{not}
use lib.Dec.{eqb}
use lib.ListN.{drop}
use Rattle.std.specs.List.{prefix_len}
use Rattle.texts_pieces.proofs.Lengths.{length_front}
use Rattle.texts_pieces.proofs.line_length.Goals as goal

pub returns : goal.returns
returns c =
    let a = c.args in
    c.before_end.ensures ∙ ap (prefix_len (λ x. not (eqb x 10))) c.window.ensures ∙ length_front a.most (drop a.at a.s.now)
