-- `texts_pieces::number_at` meets its contract. The invariant: the number from the start goes on here after the value so far.
use Prim.Native.Nat.{◌+◌, ◌<◌}
use mathlib.Core.Path.{◌≡◌}
use lib.Dec.{eqb}
use lib.ListN.{drop}
use Rattle.texts.specs.Digits.{number_from, number_of}
use Rattle.texts_pieces.proofs.number_at.Given as goal

abbrev pub invariant-loop-b : goal.invariant-loop-b
invariant-loop-b l = record {
  here : l.end ≡ l.at + l.b-index;
  small : l.v < 10000000000;
  start : l.end ≡ l.at → l.v ≡ 0;
  same : number_of l.b-items ≡ number_from (eqb l.end l.at) l.v (drop l.b-index l.b-items);
}
