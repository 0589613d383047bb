-- `summary_counts::share_of` meets its contract: 32-bit numbers are floats exactly, so the division is the one rounding.
use mathlib.Core.Path.{sym}
use native.Mathlib.Omega.{arith}
use native.Mathlib.Nat.{pos_of_ne-zero}
use lib.Ieee.{binary64}
use borrow.Author.Tests.{eq-eqb, ne_eqb}
use Rattle.summary_calls.specs.Calls.{share_of}
use Rattle.summary_counts.proofs.Quotient.{quotient}
use Rattle.summary_counts.proofs.share_of.Goals as goal

pub returns-then-servable-eq0 : goal.returns-then-servable-eq0
unfolding share_of
returns-then-servable-eq0 c = sym (simp (eq-eqb _ _ c.if-servable-eq0.true))

pub returns : goal.returns
unfolding share_of
returns c =
    let a = c.args in
    sym (simp (ne_eqb _ _ c.if-servable-eq0.false, ← quotient binary64 a.hits a.servable (pos_of_ne-zero c.if-servable-eq0.false) (omega arith) (omega arith)))
