-- `plan_lines::line_at` meets its contract.
use Prim.Native.Nat.{◌+◌, ◌≤◌}
use native.Mathlib.Omega.{arith}
use lib.ListN.{length}
use Rattle.texts_pieces.proofs.Pieces.{run-within}
use Rattle.plan_lines.proofs.Lines.{past_end, line-is}
use Rattle.plan_lines.proofs.Places.{line-from, line-bad, line-form}
use Rattle.plan_lines.proofs.line_at.Goals as goal
use Rattle.plan_lines.proofs.line_at.Goals.{Else-run_of-under}

-- the leading spaces stand within the text
spaced : (c : Else-run_of-under) → c.args.at + c.run_of.result ≤ length c.args.s.now
spaced c =
    let a = c.args in
    (run-within a.s.now a.at _ a.under c.run_of.result c.if-s-at.false c.run_of.ensures).0

pub returns-then-s-at : goal.returns-then-s-at
returns-then-s-at c = let a = c.args in past_end a.s.now a.at a.under c.if-s-at.true

pub returns-then-run_of-under : goal.returns-then-run_of-under
returns-then-run_of-under c =
    let a = c.args in
    line-is a.s.now a.at a.under _ (line-bad a.s.now a.at a.under c.run_of.result c.run_of.ensures c.if-run_of-under.true) tt

pub overflow_add-at : goal.overflow_add-at
overflow_add-at c = omega (arith, spaced c)

pub form_at-requires : goal.form_at-requires
form_at-requires c = omega (arith, spaced c)

pub returns : goal.returns
returns c =
    let a = c.args in
    line-is a.s.now a.at a.under c.form_at.result
    (line-form a.s.now a.at a.under c.run_of.result c.run_of.ensures c.if-run_of-under.false _ c.form_at.ensures.is)
    (line-from a.at (a.at + a.under) (length a.s.now) c.form_at.result (omega arith) c.form_at.ensures.within)
