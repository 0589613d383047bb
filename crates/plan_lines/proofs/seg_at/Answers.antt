-- `plan_lines::seg_at` meets its contract.
use mathlib.Core.Path.{◌≡◌, ap, ◌∙◌}
use Prim.Native.Nat.{◌+◌, ◌-◌, ◌≤◌, ◌<◌}
use native.Mathlib.Omega.{arith}
use lib.ListN.{length, drop}
use Rattle.std.specs.Prelude.{None, Some}
use Rattle.texts.specs.Digits.{value, number_of}
use Rattle.texts_pieces.proofs.Pieces.{run-within, found-there}
use Rattle.plan_lines.specs.Lines.{place_of}
use Rattle.plan_lines.proofs.Places.{number-none, brackets-none, brackets-some, seg-none, seg-ends}
use Rattle.plan_lines.proofs.seg_at.Goals as goal
use Rattle.plan_lines.proofs.seg_at.Goals.{In_ok-reads, Else-run-eq0}

-- the number that was read, and the position past it
numbered : (c : In_ok-reads) →
    let a = c.args in
    let g = c.in_ok-reads in
    (value g.reads (drop g.end a.s.now) ≡ number_of (drop a.at a.s.now)) × ((a.at < g.end) × (g.end ≤ length a.s.now))
numbered c =
    let a = c.args in
    let g = c.in_ok-reads in
    found-there a.s.now a.at c.requires (Some (g.reads, g.end)) g.ensures

-- the brackets after it end within the text
ran : (c : Else-run-eq0) → c.in_ok-reads.end ≤ length c.args.s.now → c.in_ok-reads.end + c.run_of-run.result ≤ length c.args.s.now
ran c h =
    let a = c.args in
    let stop = c.in_ok-reads.end in
    (run-within a.s.now stop 41 (length a.s.now - stop) c.run_of-run.result h c.run_of-run.ensures).0

pub returns-in_err-reads-clause-is : goal.returns-in_err-reads-clause-is
returns-in_err-reads-clause-is c =
    let a = c.args in
    ap (place_of a.s.now) c.from_residual.ensures
    ∙ number-none a.s.now a.at (found-there a.s.now a.at c.requires None c.in_err-reads.ensures).0

pub overflow_sub-s : goal.overflow_sub-s
overflow_sub-s c = (numbered c).1.1

pub returns-then-run-eq0-clause-is : goal.returns-then-run-eq0-clause-is
returns-then-run-eq0-clause-is c =
    let a = c.args in
    let g = c.in_ok-reads in
    let v = numbered (goal.at.returns-then-run-eq0-clause-is c).In_ok-reads in
    brackets-none a.s.now a.at g.reads g.end c.run_of-run.result v.0 c.run_of-run.ensures c.if-run-eq0.true

pub overflow_add-end : goal.overflow_add-end
overflow_add-end c = omega (arith, ran c (numbered (goal.at.overflow_add-end c).In_ok-reads).1.1)

pub returns-in_err-next-clause-is : goal.returns-in_err-next-clause-is
returns-in_err-next-clause-is c =
    let a = c.args in
    let g = c.in_ok-reads in
    let v = numbered (goal.at.returns-in_err-next-clause-is c).In_ok-reads in
    ap (place_of a.s.now) c.from_residual-in_err-next.ensures
    ∙ brackets-some a.s.now a.at g.reads g.end c.run_of-run.result v.0 c.run_of-run.ensures (omega (arith, c.if-run-eq0.false)) _ (seg-none _ _ _ _ c.in_err-next.ensures)

pub returns-clause-is : goal.returns-clause-is
returns-clause-is c =
    let a = c.args in
    let g = c.in_ok-reads in
    let v = numbered (goal.at.returns-clause-is c).In_ok-reads in
    brackets-some a.s.now a.at g.reads g.end c.run_of-run.result v.0 c.run_of-run.ensures (omega (arith, c.if-run-eq0.false)) _ (seg-ends _ _ _ _ _ c.in_ok-next.ensures)

pub returns-clause-within : goal.returns-clause-within
returns-clause-within c =
    let v = numbered (goal.at.returns-clause-within c).In_ok-reads in
    let h = c.in_ok-next.ensures in
    (omega (arith, v.1.0, h.2), omega (arith, h.0, h.2))
