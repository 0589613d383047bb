use mathlib.Core.Path.{subst}
use Rattle.reuse.proofs.Told.{handed_on}
use Prim.Native.Nat.{suc, ◌+◌}
use native.Mathlib.Omega.{arith}
use borrow.Author.Rules.{rules}
use lib.ListN.{length}
use Rattle.texts.specs.Limits.{max_joins}
use Rattle.plan_lines.proofs.Lines.{seg-line, join-line, no_line}
use Rattle.plan_reader.specs.Answers.{FormIs}
use Rattle.plan_reader.proofs.Ways as ways
use Rattle.plan_reader.proofs.forms.+form_parts.Goals as goal

pub form-returns-then-most-closes-clause-is : goal.form-returns-then-most-closes-clause-is
form-returns-then-most-closes-clause-is t c =
    let a = c.args in
    let g = c.in-Seg in
    let v = seg-line _ _ c.requires.0 _ c.in-Some.l c.in-Some.ensures _ _ _ c.in-Seg.is in
    ways.many a.s.now a.at a.under a.most a.count g.reads g.closes g.next v.0 c.if-most-closes.true

pub form-returns-then-reads-gt-MAX_SEG-clause-is : goal.form-returns-then-reads-gt-MAX_SEG-clause-is
form-returns-then-reads-gt-MAX_SEG-clause-is t c =
    let a = c.args in
    let g = c.in-Seg in
    let v = seg-line _ _ c.requires.0 _ c.in-Some.l c.in-Some.ensures _ _ _ c.in-Seg.is in
    ways.long a.s.now a.at a.under a.most a.count g.reads g.closes g.next v.0 c.if-most-closes.false c.if-reads-gt-MAX_SEG.true

pub form-returns-then-count-ge-MAX_PARTS-clause-is : goal.form-returns-then-count-ge-MAX_PARTS-clause-is
form-returns-then-count-ge-MAX_PARTS-clause-is t c =
    let a = c.args in
    let g = c.in-Seg in
    let v = seg-line _ _ c.requires.0 _ c.in-Some.l c.in-Some.ensures _ _ _ c.in-Seg.is in
    ways.full a.s.now a.at a.under a.most a.count g.reads g.closes g.next v.0 c.if-most-closes.false c.if-reads-gt-MAX_SEG.false c.if-count-ge-MAX_PARTS.true

pub form-returns-then-under-ge-MAX_JOINS-clause-is : goal.form-returns-then-under-ge-MAX_JOINS-clause-is
form-returns-then-under-ge-MAX_JOINS-clause-is t c =
    let a = c.args in
    let v = join-line _ _ c.requires.0 _ c.in-Some.l c.in-Some.ensures _ c.in-Join.is in
    ways.deep a.s.now a.at a.under a.most a.count c.in-Join.next v.0 c.if-under-ge-MAX_JOINS.true

pub form-returns-then-count-ge-MAX_PARTS-2-clause-is : goal.form-returns-then-count-ge-MAX_PARTS-2-clause-is
form-returns-then-count-ge-MAX_PARTS-2-clause-is t c =
    let a = c.args in
    let v = join-line _ _ c.requires.0 _ c.in-Some.l c.in-Some.ensures _ c.in-Join.is in
    ways.join-full a.s.now a.at a.under a.most a.count c.in-Join.next v.0 c.if-under-ge-MAX_JOINS.false c.if-count-ge-MAX_PARTS-2.true

pub form-parts-requires : goal.form-parts-requires
form-parts-requires t c =
    let v = join-line _ _ c.requires.0 _ c.in-Some.l c.in-Some.ensures _ c.in-Join.is in
    let u = v.1 in
    let w = v.2 in
    omega arith

pub form-returns-in_default-clause-is : goal.form-returns-in_default-clause-is
form-returns-in_default-clause-is t c =
    let a = c.args in
    ways.bad a.s.now a.at a.under a.most a.count (no_line _ _ c.requires.0 _ c.in_default.ensures)

pub form-returns-else-count-ge-MAX_PARTS : goal.form-returns-else-count-ge-MAX_PARTS
form-returns-else-count-ge-MAX_PARTS t c =
    let a = c.args in
    let g = c.in-Seg in
    let v = seg-line _ _ c.requires.0 _ c.in-Some.l c.in-Some.ensures _ _ _ c.in-Seg.is in
    let u = v.1 in
    let w = v.2 in
    let x = c.if-most-closes.false in
    let y = c.if-reads-gt-MAX_SEG.false in record {
      within = omega arith;
      is = ways.seg a.s.now a.at a.under a.most a.count g.reads g.closes g.next v.0 y c.if-count-ge-MAX_PARTS.false;
    }

pub form-returns-else-count-ge-MAX_PARTS-2 : goal.form-returns-else-count-ge-MAX_PARTS-2
form-returns-else-count-ge-MAX_PARTS-2 t c =
    let a = c.args in
    let g = c.in-Join.next in
    let v = join-line _ _ c.requires.0 _ c.in-Some.l c.in-Some.ensures _ c.in-Join.is in
    let u = v.1 in
    let e = c.parts.ensures in record {
      within = ways.form-from a.at g (length a.s.now) a.most a.under (a.under + 1) max_joins (suc max_joins) 0 0 c.parts.result (omega arith) (omega arith) (omega arith) e.within;
      is = ways.join a.s.now a.at a.under a.most a.count g v.0 c.if-under-ge-MAX_JOINS.false c.if-count-ge-MAX_PARTS-2.false c.parts.result e.is;
    }

pub parts-returns-then-part-gt0-clause-is : goal.parts-returns-then-part-gt0-clause-is
parts-returns-then-part-gt0-clause-is t c =
    let a = c.args in
    let g = c.in_ok-part.part in
    let m = c.closable in
    let h = c.in_ok-part.ensures.within in
    ways.last a.s.now a.at a.under a.most a.count a.reads a.low m.result m.ensures.0 g.reads g.depth g.closes g.next (subst (FormIs a.s.now a.at a.under m.result a.count) c.in_ok-part.was c.form.ensures.is) c.max-deep.result (search rules) c.if-part-gt0.true h.2

pub parts-returns-in_err-part-clause-is : goal.parts-returns-in_err-part-clause-is
parts-returns-in_err-part-clause-is t c =
    let a = c.args in
    let m = c.closable in
    rw (handed_on _ _ c.from_residual.ensures.1)
    (ways.stop a.s.now a.at a.under a.most a.count a.reads a.low m.result m.ensures.0 _ (subst (FormIs a.s.now a.at a.under m.result a.count) c.in_err-part.was c.form.ensures.is))

pub parts-returns : goal.parts-returns
parts-returns t c =
    let a = c.args in
    let g = c.in_ok-part.part in
    let m = c.closable in
    let h = c.in_ok-part.ensures.within in
    let e = c.parts.ensures in record {
      within = ways.form-from a.at g.next (length a.s.now) a.most a.under a.under (suc max_joins) (suc max_joins) a.reads (a.reads + g.reads) c.parts.result (omega arith) (omega arith) (omega arith) e.within;
      is = ways.more a.s.now a.at a.under a.most a.count a.reads a.low m.result m.ensures.0 g.reads g.depth g.closes g.next (subst (FormIs a.s.now a.at a.under m.result a.count) c.in_ok-part.was c.form.ensures.is) c.max-deep.result (search rules) (omega (arith, c.if-part-gt0.false)) c.parts.result e.is;
    }
