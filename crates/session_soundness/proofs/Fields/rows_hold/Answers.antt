-- `session_soundness::Fields::rows_hold` meets its contract. Each test that fails breaks a fact, and the last decides.
use mathlib.Core.Path.{◌≡◌, sym, ap, ◌∙◌}
use native.Mathlib.Omega.{arith}
use lib.ListN.{length, take}
use lib.Seq.{length-take-le, take_all}
use Prim.Native.Nat.{ℕ, ◌+◌, ◌≤◌}
use mathlib.Core.List.{List}
use Rattle.reuse.specs.Limits.{max_extents}
use Rattle.reuse.specs.Lists.{all_in, sum}
use Rattle.reuse_rows.specs.Rows.{blank}
use Rattle.reuse.proofs.Lists.{clash}
use Rattle.reuse_rows.proofs.Slices.{part-rest}
use Rattle.session_soundness.proofs.Verdict.{Passed, failed, passed-sound}
use Rattle.session_soundness.proofs.Fields.rows_hold.Goals as goal
use Rattle.session_soundness.proofs.Fields.rows_hold.Goals.{Else-not-all_distinct}

-- the sum of H below v
total : (t v : ℕ) (h : List ℕ) → v ≤ max_extents → length h ≡ max_extents → t ≡ sum (take max_extents (take v h)) → t ≡ sum (take v h)
total t v h few wide e = e ∙ ap sum (take_all max_extents _ (omega (arith, length-take-le v h (omega arith))))

-- all tests but the last are passed
passed : (c : Else-not-all_distinct)
    → let s = c.args.self in Passed s.reads s.first.now s.hist.now s.slots.now c.args.marks.now s.next s.count
passed c =
    record {
      short = c.if-self-gt-MAX_READS.false;
      held = sym c.marks_hold.ensures ∙ c.if-not-marks_hold.false;
      few = c.if-self.false;
      first_rest = sym (c.all_zero.ensures ∙ ap blank (part-rest c.args.self.first.now _)) ∙ c.if-not-all_zero.false;
      hist-rest = sym (c.all_zero-2.ensures ∙ ap blank (part-rest c.args.self.hist.now _)) ∙ c.if-not-all_zero-2.false;
      total = ap (λ (n : ℕ). n + c.args.self.count) (sym (total _ _ _ c.if-self.false c.requires.0.hist-wide c.total.ensures.0)) ∙ c.if-total-v.false;
      first-apart = sym c.all_distinct.ensures ∙ c.if-not-all_distinct.false;
    }

pub returns-then-self-gt-MAX_READS : goal.returns-then-self-gt-MAX_READS
returns-then-self-gt-MAX_READS c = failed _ _ _ _ _ _ _ c.requires.0 c.requires.1 (λ p. omega arith)

pub returns-then-not-marks_hold : goal.returns-then-not-marks_hold
returns-then-not-marks_hold c = failed _ _ _ _ _ _ _ c.requires.0 c.requires.1 (λ p. clash p.held (sym c.marks_hold.ensures ∙ c.if-not-marks_hold.true))

pub returns-then-self : goal.returns-then-self
returns-then-self c = failed _ _ _ _ _ _ _ c.requires.0 c.requires.1 (λ p. omega arith)

pub returns-then-not-all_zero : goal.returns-then-not-all_zero
returns-then-not-all_zero c = failed _ _ _ _ _ _ _ c.requires.0 c.requires.1 (λ p. clash p.first_rest (sym (c.all_zero.ensures ∙ ap blank (part-rest c.args.self.first.now _)) ∙ c.if-not-all_zero.true))

pub returns-then-not-all_zero-2 : goal.returns-then-not-all_zero-2
returns-then-not-all_zero-2 c = failed _ _ _ _ _ _ _ c.requires.0 c.requires.1 (λ p. clash p.hist-rest (sym (c.all_zero-2.ensures ∙ ap blank (part-rest c.args.self.hist.now _)) ∙ c.if-not-all_zero-2.true))

pub returns-then-total-v : goal.returns-then-total-v
returns-then-total-v c = failed _ _ _ _ _ _ _ c.requires.0 c.requires.1 (λ p. c.if-total-v.true (ap (λ (n : ℕ). n + c.args.self.count) (total _ _ _ c.if-self.false c.requires.0.hist-wide c.total.ensures.0) ∙ p.total))

pub returns-then-not-all_distinct : goal.returns-then-not-all_distinct
returns-then-not-all_distinct c = failed _ _ _ _ _ _ _ c.requires.0 c.requires.1 (λ p. clash p.first-apart (sym c.all_distinct.ensures ∙ c.if-not-all_distinct.true))

pub returns : goal.returns
returns c =
    c.all_in.ensures
    ∙ ap (λ (l : List ℕ). all_in (take c.args.self.count c.args.self.first.now) (take c.args.self.count l)) c.gather-marked.ensures
    ∙ passed-sound _ _ _ _ _ _ _ c.requires.0 c.requires.1 (passed (goal.at.returns c).Else-not-all_distinct)
