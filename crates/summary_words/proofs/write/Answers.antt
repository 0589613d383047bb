-- `summary_words::write` meets its contract.
use mathlib.Core.Path.{refl}
use native.Mathlib.Omega.{arith}
use Rattle.summary_words.proofs.Calls.{words-many, words-short, words-all}
use Rattle.summary_words.proofs.write.Goals as goal

pub returns-then-first-gt-MAX_EXTENTS : goal.returns-then-first-gt-MAX_EXTENTS
returns-then-first-gt-MAX_EXTENTS c =
    let g = c.args in
    rw (words-many g.reads g.first.now g.recent.now g.counts.now g.out.now (omega arith)) (refl, refl)

pub returns-then-out-after_first : goal.returns-then-out-after_first
returns-then-out-after_first c =
    let g = c.args in
    rw (words-short g.reads g.first.now g.recent.now g.counts.now g.out.now (omega arith) (omega arith)) (refl, refl)

pub returns-then-out-after_first-2 : goal.returns-then-out-after_first-2
returns-then-out-after_first-2 c =
    let g = c.args in
    rw (words-short g.reads g.first.now g.recent.now g.counts.now g.out.now (omega arith) (omega arith)) (refl, refl)

pub returns-then-out-after_recent : goal.returns-then-out-after_recent
returns-then-out-after_recent c =
    let g = c.args in
    rw (words-short g.reads g.first.now g.recent.now g.counts.now g.out.now (omega arith) (omega arith)) (refl, refl)

pub returns : goal.returns
returns c =
    let g = c.args in
    rw (words-all g.reads g.first.now g.recent.now g.counts.now g.out.now (omega arith) (omega arith)) (refl, c.put_parts.ensures)
