-- `session_summary::hits` meets its contract. From what `total` ensures.
use mathlib.Core.Path.{◌≡◌, sym, ap, ◌∙◌}
use Prim.Native.Nat.{◌≤◌}
use native.Mathlib.Omega.{arith}
use lib.Dec.{ltb}
use lib.ListN.{take}
use borrow.Author.Tests.{ltb-true, ltb-false}
use Rattle.reuse.proofs.Lists.{by-test}
use lib.Seq.{length-take-le, take_all}
use Rattle.reuse.specs.Limits.{max_extents}
use Rattle.reuse.specs.Lists.{sum}
use Rattle.reuse.specs.Summary.{hits_of}
use Rattle.session.specs.Sessions.{Wide, old_of, extents}
use Rattle.session_summary.specs.Summaries.{session_words}
use Rattle.session_calls.proofs.Sound.{Kept, kept-few}
use Rattle.session.proofs.Corresponds.{sound-facts}
use Rattle.session_calls.proofs.Summaries.{hits-small, hits-large, hits-reads}
use Rattle.session_summary.proofs.Summaries.{rows, count-extents}
use borrow.Author.Rules.{rules}
use Rattle.session_summary.proofs.hits.Goals as goal
use Rattle.session_summary.proofs.hits.Goals.{After-total, After-min-n}

-- the widths of the session's arrays
wide : (c : After-min-n) → Wide c.args.s
wide c = record { first-wide = search rules; hist-wide = search rules; slots-wide = search rules; rights-wide = search rules }

-- the old session's rows are sound
kept : (c : After-min-n) → Kept (old_of c.args.s)
kept c = rows c.args.s (wide c) c.requires

-- the words of H that are counted; the count is v
counted : (c : After-min-n) → (c.min-n.result ≤ extents c.args.s) × (sum (take c.min-n.result c.args.s.hist) ≡ hits_of (session_words c.args.s) c.args.size)
counted c =
    let s = c.args.s in
    let n = c.args.size in
    let k = kept c in
    let e = count-extents s (wide c) c.requires in
    by-test (ltb s.count n)
    (λ t. let m : c.min-n.result ≡ s.count = omega (arith, c.min-n.ensures, ltb-true s.count n t) in
    rw (m ∙ e) (omega arith, hits-large (old_of s) k _ (omega (arith, e, ltb-true s.count n t))))
    (λ f. let m : c.min-n.result ≡ n = omega (arith, c.min-n.ensures, ltb-false s.count n f) in
    rw m (omega (arith, e, ltb-false s.count n f), hits-small (old_of s) k _ (omega (arith, e, ltb-false s.count n f))))

-- they are within the limit
small : (c : After-min-n) → c.min-n.result ≤ max_extents
small c = omega (arith, (counted c).0, kept-few (old_of c.args.s) (kept c))

-- their sum is the hits
hit : (c : After-total) → Wide c.args.s → c.min-n.result ≤ max_extents → sum (take c.min-n.result c.args.s.hist) ≡ hits_of (session_words c.args.s) c.args.size
    → c.total.result ≡ hits_of (session_words c.args.s) c.args.size
hit c w few e =
    let h = c.args.s.hist in
    c.total.ensures.0
    ∙ ap sum (take_all max_extents (take c.min-n.result h) (omega (arith, few, length-take-le c.min-n.result h (omega (arith, few, w.hist-wide)))))
    ∙ e

pub slice_bounds-hist-end : goal.slice_bounds-hist-end
slice_bounds-hist-end c = let m = (goal.at.slice_bounds-hist-end c).After-min-n in omega (arith, small m, (wide m).hist-wide)

pub slice_bounds-total-end : goal.slice_bounds-total-end
slice_bounds-total-end c =
    let m = (goal.at.slice_bounds-total-end c).After-min-n in
    sym (length-take-le _ _ (omega (arith, small m, (wide m).hist-wide)))

pub overflow_cast-result : goal.overflow_cast-result
overflow_cast-result c =
    let b = goal.at.overflow_cast-result c in
    let m = b.After-min-n in
    omega (arith, hit b.After-total (wide m) (small m) (counted m).1, hits-reads (old_of c.args.s) (kept m) c.args.size, (sound-facts c.args.s (wide m) c.requires).sound.short)

pub returns : goal.returns
returns c =
    let b = goal.at.returns c in
    let m = b.After-min-n in
    hit b.After-total (wide m) (small m) (counted m).1
