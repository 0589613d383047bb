-- `session::Session::moved` meets its contract. From what `above` and `change` ensure.
use mathlib.Core.Path.{◌≡◌, ap, ◌∙◌}
use mathlib.Core.List.{List}
use Prim.Native.Nat.{ℕ, suc, ◌<◌}
use native.Mathlib.Omega.{arith}
use lib.ListN.{drop, get_or}
use Rattle.reuse.specs.Limits.{max_extents, levels}
use Rattle.reuse.specs.Lists.{sum}
use Rattle.session_sums.specs.Sums.{zeros}
use Rattle.session_points.specs.declared.Walked.{Walked}
use Rattle.session_points.specs.Points.{changed_by}
use Rattle.session_calls.specs.Sessions as full
use Rattle.session.specs.Sessions.{old_of}
use Rattle.session.proofs.Parts as parts
use Rattle.session.proofs.Session.moved.Goals as goal
use Rattle.session.proofs.Session.moved.Goals.{After-above-w}

-- what the way up read
walked : (c : After-above-w)
    → c.above-w.result ≡ record { total = sum (drop (suc c.args.k) (full.marks (old_of c.args.self))); count = zeros levels c.args.k }
walked c = c.above-w.ensures ∙ parts.walked c.args.self c.requires.summed c.args.k (omega (arith, c.requires.below, c.requires.room))

-- the marks behind slot k
total : (c : After-above-w) → c.above-w.result.total ≡ sum (drop (suc c.args.k) (full.marks (old_of c.args.self)))
total c = ap (λ (w : Walked). w.total) (walked c)

-- fewer than the limit of extents
small : (c : After-above-w) → c.above-w.result.total < max_extents
small c = omega (arith, total c, c.requires.behind)

pub offset_bounds-hist-t : goal.offset_bounds-hist-t
offset_bounds-hist-t c = omega (arith, small (goal.at.offset_bounds-hist-t c).After-above-w)

pub bounds-hist-t : goal.bounds-hist-t
bounds-hist-t c = omega (arith, small (goal.at.bounds-hist-t c).After-above-w)

pub overflow_add-hist : goal.overflow_add-hist
overflow_add-hist c =
    omega (arith, c.requires.counted, ap (λ (n : ℕ). get_or c.args.self.hist n 0) (total (goal.at.overflow_add-hist c).After-above-w))

pub offset_bounds-hist-t-2 : goal.offset_bounds-hist-t-2
offset_bounds-hist-t-2 c = omega (arith, small (goal.at.offset_bounds-hist-t-2 c).After-above-w)

pub bounds-hist-t-2 : goal.bounds-hist-t-2
bounds-hist-t-2 c = omega (arith, small (goal.at.bounds-hist-t-2 c).After-above-w)

pub overflow_cast-result : goal.overflow_cast-result
overflow_cast-result c = omega (arith, small (goal.at.overflow_cast-result c).After-above-w)

pub overflow_add-result-3 : goal.overflow_add-result-3
overflow_add-result-3 c = omega (arith, small (goal.at.overflow_add-result-3 c).After-above-w)

pub returns : goal.returns
returns c =
    parts.moved-step c.args.self c.args.x c.args.k c.args.looked c.requires c.above-w.result c.change-2.new.rights (walked (goal.at.returns c).After-above-w)
    (c.change-2.ensures ∙ ap (λ (l : List ℕ). changed_by 1 l c.args.self.next) c.change.ensures)
