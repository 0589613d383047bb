-- A plan as a grouping of its segs: joined from the inside out, left to right.
use Rattle.std.specs.Prelude.{List, ℕ, take, drop}
use Rattle.reuse.specs.Summary.{summary_of, join_of}
use Rattle.texts.specs.Plans.{Plan, Parts, seg, join, last, more, reads}

unfoldable mutual
  -- the words of a plan on its reads: a seg's summary, or a join's parts joined
  pub grouped_by : Plan → List ℕ → List ℕ
  grouped_by (seg n) log = summary_of log
  grouped_by (join p ps) log = joined_to (grouped_by p (take (reads p) log)) ps (drop (reads p) log)

  -- other parts joined to the words before them, one after the other
  pub joined_to : List ℕ → Parts → List ℕ → List ℕ
  joined_to w (last p) log = join_of w (grouped_by p log)
  joined_to w (more p ps) log = joined_to (join_of w (grouped_by p (take (reads p) log))) ps (drop (reads p) log)
