-- `session::Session::gathered` meets its contract. From what `work_out`, `gather` and `front` ensure.
use Prim.Native.Nat.{ℕ}
use mathlib.Core.Path.{ap, ◌∙◌}
use lib.ListN.{length-replicate}
use Rattle.reuse.specs.Limits.{slot_count}
use Rattle.session_marks.specs.Marks.{gathered_row}
use Rattle.session.proofs.Parts.{worked, gathered-new}
use Rattle.session.proofs.Session.gathered.Goals as goal

pub returns : goal.returns
returns c =
    let s = c.args.self in
    let w = c.work_out in
    let marks = w.ensures.1 ∙ worked s c.requires.summed _ (length-replicate {A = ℕ} slot_count 0) in
    gathered-new s c.requires _ _ (c.gather-slots.ensures ∙ ap (gathered_row s.slots) marks) c.front-rights.ensures
