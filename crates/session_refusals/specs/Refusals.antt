-- When a read is refused, by a session's fields.
use Rattle.std.specs.Prelude.{ℕ, List, Bool, cond, not, ◌&&◌, eqb, Option, Some, None}
use Rattle.reuse.specs.declared.refusals.Refusal.{Refusal}
use Rattle.reuse.specs.declared.refusals.Refusal.TheVariants.{Unsound, TooManyReads, TooManyExtents}
use Rattle.reuse.specs.Lists.{mem}
use Rattle.reuse.specs.Limits.{max_reads, max_extents, levels}
use Rattle.session_rights.specs.Rights.{marks_from}
use Rattle.session_soundness.specs.Soundness.{extents_in, stack_in, intact_rows}

-- x would be one extent too many: it has no mark, and as many extents as the limit have one
unfoldable pub overfull : List ℕ → List ℕ → ℕ → Bool
overfull slots marks x = not (mem x (stack_in slots marks)) && eqb (extents_in marks) max_extents

-- why a read of x is refused: 7, 8, 9; none where it is accepted
unfoldable pub refusal_of : ℕ → List ℕ → List ℕ → List ℕ → ℕ → List ℕ → ℕ → ℕ → Option Refusal
refusal_of reads first hist slots count rights next x =
    cond (intact_rows reads first hist slots count rights next)
    (cond (eqb reads max_reads) (Some TooManyReads) (cond (overfull slots (marks_from levels count rights) x) (Some TooManyExtents) None))
    (Some Unsound)
