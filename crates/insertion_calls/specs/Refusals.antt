-- When the call on one more read is refused: each number exactly under its condition, looked at after those before it.
use Rattle.reuse.specs.Refusals.{refusal_number}
use Rattle.std.specs.Prelude.{ℤ, ℕ, ◌≤◌, ◌<◌, ◌≡◌, ◌↔◌, List, length, Result, Ok, Err}
use Rattle.reuse.specs.declared.refusals.Refusal.{Refusal}
use Rattle.reuse.specs.Limits.{max_reads, max_extents}
use Rattle.reuse.specs.Lists.{firsts}
use Rattle.reuse.specs.Traces.{Within}
use Rattle.insertion_calls.specs.Insertion.{put, change_of}
use Rattle.insertion_calls.specs.Calls.{insertion_call}

-- the refusal's number, 0 where there is none
abbrev pub insertion_refusal : Result ℤ Refusal → ℕ
insertion_refusal (Ok d) = 0
insertion_refusal (Err r) = refusal_number r

-- of every call
pub record Refusals (log : List ℕ) (place x c : ℕ) : Type 0 where
  -- 2: the place is past the end
  pub two : insertion_refusal (insertion_call log place x c) ≡ 2 ↔ length log < place
  -- 8: the place being in the log, the longer log has more reads than the limit
  pub eight : insertion_refusal (insertion_call log place x c) ≡ 8 ↔ ((place ≤ length log) × (max_reads < length (put place x log)))
  -- 9: last, it has more different extents than the limit
  pub nine : insertion_refusal (insertion_call log place x c) ≡ 9
      ↔ ((place ≤ length log) × (length (put place x log) ≤ max_reads) × (max_extents < length (firsts (put place x log))))
  -- else the change: the place is in the log, and the longer log within the limits
  pub answered : insertion_call log place x c ≡ Ok (change_of c place x log) ↔ ((place ≤ length log) × Within (put place x log))
