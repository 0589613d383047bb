-- Worked examples: what `run` answers, computed from the definitions.
use Rattle.std.specs.Prelude.{Ok}
use mathlib.Core.Path.{◌≡◌, refl, ◌∙◌}
use Prim.Native.Nat.{ℕ, ◌*◌, ◌≤◌}
use native.Mathlib.Omega.{arith}
use mathlib.Core.List.{List, [], ◌∷◌}
use lib.ListN.{length}
use Rattle.reuse.specs.Lists.{firsts, remove}
use Rattle.reuse.specs.Traces.{Within}
use Rattle.reuse.specs.Summary.{summary_of}
use Rattle.reuse.proofs.Monoid.{empty-summary}
use Rattle.texts.specs.Bytes.{bytes}
use Rattle.texts.specs.Plans.{seg, join, last, depth, parts_depth, reads, parts_reads}
use Rattle.texts.proofs.Examples.{plans-read}
use Rattle.plan_calls.specs.Calls.{level_words, cleared, fronted, run_call}
use Rattle.plan_calls.proofs.Carrying.{carried}

-- the log 7 3 7 9 3 3 9
abbrev seven : List ℕ
seven = 7 ∷ 3 ∷ 7 ∷ 9 ∷ 3 ∷ 3 ∷ 9 ∷ []

-- it is within the limits
seven-within : Within seven
unfolding firsts remove
seven-within = record { reads = omega arith; extents = omega arith }

-- the paper's plan over the seven reads: two levels of work words, the words of their summary
pub paper-run : (work out : List ℕ) → level_words * 2 ≤ length work → 11 ≤ length out
    → run_call (bytes "(join\n (seg 4)\n (join\n  (seg 1)\n  (seg 2)))\n") seven work out
    ≡ record { answer = Ok (length (summary_of seven)); work = cleared (level_words * 2) work; out = fronted (summary_of seven) out }
unfolding reads parts_reads depth parts_depth firsts remove
paper-run work out h k =
    carried (bytes "(join\n (seg 4)\n (join\n  (seg 1)\n  (seg 2)))\n") seven work out (join (seg 4) (last (join (seg 1) (last (seg 2))))) plans-read.0 refl seven-within 2 refl h k

-- the same log by a lone seg: no work words
pub seg-run : (work out : List ℕ) → 11 ≤ length out
    → run_call (bytes "(seg 7)\n") seven work out
    ≡ record { answer = Ok (length (summary_of seven)); work = work; out = fronted (summary_of seven) out }
unfolding reads depth firsts remove cleared
seg-run work out k = carried (bytes "(seg 7)\n") seven work out (seg 7) plans-read.1 refl seven-within 0 refl (omega arith) k

-- the empty log
pub empty-run : (work out : List ℕ) → 2 ≤ length out
    → run_call (bytes "(seg 0)\n") [] work out ≡ record { answer = Ok 2; work = work; out = fronted (0 ∷ 0 ∷ []) out }
unfolding reads depth firsts cleared
empty-run work out k =
    carried (bytes "(seg 0)\n") [] work out (seg 0) plans-read.2 refl (record { reads = omega arith; extents = omega arith }) 0 refl (omega arith) k ∙ rw empty-summary
