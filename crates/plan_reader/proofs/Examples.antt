-- Worked examples: what `read` answers, computed from the definitions.
use mathlib.Core.Path.{◌≡◌, ap}
use Rattle.texts.specs.Bytes.{bytes}
use Rattle.texts.specs.Plans.{depth, parts_depth, reads, parts_reads}
use Rattle.texts.specs.PlanTexts.{plan_of}
use Rattle.texts.proofs.Examples.{plans-read, plans-refused-one}
use Rattle.std.specs.Prelude.{Ok, Err}
use Rattle.reuse.specs.declared.refusals.Refusal.TheVariants.{FaultyLine}
use Rattle.plan_reader.specs.Answers.{answer_of}

-- the paper's plan covers seven reads and opens two joins together
pub paper-read : answer_of (plan_of (bytes "(join\n (seg 4)\n (join\n  (seg 1)\n  (seg 2)))\n")) ≡ Ok (record { reads = 7; depth = 2 })
unfolding reads parts_reads depth parts_depth
paper-read = ap answer_of plans-read.0

-- a lone seg has depth 0
pub seg-read : answer_of (plan_of (bytes "(seg 7)\n")) ≡ Ok (record { reads = 7; depth = 0 })
unfolding reads parts_reads depth parts_depth
seg-read = ap answer_of plans-read.1

-- the plan of an empty log
pub empty-read : answer_of (plan_of (bytes "(seg 0)\n")) ≡ Ok (record { reads = 0; depth = 0 })
unfolding reads parts_reads depth parts_depth
empty-read = ap answer_of plans-read.2

-- a refusal is its number alone
pub refused-read : answer_of (plan_of (bytes "(seg 07)\n")) ≡ Err FaultyLine
refused-read = ap answer_of plans-refused-one.0
