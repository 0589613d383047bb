-- Each number that a log text is refused with is the number of the refusal that the listing answers.
use Rattle.std.proofs.Common.{◌≡◌, ℕ, List, eqb, refl}
use borrow.Author.Tests.{eqb-true, eqb-false}
use Rattle.reuse.specs.Refusals.{refusal_number, refusal_with}
use Rattle.reuse.proofs.Lists.{by-test}
use Rattle.texts.specs.Lines.{refused}
use Rattle.texts.specs.Logs.{log_of}
use Rattle.texts.specs.LogFaults.{Broken, big_extent, many_reads, many_extents}
use Rattle.texts.proofs.LogFaults.{log-over}

-- the limits of a log are refused with 2, 8 and 9
broken-number : (t line : List ℕ) (n : ℕ) → Broken t line n → refusal_number (refusal_with n) ≡ n
broken-number t line n (big_extent x ends e h) = refl
broken-number t line n (many_reads x ends e h g) = refl
broken-number t line n (many_extents x ends e h g i j) = refl

-- the refusal that is answered has the text's number
pub log-number : (text : List ℕ) (k n : ℕ) → log_of text ≡ refused k n → refusal_number (refusal_with n) ≡ n
log-number text k n e =
    by-test (eqb n 1) (λ t. rw (eqb-true n 1 t) refl)
    (λ f. let over = log-over text k n e (eqb-false n 1 f) in broken-number over.reads over.line n over.broken)
