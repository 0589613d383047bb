-- `session_words::summary` meets its contract.
use Rattle.std.proofs.Common.{sym, ap, ◌∙◌}
use Rattle.summary_calls.specs.Calls.{Wrote}
use Rattle.session_words.proofs.Kept.{summary-held, summary-unheld, kept-held, unkept-held}
use Rattle.session_words.proofs.summary.Goals as goal

pub returns-in-None : goal.returns-in-None
returns-in-None c =
    let e = summary-unheld _ (unkept-held _ (sym c.session_in.ensures ∙ c.in-None.is)) _ in
    (sym (ap (λ (v : Wrote). v.answer) e), sym (ap (λ (v : Wrote). v.buffer) e))

pub returns-in-Some : goal.returns-in-Some
returns-in-Some c =
    let e = summary-held _ (kept-held _ (sym c.session_in.ensures ∙ c.in-Some.is)) _ in
    (c.summary.ensures.0 ∙ ap (λ (v : Wrote). v.answer) e, c.summary.ensures.1 ∙ ap (λ (v : Wrote). v.buffer) e)
