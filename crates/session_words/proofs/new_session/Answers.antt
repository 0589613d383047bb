-- `session_words::new_session` meets its contract.
use mathlib.Core.Path.{sym, ap, ◌∙◌}
use Rattle.reuse_rows.specs.Rows.{placed}
use Rattle.summary_calls.specs.Calls.{Wrote}
use Rattle.session_layout.specs.Layout.{session_laid}
use Rattle.session_words.proofs.Kept.{new-short, new-all}
use Rattle.session_words.proofs.new_session.Goals as goal

pub returns-then-words-lt-SESSION : goal.returns-then-words-lt-SESSION
returns-then-words-lt-SESSION c =
    let e = new-short _ c.if-words-lt-SESSION.true in
    (sym (ap (λ (v : Wrote). v.answer) e), sym (ap (λ (v : Wrote). v.buffer) e))

pub returns : goal.returns
returns c =
    let e = new-all _ c.if-words-lt-SESSION.false in (
      sym (ap (λ (v : Wrote). v.answer) e),
      c.put_session.ensures ∙ ap (λ s. placed c.args.words.now 0 (session_laid s)) c.new.ensures ∙ sym (ap (λ (v : Wrote). v.buffer) e),
    )
