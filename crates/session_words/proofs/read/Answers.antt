-- `session_words::read` meets its contract.
use Rattle.std.proofs.Common.{◌≡◌, Ok, sym, ap, ◌∙◌, rules}
use Rattle.session.specs.Sessions.{Wide}
use Rattle.session.specs.declared.Step.{Step}
use Rattle.session_layout.proofs.Laid.{laid-fits}
use Rattle.session_words.specs.Calls.{read_in, held_in, session_left}
use Rattle.session_words.proofs.Kept.{read-held, read-unheld, kept-held, unkept-held, held-enough, left-read, left-refused}
use Rattle.session_words.proofs.read.Goals as goal
use Rattle.session_words.proofs.read.Goals.{After-read-step, In-Some}

-- the words hold the session
held : (c : In-Some) → held_in c.args.words.now ≡ Ok c.in-Some.session
held c = kept-held _ (sym c.session_in.ensures ∙ c.in-Some.is)

-- the read is that of the session in the words
stepped : (c : After-read-step) → c.read-step.result ≡ read_in c.args.words.now c.args.extent
stepped c = c.read-step.ensures ∙ read-held _ (kept-held _ (sym c.session_in.ensures ∙ c.in-Some.is)) _

-- the session after the read has its widths
wide : (c : After-read-step) → Wide c.read-step.result.session
wide c = search rules

pub returns-in-None : goal.returns-in-None
returns-in-None c =
    let e = read-unheld _ (unkept-held _ (sym c.session_in.ensures ∙ c.in-None.is)) _ in
    (sym (ap (λ (v : Step). v.answer) e), sym (ap (λ (v : Step). session_left v.answer v.session c.args.words.now) e))

pub returns-then-is_ok : goal.returns-then-is_ok
returns-then-is_ok c =
    let b = goal.at.returns-then-is_ok c in
    let e = stepped b.After-read-step in
    let d = c.read-step.result in (
      ap (λ (v : Step). v.answer) e,
      c.put_session.ensures ∙ laid-fits d.session (wide b.After-read-step) _ (held-enough _ (held b.In-Some))
          ∙ sym (left-read d.answer d.session _ (sym c.is_ok.ensures.value ∙ c.if-is_ok.true))
          ∙ ap (λ (v : Step). session_left v.answer v.session c.args.words.now) e,
    )

pub returns-else-is_ok : goal.returns-else-is_ok
returns-else-is_ok c =
    let b = goal.at.returns-else-is_ok c in
    let e = stepped b.After-read-step in
    let d = c.read-step.result in (
      ap (λ (v : Step). v.answer) e,
      sym (left-refused d.answer d.session _ (sym c.is_ok.ensures.value ∙ c.if-is_ok.false))
          ∙ ap (λ (v : Step). session_left v.answer v.session c.args.words.now) e,
    )
