-- `session_words::share` meets its contract.
use Rattle.std.proofs.Common.{sym, ◌∙◌}
use Rattle.session_words.proofs.Kept.{share-held, share-unheld, kept-held, unkept-held}
use Rattle.session_words.proofs.share.Goals as goal

pub returns-in-None : goal.returns-in-None
returns-in-None c = sym (share-unheld _ (unkept-held _ (sym c.session_in.ensures ∙ c.in-None.is)) _)

pub returns-in-Some : goal.returns-in-Some
returns-in-Some c = c.share.ensures ∙ share-held _ (kept-held _ (sym c.session_in.ensures ∙ c.in-Some.is)) _
