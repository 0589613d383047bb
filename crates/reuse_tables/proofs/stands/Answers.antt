-- `reuse_tables::stands` meets its contract.
use mathlib.Core.Path.{sym, ◌∙◌}
use Prim.Native.Nat.{◌-◌}
use Rattle.reuse.proofs.Lists.{mem-at}
use Rattle.reuse_tables.proofs.Lookups.{stands-past, stands-any}
use Rattle.reuse_tables.proofs.stands.Goals as goal

pub returns-then-p-eq0 : goal.returns-then-p-eq0
returns-then-p-eq0 c = c.beyond.ensures ∙ sym (stands-past _ _ _ c.if-p-eq0.true)

pub returns-then-words-i : goal.returns-then-words-i
returns-then-words-i c =
    let a = c.args in
    sym (stands-any _ _ _ c.if-p-eq0.false ∙ mem-at a.words.now (a.p - 1) a.x c.if-i-words.true c.if-words-i.true)

pub returns : goal.returns
returns c = c.contains.ensures ∙ sym (stands-any _ _ _ c.if-p-eq0.false)
