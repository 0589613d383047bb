-- `session_summary::misses` meets its contract. The reads less the hits are the misses.
use Rattle.std.specs.Prelude.{Ok}
use mathlib.Core.Path.{◌≡◌, sym, ap, ◌∙◌}
use mathlib.Core.Bool.{true}
use Prim.Native.Nat.{◌-◌}
use native.Mathlib.Omega.{arith}
use Rattle.reuse.specs.Summary.{misses_of}
use Rattle.session.specs.Sessions.{Wide, old_of, sound}
use Rattle.session_summary.specs.Summaries.{session_words, misses_call}
use Rattle.session_calls.proofs.Summaries.{hits-reads, hits_few}
use Rattle.session_summary.proofs.Summaries.{rows, misses-given}
use borrow.Author.Rules.{rules}
use Rattle.session_summary.proofs.misses.Goals as goal
use Rattle.session_summary.proofs.misses.Goals.{Then-sound}

-- the widths of the session's arrays
wide : (c : Then-sound) → Wide c.args.s
wide c = record { first-wide = search rules; hist-wide = search rules; slots-wide = search rules; rights-wide = search rules }

-- the session is sound
ok : (c : Then-sound) → sound c.args.s ≡ true
ok c = sym c.sound.ensures ∙ c.if-sound.true

pub returns-else-sound : goal.returns-else-sound
unfolding misses_call
returns-else-sound c = sym (simp (sym c.sound.ensures ∙ c.if-sound.false))

pub hits-requires : goal.hits-requires
hits-requires c = ok c

pub overflow_sub-result : goal.overflow_sub-result
overflow_sub-result c =
    let b = (goal.at.overflow_sub-result c).Then-sound in
    omega (arith, hits_few (old_of c.args.s) (rows c.args.s (wide b) (ok b)) _ _ c.hits.ensures)

pub returns-then-sound : goal.returns-then-sound
returns-then-sound c =
    let b = (goal.at.returns-then-sound c).Then-sound in
    let s = c.args.s in
    let w = wide b in
    let o = ok b in
    let n : misses_of (session_words s) c.args.size ≡ s.reads - c.hits.result = omega (arith, c.hits.ensures, hits-reads (old_of s) (rows s w o) c.args.size) in
    sym (misses-given s w o c.args.size ∙ ap Ok n)
