-- `session_summary::share` meets its contract.
use Rattle.std.specs.Prelude.{Ok}
use mathlib.Core.Path.{◌≡◌, sym, ap, ◌∙◌}
use mathlib.Core.Bool.{true}
use Prim.Native.Nat.{ℕ, ◌-◌}
use Rattle.reuse.specs.Summary.{hits_of, servable_of}
use Rattle.summary_calls.specs.Calls.{share_of}
use Rattle.session.specs.Sessions.{Wide, old_of, sound}
use Rattle.session_summary.specs.Summaries.{session_words, share_call}
use native.Mathlib.Omega.{arith}
use Rattle.session_calls.proofs.Summaries.{servable-session, extents-reads}
use Rattle.session_summary.proofs.Summaries.{rows, count-extents, share-given}
use borrow.Author.Rules.{rules}
use Rattle.session_summary.proofs.share.Goals as goal
use Rattle.session_summary.proofs.share.Goals.{Else-not-sound, Start}

-- the widths of the session's arrays
wide : (c : Start) → Wide c.args.s
wide c = record { first-wide = search rules; hist-wide = search rules; slots-wide = search rules; rights-wide = search rules }

-- the session is sound
ok : (c : Else-not-sound) → sound c.args.s ≡ true
ok c = sym c.sound.ensures ∙ c.if-not-sound.false

pub returns-then-not-sound : goal.returns-then-not-sound
unfolding share_call
returns-then-not-sound c = sym (simp (sym c.sound.ensures ∙ c.if-not-sound.true))

pub overflow_sub-servable : goal.overflow_sub-servable
overflow_sub-servable c =
    let b = goal.at.overflow_sub-servable c in
    let w = wide b.Start in
    let o = ok b.Else-not-sound in
    omega (arith, count-extents c.args.s w o, extents-reads (old_of c.args.s) (rows c.args.s w o))

pub hits-hit-requires : goal.hits-hit-requires
hits-hit-requires c = ok (goal.at.hits-hit-requires c).Else-not-sound

pub returns : goal.returns
returns c =
    let b = goal.at.returns c in
    let w = wide b.Start in
    let o = ok b.Else-not-sound in
    let s = c.args.s in
    let n : s.reads - s.count ≡ servable_of (session_words s) = ap (λ (v : ℕ). s.reads - v) (count-extents s w o) ∙ sym (servable-session (old_of s) (rows s w o)) in
    ap Ok
    (c.share_of.ensures
    ∙ ap (λ (h : ℕ). share_of h (s.reads - s.count)) c.hits-hit.ensures
    ∙ ap (share_of (hits_of (session_words s) c.args.size)) n)
    ∙ sym (share-given s w o c.args.size)
