-- The slots that a read looks at: of every sound session, and of one that has read a trace; they are those of the session with all sums.
use Prim.Native.Nat.{ℕ}
use mathlib.Core.Path.{◌≡◌, ap, ◌∙◌}
use mathlib.Core.List.{List, [], ◌∷◌, ◌++◌}
use mathlib.Core.Bool.{true, false}
use lib.Dec.{eqb}
use lib.ListN.{length}
use Rattle.reuse.specs.Limits.{max_reads}
use Rattle.session_calls.specs.Sessions as full
use Rattle.session_calls.specs.Reads as full-reads
use Rattle.session_calls.specs.Reads.{slots_looked}
use Rattle.session_calls.specs.Looks as full-looks
use Rattle.session.specs.declared.Session.{Session}
use Rattle.session.specs.declared.Step.{Step}
use Rattle.session.specs.Sessions.{Wide, new_of, marks, old_of, sound}
use Rattle.session.specs.Reads.{roomed, read_of}
use Rattle.session_traces.specs.Looks.{Look, Looks}
use Rattle.session_calls.proofs.Read.{read-stands as stands-on}
use Rattle.session_calls.proofs.Looks as old
use Rattle.session.proofs.Corresponds.{sound-facts, old-sound, new-marks, read-new}
use Rattle.session_traces.proofs.Stands.{Stands, old-room, old-roomed}
use Rattle.session_traces.proofs.Read.{over, read-old}

-- what the old session's read looks at, the session's looks at
look-new : (s : Session) → Wide s → sound s ≡ true → (x : ℕ) → full-looks.Look (old_of s) x → Look s x
unfolding roomed
look-new s w ok x h =
    let f = sound-facts s w ok in
    let ro = full-reads.roomed (old_of s) in
    let e : old_of (new_of ro) ≡ ro = unfold roomed in old-roomed s f in
    let ms : marks (new_of ro) ≡ full.marks ro = new-marks ro (old-room s f).kept in
    let told : slots_looked (read_of s x).answer ≡ slots_looked (full-reads.read_of (old_of s) x).answer = ap (λ (r : Step). slots_looked r.answer) (read-old s w ok x) in
    record {
      tells = rw (told, e) h.tells;
      known = rw e h.known;
      one-mark = rw (e, ms) h.one-mark;
      new = rw e h.new;
      most = rw told h.most;
      room = h.room;
    }

-- of every sound session
pub looks : Looks
looks s w ok x short few = let p = old-sound s (sound-facts s w ok) in look-new s w ok x (old.looks (old_of s) p.0 p.1 x short few)

module _ (s : Session) (t : List ℕ) (g : Stands s t) (x : ℕ) (short : eqb (length t) max_reads ≡ false) (few : over t x ≡ false) where
  -- what a read looks at after a trace
  pub trace-look : Look s x
  trace-look = look-new s g.wide g.is-sound x (old.trace-look (old_of s) t g.full-stands x short few)

  -- one more of the same extent looks at one slot
  pub read_again : eqb (length (t ++ (x ∷ []))) max_reads ≡ false → slots_looked (read_of (read_of s x).session x).answer ≡ 1
  read_again more =
      let o = (full-reads.read_of (old_of s) x).session in
      let h = stands-on (old_of s) t g.full-stands x short few in
      let after : (read_of s x).session ≡ new_of o = ap (λ (r : Step). r.session) (read-old s g.wide g.is-sound x) in
      rw after
      (ap (λ (r : Step). slots_looked r.answer) (read-new o h.wide h.is-sound x)
      ∙ old.read_again (old_of s) t g.full-stands x short few more)
