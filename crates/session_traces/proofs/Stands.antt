-- A session that has read a trace: it corresponds to one with all sums that has.
use Prim.Native.Nat.{ℕ}
use mathlib.Core.Path.{◌≡◌, sym, subst}
use mathlib.Core.List.{List, []}
use mathlib.Core.Bool.{true}
use Rattle.session_calls.specs.Sessions as full
use Rattle.session_calls.specs.Sessions.{FullSession}
use Rattle.session_calls.specs.Reads as full-reads
use Rattle.session.specs.declared.Session.{Session}
use Rattle.session.specs.Sessions.{Wide, new_of, old_of, fresh, sound}
use Rattle.session.specs.Reads.{roomed}
use Rattle.session_calls.proofs.Sound.{true-sound}
use Rattle.session_calls.proofs.Taken.{Roomed, kept-roomed}
use Rattle.session_calls.proofs.Stands as old
use Rattle.session.proofs.Corresponds.{Facts, sound-facts, old-new, old-kept, new-wide, new-sound, fresh-new}

-- s has read exactly the trace t: it is sound, and the session that it corresponds to has read t
pub record Stands (s : Session) (t : List ℕ) : Type 0 where
  pub wide : Wide s
  pub is-sound : sound s ≡ true
  pub full-stands : old.Stands (old_of s) t

-- the new session of one that has read t has read t
pub stands-new : (o : FullSession) (t : List ℕ) → old.Stands o t → Stands (new_of o) t
stands-new o t g =
    let f = true-sound o g.wide g.is-sound in
    record {
      wide = new-wide o f.kept;
      is-sound = new-sound o f.kept f.short;
      full-stands = subst (λ (r : FullSession). old.Stands r t) (sym (old-new o f.kept)) g;
    }

-- a new session stands for the empty trace
pub fresh-stands : Stands fresh []
fresh-stands = subst (λ (s : Session). Stands s []) fresh-new (stands-new full.fresh [] old.fresh-stands)

-- what the test of it says
pub stands-facts : (s : Session) (t : List ℕ) → Stands s t → Facts s
stands-facts s t g = sound-facts s g.wide g.is-sound

module _ (s : Session) (f : Facts s) where
  -- room in the old session
  pub old-room : Roomed (old_of s) (full-reads.roomed (old_of s))
  old-room = kept-roomed (old_of s) (old-kept s f).kept

  -- the session with room corresponds to the old one with room
  pub old-roomed : old_of (roomed s) ≡ full-reads.roomed (old_of s)
  unfolding roomed
  old-roomed = old-new (full-reads.roomed (old_of s)) old-room.kept
