-- What the private parts of a call rely on: each is shown from the call's own test of soundness.
use Rattle.std.specs.Prelude.{ℕ, suc, ◌-◌, ◌≤◌, ◌<◌, ◌≡◌, true, length, drop, get_or}
use Rattle.reuse.specs.Limits.{max_reads, max_extents, slot_count}
use Rattle.reuse.specs.Lists.{sum}
use Rattle.session_marks.specs.Marks.{tidy}
use Rattle.session_calls.specs.Sessions as full
use Rattle.session.specs.declared.Session.{Session}
use Rattle.session.specs.Sessions.{new_of, old_of}
use Rattle.session.specs.Reads.{slot_of}

-- the marks of the old session, which the session corresponds to: as many as the slots, and no more of them set
pub record Summed (s : Session) : Type 0 where
  pub new : new_of (old_of s) ≡ s
  pub wide : length (full.marks (old_of s)) ≡ slot_count
  pub few : full.extents (old_of s) ≤ max_extents

-- the mark of x stands in slot k, after so many slots looked at, and can move to next
pub record Movable (s : Session) (x k looked : ℕ) : Type 0 where
  pub summed : Summed s
  pub here : k ≡ slot_of s x
  pub seen : looked ≡ s.next - k
  pub below : k < s.next
  pub room : s.next < slot_count
  pub held : get_or (full.marks (old_of s)) k 0 ≡ 1
  pub free : get_or (full.marks (old_of s)) s.next 0 ≡ 0
  pub behind : sum (drop (suc k) (full.marks (old_of s))) < max_extents
  pub counted : get_or s.hist (sum (drop (suc k) (full.marks (old_of s)))) 0 ≤ max_reads
  pub short : s.reads < max_reads

-- a new extent, after so many slots looked at, can have a mark at next
pub record Enterable (s : Session) (looked : ℕ) : Type 0 where
  pub summed : Summed s
  pub seen : looked ≡ s.next
  pub room : s.next < slot_count
  pub free : get_or (full.marks (old_of s)) s.next 0 ≡ 0
  pub few : full.extents (old_of s) < max_extents
  pub short : s.reads < max_reads

-- the marks can move to the first slots
pub record Gatherable (s : Session) : Type 0 where
  pub summed : Summed s
  pub slots-wide : length s.slots ≡ slot_count
  pub neat : tidy (full.marks (old_of s)) s.slots ≡ true
