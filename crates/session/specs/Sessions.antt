-- What a session means: the session with all sums that it corresponds to (02, 'Keep right-hand sums alone'), and when it is sound.
use Rattle.std.specs.Prelude.{ℕ, ◌≡◌, List, Bool, ◌&&◌, length, replicate}
use Rattle.reuse.specs.Limits.{max_extents, slot_count, right_count, levels}
use Rattle.session_sums.specs.Sums.{sums_of}
use Rattle.session_rights.specs.Rights.{rights_of, marks_from, rightly}
use Rattle.session_soundness.specs.declared.Fields.{Fields}
use Rattle.session_soundness.specs.Soundness.{sound_rows}
use Rattle.session_calls.specs.Sessions as full
use Rattle.session_calls.specs.Sessions.{FullSession}
use Rattle.session.specs.declared.Session.{Session}

-- a new session
abbrev pub fresh : Session
fresh = record {
  reads = 0;
  first = replicate max_extents 0;
  hist = replicate max_extents 0;
  slots = replicate slot_count 0;
  count = 0;
  rights = replicate right_count 0;
  next = 0;
}

-- the widths of a session's arrays
pub record Wide (s : Session) : Type 0 where
  pub first-wide : length s.first ≡ max_extents
  pub hist-wide : length s.hist ≡ max_extents
  pub slots-wide : length s.slots ≡ slot_count
  pub rights-wide : length s.rights ≡ right_count

-- fields that are a session's
pub record Lent (s : Session) (f : Fields) : Type 0 where
  pub reads : f.reads ≡ s.reads
  pub first : f.first.now ≡ s.first
  pub hist : f.hist.now ≡ s.hist
  pub slots : f.slots.now ≡ s.slots
  pub count : f.count ≡ s.count
  pub rights : f.rights.now ≡ s.rights
  pub next : f.next ≡ s.next

-- the new session of an old one: the count of its marks and their right-hand sums; all else as it is
abbrev pub new_of : FullSession → Session
new_of o = record {
  reads = o.reads;
  first = o.first;
  hist = o.hist;
  slots = o.slots;
  count = full.extents o;
  rights = rights_of levels (full.marks o);
  next = o.next;
}

-- the marks, worked out from the count and the right-hand sums
unfoldable pub marks : Session → List ℕ
marks s = marks_from levels s.count s.rights

-- the old session of a new one: all sums over its marks; all else as it is
abbrev pub old_of : Session → FullSession
old_of s = record {
  reads = s.reads;
  first = s.first;
  hist = s.hist;
  slots = s.slots;
  sums = sums_of levels (marks s);
  next = s.next;
}

-- a count and right-hand sums that some marks give, and all else sound over these marks
unfoldable pub sound : Session → Bool
sound s = rightly levels s.count s.rights && sound_rows s.reads s.first s.hist s.slots (marks s) s.next

-- v: how many slots are marked
abbrev pub extents : Session → ℕ
extents s = full.extents (old_of s)

-- the LRU stack that the slots hold, newest first
abbrev pub stack_of : Session → List ℕ
stack_of s = full.stack_of (old_of s)
