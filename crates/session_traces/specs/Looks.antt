-- The slots that a read looks at (02, 'Look for the newest mark first').
use Rattle.std.specs.Prelude.{ℕ, ◌-◌, ◌≤◌, ◌<◌, ◌≡◌, ◌↔◌, reverse, true, false, length, get_or}
use Rattle.reuse.specs.Limits.{max_reads, slot_count}
use Rattle.reuse.specs.Lists.{mem, from}
use Rattle.session_calls.specs.Reads.{too_many, slots_looked}
use Rattle.session.specs.declared.Session.{Session}
use Rattle.session.specs.Sessions.{Wide, marks, old_of, stack_of, sound}
use Rattle.session.specs.Reads.{roomed, slot_of, looked_at, read_of}

-- what an accepted read of x looks at, after any move of the marks
pub record Look (s : Session) (x : ℕ) : Type 0 where
  -- the answer tells how many slots the search looks at
  pub tells : slots_looked (read_of s x).answer ≡ length (looked_at (roomed s) x)
  -- for a known extent these are the slots from the newest down to its own mark
  pub known : mem x (stack_of s) ≡ true → looked_at (roomed s) x ≡ reverse (from (slot_of (roomed s) x) ((roomed s).next - slot_of (roomed s) x))
  -- which is its only one: a slot is marked and holds it exactly if it is that slot
  pub one-mark : mem x (stack_of s) ≡ true → (k : ℕ) → ((get_or (marks (roomed s)) k 0 ≡ 1) × (get_or (roomed s).slots k 0 ≡ x)) ↔ (k ≡ slot_of (roomed s) x)
  -- for a new extent they are all slots below next
  pub new : mem x (stack_of s) ≡ false → looked_at (roomed s) x ≡ reverse (from 0 (roomed s).next)
  -- so no more than next, and this is one of the slots
  pub most : slots_looked (read_of s x).answer ≤ (roomed s).next
  pub room : (roomed s).next < slot_count

-- of every sound session, whether or not a log gave it
abbrev pub Looks : Type 0
Looks = (s : Session) → Wide s → sound s ≡ true → (x : ℕ) → s.reads < max_reads → too_many (old_of s) x ≡ false → Look s x
