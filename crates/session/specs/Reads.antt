-- What a read answers, and the session after it, on every session: what the session with all sums does.
use Rattle.reuse.specs.declared.refusals.Refusal.{Refusal}
use Rattle.std.specs.Prelude.{ℕ, List, cond, Err}
use Rattle.reuse.specs.declared.refusals.Refusal.TheVariants.{Unsound}
use Rattle.reuse.specs.Lru.{Reuse}
use Rattle.session_calls.specs.Reads as full
use Rattle.session_calls.specs.Reads.{FullStep}
use Rattle.session.specs.declared.Session.{Session}
use Rattle.session.specs.declared.Step.{Step}
use Rattle.session.specs.Sessions.{new_of, old_of, sound}

-- a step of an old session as one of new ones: the same answer, and the session that corresponds
abbrev pub new_step : FullStep → Step
new_step r = record { session = new_of r.session; answer = r.answer }

-- the marks moved, in order, to the slots 0 to v - 1; next is v
unfoldable pub gathered : Session → Session
gathered s = new_of (full.gathered (old_of s))

-- with room for one more: gathered where no slot is left
unfoldable pub roomed : Session → Session
roomed s = new_of (full.roomed (old_of s))

-- the slot of the mark of x
abbrev pub slot_of : Session → ℕ → ℕ
slot_of s x = full.slot_of (old_of s) x

-- the slots that the search for x looks at, one by one
abbrev pub looked_at : Session → ℕ → List ℕ
looked_at s x = full.looked_at (old_of s) x

-- a read that is accepted, by the place of x in the LRU stack
abbrev pub step_at : Session → ℕ → Reuse → Step
step_at s x r = new_step (full.step_at (old_of s) x r)

-- the refusal n, with the session as it was
abbrev pub refused : Session → Refusal → Step
refused s n = record { session = s; answer = Err n }

-- a read of x: 7 where the session corresponds to no sound old one, or else what the old one answers, and the session that
-- corresponds to the one after it
unfoldable pub read_of : Session → ℕ → Step
read_of s x = cond (sound s) (new_step (full.read_of (old_of s) x)) (refused s Unsound)
