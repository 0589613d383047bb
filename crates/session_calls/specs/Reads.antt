-- What a read answers, and the session after it, on every session with all sums.
use Rattle.std.specs.Prelude.{ℕ, suc, ◌-◌, List, ◌++◌, Bool, cond, not, ◌&&◌, eqb, get_or, set, replicate, Result, Ok, Err}
use Rattle.reuse.specs.declared.refusals.Refusal.{Refusal}
use Rattle.reuse.specs.declared.refusals.Refusal.TheVariants.{Unsound, TooManyReads, TooManyExtents}
use Rattle.reuse.specs.Lists.{mem}
use Rattle.reuse.specs.Lru.{Reuse, cold, at, depth}
use Rattle.reuse.specs.Limits.{max_reads, max_extents, slot_count, levels}
use Rattle.session_calls.specs.Sessions.{FullSession, marks, extents, stack_of, sound}
use Rattle.session_calls.specs.declared.Answer.{Answer}
use Rattle.session_calls.specs.declared.Answer.TheVariants.{Cold, Distance}
use Rattle.session_sums.specs.Sums.{sums_of, zeros}
use Rattle.session_marks.specs.Marks.{marked, slot_from, looked_below}

-- the session after a read, beside the answer
pub record FullStep : Type 0 where
  pub answer : Result Answer Refusal
  pub session : FullSession

-- the marks moved, in order, to the slots 0 to v - 1; next is v
unfoldable pub gathered : FullSession → FullSession
gathered s =
    record {
      reads = s.reads;
      first = s.first;
      hist = s.hist;
      slots = marked (marks s) s.slots ++ replicate (slot_count - extents s) 0;
      sums = sums_of levels (replicate (extents s) 1 ++ replicate (slot_count - extents s) 0);
      next = extents s;
    }

-- with room for one more: gathered where no slot is left
unfoldable pub roomed : FullSession → FullSession
roomed s = cond (eqb s.next slot_count) (gathered s) s

-- the slot of the mark of x
unfoldable pub slot_of : FullSession → ℕ → ℕ
slot_of s x = slot_from (marks s) s.slots x

-- the slots that the search for x looks at, one by one: from the one below next down to the mark of x, or else to slot 0
unfoldable pub looked_at : FullSession → ℕ → List ℕ
looked_at s x = looked_below s.slots (marks s) x s.next

-- x again, at distance d: its mark moves to next
unfoldable pub moved : FullSession → ℕ → ℕ → FullSession
moved s x d =
    record {
      reads = suc s.reads;
      first = s.first;
      hist = set s.hist (d - 1) (suc (get_or s.hist (d - 1) 0));
      slots = set (set s.slots (slot_of s x) 0) s.next x;
      sums = sums_of levels (set (set (marks s) (slot_of s x) 0) s.next 1);
      next = suc s.next;
    }

-- x for the first time: a mark at next
unfoldable pub entered : FullSession → ℕ → FullSession
entered s x =
    record {
      reads = suc s.reads;
      first = set s.first (extents s) x;
      hist = s.hist;
      slots = set s.slots s.next x;
      sums = sums_of levels (set (marks s) s.next 1);
      next = suc s.next;
    }

-- a read that is accepted, by the place of x in the LRU stack: the sums read are the zeros of its slot's number, the slots
-- looked at are those from the one below next down to its slot, or all below next
abbrev pub step_at : FullSession → ℕ → Reuse → FullStep
step_at s x (cold n) = record { session = entered s x; answer = Ok (Cold n s.next) }
step_at s x (at d) = record { session = moved s x d; answer = Ok (Distance d (zeros levels (slot_of s x)) (s.next - slot_of s x)) }

-- a read that is accepted by a session with room
unfoldable pub taken : FullSession → ℕ → FullStep
taken s x = step_at s x (depth (stack_of s) x)

-- the refusal n, with the session as it was
abbrev pub refused : FullSession → Refusal → FullStep
refused s n = record { session = s; answer = Err n }

-- x would be one extent too many
unfoldable pub too_many : FullSession → ℕ → Bool
too_many s x = not (mem x (stack_of s)) && eqb (extents s) max_extents

-- a read of x: 7, 8, 9, or else accepted
unfoldable pub read_of : FullSession → ℕ → FullStep
read_of s x =
    cond (sound s)
    (cond (eqb s.reads max_reads)
    (refused s TooManyReads)
    (cond (too_many s x) (refused s TooManyExtents) (taken (roomed s) x)))
    (refused s Unsound)

-- the sums that an answer has read: a cold read and a refusal read none
abbrev pub sums_read : Result Answer Refusal → ℕ
sums_read (Ok (Cold n k)) = 0
sums_read (Ok (Distance d n k)) = n
sums_read (Err n) = 0

-- the slots that an answer tells were looked at: a refusal tells of none
abbrev pub slots_looked : Result Answer Refusal → ℕ
slots_looked (Ok (Cold n k)) = k
slots_looked (Ok (Distance d n k)) = k
slots_looked (Err n) = 0
