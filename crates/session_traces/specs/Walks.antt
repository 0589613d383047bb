-- The distance of a read by the right-hand sums over the marks (01, 'Session, slots and sums'; 02, 'Keep right-hand sums alone').
use Rattle.std.specs.Prelude.{ℕ, suc, ◌-◌, ◌<◌, ◌≡◌, List, map, true, length, get_or, Ok}
use Rattle.reuse.specs.Limits.{max_reads, levels}
use Rattle.reuse.specs.Lists.{mem, sum}
use Rattle.session_sums.specs.Sums.{zeros}
use Rattle.session_rights.specs.Ways.{from_left}
use Rattle.session_calls.specs.declared.Answer.TheVariants.{Distance}
use Rattle.session.specs.declared.Session.{Session}
use Rattle.session.specs.Sessions.{Wide, stack_of, sound}
use Rattle.session.specs.Reads.{roomed, slot_of, read_of}

-- the branching points on the way up from the slot of x, wherever the way leaves a left child
abbrev pub on_the_way : Session → ℕ → List ℕ
on_the_way s x = from_left levels 0 (slot_of s x)

-- the total of a session's right-hand sums at these points
abbrev pub total_at : Session → List ℕ → ℕ
total_at s points = sum (map (λ p. get_or s.rights p 0) points)

-- what an accepted read of a known extent answers, after any move of the marks: 1 plus the total of the right-hand sums on
-- the way up, how many they are, which is the number of zeros of the slot's number, and the slots looked at
pub record Walk (s : Session) (x : ℕ) : Type 0 where
  pub answer : (read_of s x).answer ≡ Ok (Distance (suc (total_at (roomed s) (on_the_way (roomed s) x))) (length (on_the_way (roomed s) x)) ((roomed s).next - slot_of (roomed s) x))
  pub zeros-read : length (on_the_way (roomed s) x) ≡ zeros levels (slot_of (roomed s) x)

-- of every sound session, whether or not a log gave it
abbrev pub Walks : Type 0
Walks = (s : Session) → Wide s → sound s ≡ true → (x : ℕ) → mem x (stack_of s) ≡ true → s.reads < max_reads → Walk s x
