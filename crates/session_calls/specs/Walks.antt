-- The distance of a read by the sums over the marks (01, 'FullSession, slots and sums').
use Rattle.std.specs.Prelude.{ℕ, suc, ◌-◌, ◌<◌, ◌≡◌, List, map, true, length, get_or, Ok}
use Rattle.reuse.specs.Limits.{max_reads, slot_count, levels}
use Rattle.reuse.specs.Lists.{mem, sum}
use Rattle.session_sums.specs.Sums.{neighbours, zeros}
use Rattle.session_calls.specs.Sessions.{FullSession, FullWide, stack_of, sound}
use Rattle.session_calls.specs.declared.Answer.TheVariants.{Distance}
use Rattle.session_calls.specs.Reads.{roomed, slot_of, read_of}

-- the right-hand neighbours on the way up from the slot of x, wherever the way leaves a left child
abbrev pub on_the_way : FullSession → ℕ → List ℕ
on_the_way s x = neighbours slot_count levels (slot_of s x)

-- the total of a session's sums at these places
abbrev pub total_at : FullSession → List ℕ → ℕ
total_at s places = sum (map (λ p. get_or s.sums p 0) places)

-- what an accepted read of a known extent answers, after any move of the marks: 1 plus the total of the sums on the way
-- up, how many they are, which is the number of zeros of the slot's number, and the slots looked at
pub record Walk (s : FullSession) (x : ℕ) : Type 0 where
  pub answer : (read_of s x).answer ≡ Ok (Distance (suc (total_at (roomed s) (on_the_way (roomed s) x))) (length (on_the_way (roomed s) x)) ((roomed s).next - slot_of (roomed s) x))
  pub zeros-read : length (on_the_way (roomed s) x) ≡ zeros levels (slot_of (roomed s) x)

-- of every sound session, whether or not a log gave it
abbrev pub Walks : Type 0
Walks = (s : FullSession) → FullWide s → sound s ≡ true
    → (x : ℕ) → mem x (stack_of s) ≡ true → s.reads < max_reads → Walk s x
