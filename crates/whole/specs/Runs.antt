-- Runs of read calls, and what calls hand over.
use Rattle.std.specs.Prelude.{ℕ, ◌+◌, ◌*◌, List, [], ◌∷◌, Bool, leb, length, take, Result, Ok, Err}
use Rattle.reuse.specs.declared.refusals.Refusal.{Refusal}
use Rattle.reuse.specs.Refusals.{refusal_number}
use Rattle.reuse.specs.Lists.{firsts}
use Rattle.reuse.specs.Lru.{cold, at}
use Rattle.reuse.specs.Written.{word_of}
use Rattle.summary_calls.specs.Calls.{Wrote}
use Rattle.plan_calls.specs.Calls.{Ran}
use Rattle.session.specs.declared.Session.{Session}
use Rattle.session_calls.specs.declared.Answer.{Answer}
use Rattle.session_calls.specs.declared.Answer.TheVariants.{Cold, Distance}
use Rattle.session.specs.Reads.{read_of}

-- the session after a list of read calls: each gets the session that the last returned, refused or not
unfoldable pub session_after : Session → List ℕ → Session
session_after s [] = s
session_after s (x ∷ xs) = session_after (read_of s x).session xs

-- what these calls answer
unfoldable pub answers_of : Session → List ℕ → List (Result Answer Refusal)
answers_of s [] = []
answers_of s (x ∷ xs) = (read_of s x).answer ∷ answers_of (read_of s x).session xs

-- an answer as the distance buffer writes it; a refusal, which none is here, as 0
abbrev pub written : Result Answer Refusal → ℕ
written (Ok (Cold n k)) = word_of (cold n)
written (Ok (Distance d n k)) = word_of (at d)
written (Err why) = 0

-- a read joins those accepted unless it was refused
abbrev pub keep : Result Answer Refusal → ℕ → List ℕ → List ℕ
keep (Ok (Cold n k)) x xs = x ∷ xs
keep (Ok (Distance d n k)) x xs = x ∷ xs
keep (Err why) x xs = xs

-- the reads of these calls that were accepted
unfoldable pub accepted : Session → List ℕ → List ℕ
accepted s [] = []
accepted s (x ∷ xs) = keep (read_of s x).answer x (accepted (read_of s x).session xs)

-- what a call gives, or nothing but the number of its refusal
pub data Reply (A : Type 0) : Type 0 where
  gives : A → Reply A
  refused : ℕ → Reply A

-- what is handed over after a call that writes words: the words answered
abbrev pub Outcome : Type 0
Outcome = Reply (List ℕ)

-- by the answer and the buffer
abbrev pub outcome_of : Result ℕ Refusal → List ℕ → Outcome
outcome_of (Ok n) buffer = gives (take n buffer)
outcome_of (Err why) buffer = refused (refusal_number why)

-- of a call
abbrev pub outcome : Wrote → Outcome
outcome w = outcome_of w.answer w.buffer

-- of a plan's call
abbrev pub planned : Ran → Outcome
planned r = outcome_of r.answer r.out

-- a buffer has room for the summary of a log
abbrev pub room_for : List ℕ → List ℕ → Bool
room_for log buffer = leb (2 + 3 * length (firsts log)) (length buffer)
