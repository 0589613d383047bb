-- Runs of calls: reads, namings and returns in any order from a new session, with words lent for the names.
use Rattle.std.specs.Prelude.{ℕ, ◌≡◌, List, [], ◌∷◌, false, Result}
use Rattle.reuse.specs.declared.refusals.Refusal.{Refusal}
use Rattle.session.specs.declared.Session.{Session}
use Rattle.session_calls.specs.declared.Answer.{Answer}
use Rattle.session.specs.Sessions.{fresh}
use Rattle.session.specs.Reads.{read_of}
use Rattle.moments.specs.Names.{is_set, name_call, return_call}
use Rattle.moments.specs.Refusals.{moment_refusal}
use Rattle.whole.specs.Runs.{gives, refused}
use Rattle.whole.specs.Owed.{Seen, seen_of}

-- a call: a read of an extent, a naming of the present session, a return to a name
pub data Call : Type 0 where
  read : ℕ → Call
  name : ℕ → Call
  return_to : ℕ → Call

-- what a call answers: a read's answer, or that of a naming or a return
pub data Told (A : Type 0) : Type 0 where
  reading : A → Told A
  moment : Result Unit Refusal → Told A

-- a read's answer without its counts of sums and slots
abbrev pub heard : Told (Result Answer Refusal) → Told Seen
heard (reading a) = reading (seen_of a)
heard (moment a) = moment a

-- the number of a refusal; 0 for any other answer
abbrev pub refusal_of : Told Seen → ℕ
refusal_of (reading (gives r)) = 0
refusal_of (reading (refused n)) = n
refusal_of (moment a) = moment_refusal a

-- what the calls work on: the present session, and the words lent for the names
pub record State : Type 0 where
  pub session : Session
  pub names : List ℕ

-- what a call answers
abbrev pub told : State → Call → Told (Result Answer Refusal)
told s (read x) = reading (read_of s.session x).answer
told s (name k) = moment (name_call s.session s.names k).answer
told s (return_to k) = moment (return_call s.session s.names k).answer

-- and leaves
abbrev pub left : State → Call → State
left s (read x) = record { session = (read_of s.session x).session; names = s.names }
left s (name k) = record { session = s.session; names = (name_call s.session s.names k).names }
left s (return_to k) = record { session = (return_call s.session s.names k).session; names = s.names }

-- after a list of calls: each gets what the last one left, refused or not
unfoldable pub state_after : State → List Call → State
state_after s [] = s
state_after s (c ∷ cs) = state_after (left s c) cs

-- what these calls answer
unfoldable pub told_by : State → List Call → List (Told (Result Answer Refusal))
told_by s [] = []
told_by s (c ∷ cs) = told s c ∷ told_by (left s c) cs

-- a new session, and these words for the names
abbrev pub begun : List ℕ → State
begun names = record { session = fresh; names = names }

-- no name is set in these words
abbrev pub Unset : List ℕ → Type 0
Unset names = (k : ℕ) → is_set names k ≡ false
