-- Runs of calls with the present session in lent words, as C keeps it.
use Rattle.std.specs.Prelude.{ℕ, ◌≡◌, List, [], ◌∷◌, Result}
use Rattle.reuse.specs.declared.refusals.Refusal.{Refusal}
use Rattle.reuse_rows.specs.Rows.{put_at}
use Rattle.session_calls.specs.declared.Answer.{Answer}
use Rattle.session_layout.specs.Layout.{session_laid}
use Rattle.session_words.specs.Calls.{new_session, read_in, session_left}
use Rattle.moments_words.specs.Calls.{name_in, return_in}
use Rattle.whole.specs.Moments.{Call, read, name, return_to, Told, reading, moment, state_after, told_by, begun}

-- what the calls work on: the words that hold the present session, and those lent for the names
pub record Rows : Type 0 where
  pub words : List ℕ
  pub names : List ℕ

-- what a call answers
abbrev pub told_in : Rows → Call → Told (Result Answer Refusal)
told_in r (read x) = reading (read_in r.words x).answer
told_in r (name k) = moment (name_in r.words r.names k).answer
told_in r (return_to k) = moment (return_in r.words r.names k).answer

-- and leaves
abbrev pub left_in : Rows → Call → Rows
left_in r (read x) = record { words = session_left (read_in r.words x).answer (read_in r.words x).session r.words; names = r.names }
left_in r (name k) = record { words = r.words; names = (name_in r.words r.names k).names }
left_in r (return_to k) = record { words = (return_in r.words r.names k).words; names = r.names }

-- after a list of calls: each gets what the last one left, refused or not
unfoldable pub rows_after : Rows → List Call → Rows
rows_after r [] = r
rows_after r (c ∷ cs) = rows_after (left_in r c) cs

-- what these calls answer
unfoldable pub told_by_in : Rows → List Call → List (Told (Result Answer Refusal))
told_by_in r [] = []
told_by_in r (c ∷ cs) = told_in r c ∷ told_by_in (left_in r c) cs

-- the words of a new session at the front of w, and these words for the names
abbrev pub begun_in : List ℕ → List ℕ → Rows
begun_in w names = record { words = (new_session w).buffer; names = names }

-- what holds of a list of calls: it answers what it does by value, and leaves the words of that session and those names
pub record InWords (w names : List ℕ) (calls : List Call) : Type 0 where
  pub answers : told_by_in (begun_in w names) calls ≡ told_by (begun names) calls
  pub session : (rows_after (begun_in w names) calls).words ≡ put_at w 0 (session_laid (state_after (begun names) calls).session)
  pub named : (rows_after (begun_in w names) calls).names ≡ (state_after (begun names) calls).names
