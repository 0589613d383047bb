-- What is remembered, said of logs alone: the log now and the log under each name, and what each call must answer.
use Rattle.std.specs.Prelude.{ℕ, List, [], ◌∷◌, Bool, true, cond, not, ◌&&◌, eqb, Result, Ok, Err}
use Rattle.reuse.specs.declared.refusals.Refusal.{Refusal}
use Rattle.reuse.specs.declared.refusals.Refusal.TheVariants.{OutOfRange, NoRoom, NameNotSet}
use Rattle.moments.specs.Names.{is_name, lies}
use Rattle.whole.specs.Owed.{Seen, read_owed, grown}
use Rattle.whole.specs.Moments.{Call, read, name, return_to, Told, reading, moment}

-- what a name remembers: nothing, or a log
pub data Moment : Type 0 where
  none : Moment
  log : List ℕ → Moment

-- the log now, and what each name remembers
pub record Memory : Type 0 where
  pub now : List ℕ
  pub under : ℕ → Moment

-- the beginning: no reads, and no name remembers anything
abbrev pub nothing : Memory
nothing = record { now = []; under = λ k. none }

-- what a naming of k must answer, with so many words lent: 2 for a number that is no name, 6 for a place past the words
abbrev pub name_owed : ℕ → ℕ → Result Unit Refusal
name_owed lent k = cond (is_name k) (cond (lies lent k) (Ok tt) (Err NoRoom)) (Err OutOfRange)

-- what the names remember after it: k the log now; a refused naming leaves what they do
abbrev pub noted : Result Unit Refusal → Memory → ℕ → (ℕ → Moment)
noted (Ok tt) m k = λ j. cond (eqb j k) (log m.now) (m.under j)
noted (Err why) m k = m.under

-- what a return to this must answer: 11 where nothing is remembered
abbrev pub moment_owed : Moment → Result Unit Refusal
moment_owed none = Err NameNotSet
moment_owed (log t) = Ok tt

-- the log after it: the one that is remembered; a refused return leaves the log
abbrev pub brought_back : Moment → List ℕ → List ℕ
brought_back none t = t
brought_back (log u) t = u

-- what a call must answer; a number that is no name is 2
abbrev pub owed_for : ℕ → Memory → Call → Told Seen
owed_for lent m (read x) = reading (read_owed m.now x)
owed_for lent m (name k) = moment (name_owed lent k)
owed_for lent m (return_to k) = moment (cond (is_name k) (moment_owed (m.under k)) (Err OutOfRange))

-- what is remembered after it: an accepted read goes to the end of the log, a naming copies the log, a return brings the
-- copy back, a refused call changes nothing
abbrev pub then : ℕ → Memory → Call → Memory
then lent m (read x) = record { now = grown (read_owed m.now x) m.now x; under = m.under }
then lent m (name k) = record { now = m.now; under = noted (name_owed lent k) m k }
then lent m (return_to k) = record { now = cond (is_name k) (brought_back (m.under k) m.now) m.now; under = m.under }

-- what is remembered after a list of calls, with so many words lent for the names
unfoldable pub remember : ℕ → Memory → List Call → Memory
remember lent m [] = m
remember lent m (c ∷ cs) = remember lent (then lent m c) cs

-- what each of these calls must answer
unfoldable pub owed_by : ℕ → Memory → List Call → List (Told Seen)
owed_by lent m [] = []
owed_by lent m (c ∷ cs) = owed_for lent m c ∷ owed_by lent (then lent m c) cs

-- the log that a list of calls from the beginning remembers
unfoldable pub remembered : ℕ → List Call → List ℕ
remembered lent calls = (remember lent nothing calls).now

-- none of these calls names k
unfoldable pub spares : ℕ → List Call → Bool
spares k [] = true
spares k (read x ∷ cs) = spares k cs
spares k (name j ∷ cs) = not (eqb k j) && spares k cs
spares k (return_to j ∷ cs) = spares k cs

-- the refusals that are ever owed; 0 stands for none
abbrev pub owed_refusals : List ℕ
owed_refusals = 0 ∷ 2 ∷ 6 ∷ 8 ∷ 9 ∷ 11 ∷ []
