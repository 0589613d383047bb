-- A text taken line by line, byte by byte: each line ends with byte 10, and the earliest faulty line gives the refusal.
use Rattle.std.specs.Prelude.{◌≡◌, ℕ, zero, suc, pred, ◌≤◌, Bool, cond, eqb, length}
use mathlib.Core.List.{List, [], ◌∷◌, ◌++◌, foldl}
use Rattle.std.proofs.Math.Option.{Option, none, some}

-- what a line does to a state: a new state, or a refusal's number
pub data Answer (S : Type 0) : Type 0 where
  to : S → Answer S
  no : ℕ → Answer S

-- while a text is taken: the lines ended, the bytes held of the next one and the state; or the faulty line and the number
pub data Fed (S : Type 0) : Type 0 where
  at : ℕ → List ℕ → S → Fed S
  stopped : ℕ → ℕ → Fed S

-- what a whole text gives: its content, or the faulty line, counted from 1, and the refusal's number
pub data Read (T : Type 0) : Type 0 where
  got : T → Read T
  refused : ℕ → ℕ → Read T

-- the limits count, or only the rule of the texts: the number of a broken limit, or 0
abbrev pub counting : Bool → ℕ → ℕ
counting limits n = cond limits n 0

-- a line's answer, where a limit of this number is broken (0: none): 1 comes before a limit
unfoldable pub unless : {S : Type 0} → ℕ → Answer S → Answer S
unless zero a = a
unless (suc n) (to s) = no (suc n)
unless (suc n) (no m) = no m

-- after a line that k lines stand before
unfoldable pub line_done : {S : Type 0} → ℕ → Answer S → Fed S
line_done k (to s) = at (suc k) [] s
line_done k (no n) = stopped (suc k) n

-- `step` is what a line does to a state; `room` says whether a line of so many bytes may have one more
module _ {S : Type 0} (step : S → List ℕ → Answer S) (room : ℕ → Bool) where
  -- one byte: it ends a line, or is held, or makes a line too long
  unfoldable pub byte : Fed S → ℕ → Fed S
  byte (at k held s) x =
      cond (eqb x 10) (line_done k (step s held)) (cond (room (length held)) (at k (held ++ (x ∷ [])) s) (stopped (suc k) 1))
  byte (stopped k n) x = stopped k n

  -- bytes one after the other
  unfoldable pub feed_by : Fed S → List ℕ → Fed S
  feed_by f l = foldl byte f l

-- the end after a line: too early where nothing whole is read, a fault of the line after the last
abbrev pub end_by : {T : Type 0} → ℕ → Option T → Read T
end_by k none = refused (suc k) 1
end_by k (some t) = got t

-- the end of the text, `done` being what a state has read whole: inside a line it is a fault of that line
unfoldable pub finish_by : {S T : Type 0} → (S → Option T) → Fed S → Read T
finish_by done (at k [] s) = end_by k (done s)
finish_by done (at k (x ∷ held) s) = refused (suc k) 1
finish_by done (stopped k n) = refused k n

-- the first k lines with their byte 10, or all bytes where fewer lines are ended
unfoldable pub first_lines : ℕ → List ℕ → List ℕ
first_lines zero l = []
first_lines (suc k) [] = []
first_lines (suc k) (x ∷ l) = x ∷ cond (eqb x 10) (first_lines k l) (first_lines (suc k) l)

-- how many lines are ended
unfoldable pub line_count : List ℕ → ℕ
line_count [] = 0
line_count (x ∷ l) = cond (eqb x 10) (suc (line_count l)) (line_count l)

-- what refusal 1 at line k says of a text, where `print` gives the text of each t and `Ruled` says which are of the rule:
-- texts of the rule begin with the lines before it, none begins with it too where it is ended, and the text is none of them
pub record Faulty {T : Type 0} (Ruled : T → Type 0) (print : T → List ℕ) (text : List ℕ) (k : ℕ) : Type 0 where
  pub place : (1 ≤ k) × (k ≤ suc (line_count text))
  pub begun : (t : T) × (b : List ℕ) × Ruled t × (print t ≡ first_lines (pred k) text ++ b)
  pub stuck : k ≤ line_count text → (t : T) (b : List ℕ) → Ruled t → print t ≡ first_lines k text ++ b → ⊥
  pub short : (t : T) → Ruled t → print t ≡ text → ⊥
