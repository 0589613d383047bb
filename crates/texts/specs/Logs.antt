-- Log texts: the text of a trace, and what reading a text gives, byte by byte.
use Rattle.std.specs.Prelude.{ℕ, zero, suc, ◌≤◌, ◌<◌, List, [], ◌∷◌, ◌++◌, Bool, true, false, cond, eqb, ltb, leb, length}
use Rattle.std.proofs.Math.Option.{Option, none, some}
use Rattle.texts.specs.Bytes.{bytes}
use Rattle.reuse.specs.Limits.{max_reads, max_extents}
use Rattle.texts.specs.Limits.{max_extent}
use Rattle.texts.specs.Digits.{decimal, too_long}
use Rattle.texts.specs.Words.{after, close, Ending, ending, bad_ending, ending_of}
use Rattle.texts.specs.Lines.{Answer, to, no, Fed, at, Read, counting, unless, feed_by, finish_by}
use Rattle.reuse.specs.Lists.{mem, firsts}

-- `(trace`
abbrev pub trace_word : List ℕ
trace_word = bytes "(trace"

-- ` (read `, under the bracket of the trace
abbrev pub read_word : List ℕ
read_word = bytes " (read "

-- a read's brackets: its own, and the trace's where the text ends with it
abbrev pub closing : Bool → ℕ
closing false = 1
closing true = 2

-- the line of a read, without its byte 10
abbrev pub row_text : ℕ → Bool → List ℕ
row_text x ends = read_word ++ (decimal x ++ close (closing ends))

-- the read x and those after it, one a line, up to the end of the text
unfoldable pub reads_text : ℕ → List ℕ → List ℕ
reads_text x [] = row_text x true ++ (10 ∷ [])
reads_text x (y ∷ t) = row_text x false ++ (10 ∷ reads_text y t)

-- the text of a trace
unfoldable pub log_text : List ℕ → List ℕ
log_text [] = trace_word ++ (41 ∷ 10 ∷ [])
log_text (x ∷ t) = trace_word ++ (10 ∷ reads_text x t)

-- a read's line by itself: the extent, and whether the text ends with it
pub data Row : Type 0 where
  row : ℕ → Bool → Row
  bad_row : Row

-- by what stands after ` (read `: a number with one bracket or two
abbrev pub ending_by : Ending → Row
ending_by bad_ending = bad_row
ending_by (ending n zero) = bad_row
ending_by (ending n (suc zero)) = row n false
ending_by (ending n (suc (suc zero))) = row n true
ending_by (ending n (suc (suc (suc c)))) = bad_row

-- by whether ` (read ` stands there
abbrev pub read_by : Option (List ℕ) → Row
read_by none = bad_row
read_by (some l) = ending_by (ending_of l)

-- the line of a read, without its byte 10
unfoldable pub row_of : List ℕ → Row
row_of line = read_by (after read_word line)

-- nothing read yet; the reads so far; the whole trace: T is what is kept of the reads
pub data Logged (T : Type 0) : Type 0 where
  empty : Logged T
  inside : T → Logged T
  whole : T → Logged T

-- the reads so far, or the whole trace where the text ends
abbrev pub read : {T : Type 0} → Bool → T → Logged T
read ends t = cond ends (whole t) (inside t)

-- what a read's line does after the reads t; `over` is the limit that a read breaks, or 0, and `more` has one read more
unfoldable pub row_by : {T : Type 0} → (T → ℕ → ℕ) → (T → ℕ → T) → T → Row → Answer (Logged T)
row_by over more t bad_row = no 1
row_by over more t (row x ends) = unless (over t x) (to (read ends (more t x)))

-- the first line, `(trace`, or `(trace)`: there are no reads yet
unfoldable pub head_by : {T : Type 0} → T → Option (List ℕ) → Answer (Logged T)
head_by start none = no 1
head_by start (some []) = to (inside start)
head_by start (some (x ∷ [])) = cond (eqb x 41) (to (whole start)) (no 1)
head_by start (some (x ∷ y ∷ l)) = no 1

-- what a line does: nothing may follow the whole trace
unfoldable pub step_by : {T : Type 0} → T → (T → ℕ → ℕ) → (T → ℕ → T) → Logged T → List ℕ → Answer (Logged T)
step_by start over more empty line = head_by start (after trace_word line)
step_by start over more (inside t) line = row_by over more t (row_of line)
step_by start over more (whole t) line = no 1

-- the limit that the read x breaks after the reads t: 2, then 8, then 9, or 0 for none
abbrev pub over_read : List ℕ → ℕ → ℕ
over_read t x =
    cond (ltb max_extent x) 2 (cond (leb max_reads (length t)) 8 (cond (mem x t) 0 (cond (leb max_extents (length (firsts t))) 9 0)))

-- the same, where the limits count
abbrev pub over_where : Bool → List ℕ → ℕ → ℕ
over_where limits t x = counting limits (over_read t x)

-- one read more
abbrev pub with_read : List ℕ → ℕ → List ℕ
with_read t x = t ++ (x ∷ [])

-- what a read's line does to the reads t
abbrev pub log_row : Bool → List ℕ → Row → Answer (Logged (List ℕ))
log_row limits = row_by (over_where limits) with_read

-- what a line does to the reads so far
abbrev pub log_step : Bool → Logged (List ℕ) → List ℕ → Answer (Logged (List ℕ))
log_step limits = step_by [] (over_where limits) with_read

-- the bytes of the longest line, ` (read 9999999999))`
abbrev pub longest_line : ℕ
longest_line = 19

-- whether a line of n bytes may have one more
abbrev pub log_room : ℕ → Bool
log_room n = ltb n longest_line

-- bytes of a log text, with the limits or by the rule alone
unfoldable pub log_feed : Bool → Fed (Logged (List ℕ)) → List ℕ → Fed (Logged (List ℕ))
log_feed limits = feed_by (log_step limits) log_room

-- a log text taken so far
abbrev pub State : Type 0
State = Fed (Logged (List ℕ))

-- nothing taken yet
abbrev pub start : State
start = at 0 [] empty

-- one piece of the text more
unfoldable pub feed : State → List ℕ → State
feed s l = log_feed true s l

-- what is read whole
abbrev pub log_done : Logged (List ℕ) → Option (List ℕ)
log_done empty = none
log_done (inside t) = none
log_done (whole t) = some t

-- the answer at the end of the text
unfoldable pub finish : State → Read (List ℕ)
finish s = finish_by log_done s

-- a text's answer
unfoldable pub log_of : List ℕ → Read (List ℕ)
log_of text = finish (feed start text)

-- all numbers are below m
abbrev pub Below : ℕ → List ℕ → Type 0
Below m [] = Unit
Below m (x ∷ t) = (x < m) × Below m t

-- a trace of the rule, whatever its limits: numbers of 1 to 10 digits
abbrev pub Ruled : List ℕ → Type 0
Ruled t = Below too_long t

-- a trace within the limits of refusals 2, 8 and 9
pub record Within (t : List ℕ) : Type 0 where
  pub extents : Below (suc max_extent) t
  pub reads : length t ≤ max_reads
  pub kinds : length (firsts t) ≤ max_extents
