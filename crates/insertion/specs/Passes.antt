-- What the private passes over reads rely on and leave.
use Rattle.std.specs.Prelude.{ℕ, suc, ◌+◌, ◌≤◌, ◌<◌, ◌≡◌, true, false, cond, eqb, leb, ltb, length, take, get_or, Some, None}
use Rattle.std.specs.declared.option.Option.{Option}
use mathlib.Core.List.{List, foldl}
use Rattle.reuse.specs.Limits.{max_reads, max_extents}
use Rattle.reuse.specs.Lists.{mem, before, distinct}
use Rattle.reuse.specs.Lru.{touch}
use Rattle.insertion_calls.specs.Trails.{Trail}
use Rattle.insertion.specs.declared.passes.Marks.{Marks}
use Rattle.insertion.specs.declared.passes.Traced.{Traced}

-- a row as long as the limit of extents with a stack of no extent twice in its first n words, and reads within the limit
pub record Ready (stack : List ℕ) (n : ℕ) (reads : List ℕ) : Type 0 where
  pub wide : length stack ≡ max_extents
  pub held : n ≤ length stack
  pub once : distinct (take n stack) ≡ true
  pub short : length reads ≤ max_reads

-- the stack after the reads stands in so many words at the front of the row; none where its extents pass the limit
pub record Held (stack : List ℕ) (n : ℕ) (reads row : List ℕ) (held : Option ℕ) : Type 0 where
  pub wide : length row ≡ max_extents
  pub over : held ≡ None → max_extents < length (foldl touch (take n stack) reads)
  pub few : (k : ℕ) → held ≡ Some k → k ≤ max_extents
  pub front : (k : ℕ) → held ≡ Some k → take k row ≡ foldl touch (take n stack) reads

-- and so many extents stand above x, or in all where x does not stand there
pub record Ahead (stack : List ℕ) (n : ℕ) (reads : List ℕ) (x ahead : ℕ) : Type 0 where
  pub ready : Ready stack n reads
  pub above : ahead ≡ length (before x (take n stack))

-- marks that one more read does not take past what their words hold
pub record Small (m : Marks) : Type 0 where
  pub since : m.since ≤ max_extents
  pub depth : m.depth ≤ suc max_extents
  pub spoiled : m.spoiled < max_reads

-- the marks after a read of an extent that was not read before
abbrev pub with_newcomer : Marks → Marks
with_newcomer m = record { since = m.since + 1; depth = m.depth + 1; spoiled = m.spoiled }

-- the marks after a read at depth d: of an extent read since the place, of one below x, or of one above it
abbrev pub with_known : Marks → ℕ → ℕ → Marks
with_known m d c =
    cond (leb d m.since) m
    (cond (ltb m.depth d) (with_newcomer m) (record { since = m.since + 1; depth = m.depth; spoiled = m.spoiled + cond (eqb d c) 1 0 }))

-- the reads up to the next one of x are taken, all where there is none: the stack after them stands in the row, and the marks are
-- those of its trail
pub record Taken (stack : List ℕ) (n : ℕ) (reads : List ℕ) (x c : ℕ) (row : List ℕ) (r : Traced) : Type 0 where
  pub wide : length row ≡ max_extents
  pub few : r.held ≤ max_extents
  pub some : r.taken ≤ length reads
  pub front : take r.held row ≡ foldl touch (take n stack) (take r.taken reads)
  pub trail : Trail (take n stack) x c (take r.taken reads) r.marks.since r.marks.depth r.marks.spoiled
  pub unread : mem x (take r.taken reads) ≡ false
  pub again : r.taken < length reads → get_or reads r.taken 0 ≡ x

-- they are taken so, or the stack is over the limit
pub record Followed (stack : List ℕ) (n : ℕ) (reads : List ℕ) (x c : ℕ) (row : List ℕ) (r : Option Traced) : Type 0 where
  pub over : r ≡ None → max_extents < length (foldl touch (take n stack) reads)
  pub some : (t : Traced) → r ≡ Some t → Taken stack n reads x c row t
