-- What the private pass over a part's reads relies on.
use Rattle.std.specs.Prelude.{ℕ, ◌≤◌, ◌≡◌, true, length, take}
use mathlib.Core.List.{List, foldl}
use Rattle.reuse.specs.Limits.{max_extents}
use Rattle.reuse.specs.Lists.{distinct}
use Rattle.reuse.specs.Lru.{touch}

-- the first n words are a stack with no extent twice
pub record Stacked (stack : List ℕ) (n : ℕ) : Type 0 where
  pub held : n ≤ length stack
  pub once : distinct (take n stack) ≡ true

-- the stack has room for all the reads, and the buffer for a word each
pub record Traceable (stack : List ℕ) (n : ℕ) (reads out : List ℕ) : Type 0 where
  pub stacked : Stacked stack n
  pub small : length stack ≤ max_extents
  pub room : length (foldl touch (take n stack) reads) ≤ length stack
  pub wide : length reads ≤ length out
