-- When the call for the smallest cache is refused: each number exactly under its condition, looked at after those before it.
use Rattle.reuse.specs.Refusals.{refusal_number}
use Rattle.allowance_calls.specs.declared.SmallestCache.{SmallestCache}
use Rattle.std.specs.Prelude.{ℕ, ◌≤◌, ◌<◌, ◌≡◌, ◌↔◌, List, true, false, Result, Ok, Err}
use Rattle.reuse.specs.declared.refusals.Refusal.{Refusal}
use Rattle.reuse.specs.Summary.{extents_of, misses_of, well_formed}
use Rattle.allowance_calls.specs.Smallest.{smallest}
use Rattle.allowance_calls.specs.Calls.{smallest_call}

-- the refusal's number, 0 where there is none
abbrev pub size_refusal : Result SmallestCache Refusal → ℕ
size_refusal (Ok a) = 0
size_refusal (Err r) = refusal_number r

-- of every call
pub record Refusals (w : List ℕ) (m : ℕ) : Type 0 where
  -- 5: the words are not a well-formed summary
  pub five : size_refusal (smallest_call w m) ≡ 5 ↔ well_formed w ≡ false
  -- 12: they are, and m is below the cold reads
  pub twelve : size_refusal (smallest_call w m) ≡ 12 ↔ ((well_formed w ≡ true) × (m < extents_of w))
  -- that is, no size whatever has at most m misses
  pub none-suffices : size_refusal (smallest_call w m) ≡ 12 ↔ ((well_formed w ≡ true) × ((c : ℕ) → m < misses_of w c))
  -- else the size by the full list, having read as many words of H
  pub answered : smallest_call w m ≡ Ok (record { size = smallest w m; words_read = (smallest w m) }) ↔ ((well_formed w ≡ true) × (extents_of w ≤ m))
