-- What the call for the smallest cache answers.
use Rattle.allowance_calls.specs.declared.SmallestCache.{SmallestCache}
use Rattle.std.specs.Prelude.{ℕ, List, cond, leb, length, Result, Ok, Err}
use Rattle.reuse.specs.declared.refusals.Refusal.{Refusal}
use Rattle.reuse.specs.declared.refusals.Refusal.TheVariants.{NotASummary, BelowCold}
use Rattle.reuse.specs.Summary.{extents_of, well_formed}
use Rattle.allowance_calls.specs.Smallest.{smallest}
use Rattle.allowance_calls.specs.Search.{words_searched}

-- the smallest size with at most m misses, and how many words of H the search read: 5, then 12 for m below the cold reads, of
-- which there are v
unfoldable pub smallest_call : List ℕ → ℕ → Result SmallestCache Refusal
smallest_call w m =
    cond (well_formed w)
    (cond (leb (extents_of w) m)
    (Ok (record { size = smallest w m; words_read = length (words_searched w m) }))
    (Err BelowCold))
    (Err NotASummary)
