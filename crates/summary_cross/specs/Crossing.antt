-- Distances counted across a cut, on any words.
use Rattle.std.specs.Prelude.{ℕ, ◌+◌, ◌-◌, ◌%◌, ◌^◌, List, [], ◌∷◌}
use Rattle.reuse_rows.specs.Rows.{one_more}
use Rattle.reuse_engine.specs.declared.Place.{Place}
use Rattle.reuse_engine.specs.declared.Place.TheVariants.{Cold, Depth, Full, BadCount}
use Rattle.reuse_engine.specs.Engine.{place_of, left_by, held_after}

-- the words of t added to those of s, each modulo 2^32
unfoldable pub added : List ℕ → List ℕ → List ℕ
added [] t = []
added (x ∷ s) [] = x ∷ s
added (x ∷ s) (y ∷ t) = ((x + y) % 2 ^ 32) ∷ added s t

-- the row with one answer counted: a distance d at place d - 1, modulo 2^32
abbrev pub counted_by : Place → List ℕ → List ℕ
counted_by Cold row = row
counted_by (Depth d) row = one_more (d - 1) row
counted_by Full row = row
counted_by BadCount row = row

-- the row with the distances of these reads counted, taken after the stack in the first n words
unfoldable pub crossed : List ℕ → ℕ → List ℕ → List ℕ → List ℕ
crossed stack n [] row = row
crossed stack n (x ∷ xs) row =
    crossed (left_by (place_of stack n x) n x stack) (held_after (place_of stack n x) n) xs (counted_by (place_of stack n x) row)
