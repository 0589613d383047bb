-- A text fed to a lister in pieces, by the calls' own definitions.
use Rattle.std.specs.Prelude.{ℕ, List, [], ◌∷◌}
use Rattle.listing.specs.Listers.{fed_of}
use Rattle.listing.specs.declared.Lister.{Lister}

-- a lister after pieces fed to it one by one: each call gets the lister that the last one returned
unfoldable pub fed_all : Lister → List (List ℕ) → Lister
fed_all l [] = l
fed_all l (bytes ∷ pieces) = fed_all (fed_of l bytes) pieces
