-- Worked examples, computed from the definitions: the listings of the paper's seven reads, of no read, and of refused texts.
use mathlib.Core.Path.{◌≡◌, refl, ◌∙◌}
use Prim.Native.Nat.{ℕ}
use mathlib.Core.List.{List, [], ◌∷◌}
use Rattle.reuse.specs.Lists.{remove, firsts, count}
use Rattle.reuse.specs.Lru.{depth, touch, reuses, misses_at}
use Rattle.texts.specs.Bytes.{bytes}
use Rattle.texts.specs.Digits.{decimal, decimal_by}
use Rattle.texts.proofs.Examples.{logs-read, logs-refused}
use Rattle.listing_texts.specs.Listings.{at_rows, listed, refused_text, sizes_of, listing_of}
use Rattle.listing_texts.proofs.Listings.{listing-read, listing-refused}

-- the seven reads of the paper
abbrev seven : List ℕ
seven = 7 ∷ 3 ∷ 7 ∷ 9 ∷ 3 ∷ 3 ∷ 9 ∷ []

-- the text of the seven reads
abbrev seven_text : List ℕ
seven_text = bytes "(trace\n (read 7)\n (read 3)\n (read 7)\n (read 9)\n (read 3)\n (read 3)\n (read 9))\n"

-- the listing of the seven reads
sizes-seven : sizes_of seven ≡ bytes "(sizing\n (reads 7)\n (cold 3)\n (at 1 6)\n (at 2 4)\n (at 3 3))\n"
unfolding sizes_of listed at_rows decimal decimal_by firsts remove reuses depth touch misses_at count
sizes-seven = refl

-- the listing of no read
sizes-none : sizes_of [] ≡ bytes "(sizing\n (reads 0)\n (cold 0))\n"
unfolding sizes_of listed at_rows decimal decimal_by firsts
sizes-none = refl

-- the listing of the text of the seven reads
pub listing-seven : listing_of seven_text ≡ bytes "(sizing\n (reads 7)\n (cold 3)\n (at 1 6)\n (at 2 4)\n (at 3 3))\n"
listing-seven = listing-read seven_text seven logs-read.0 ∙ sizes-seven

-- the listing of the empty trace's text
pub listing_none : listing_of (bytes "(trace)\n") ≡ bytes "(sizing\n (reads 0)\n (cold 0))\n"
listing_none = listing-read (bytes "(trace)\n") [] logs-read.1 ∙ sizes-none

-- texts that are refused
pub listings-refused :
    -- 2: an extent above 4,294,967,295
    (listing_of (bytes "(trace\n (read 4294967296))\n") ≡ bytes "(refused 2)\n")
    -- 1: a last line without byte 10
    × (listing_of (bytes "(trace)") ≡ bytes "(refused 1)\n")
unfolding refused_text decimal decimal_by
listings-refused = (
  listing-refused (bytes "(trace\n (read 4294967296))\n") 2 2 logs-refused.0,
  listing-refused (bytes "(trace)") 1 1 logs-refused.4,
)
