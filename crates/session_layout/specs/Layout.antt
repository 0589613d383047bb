-- A session as words: what the first words of a row stand for, and the words of a session.
use Rattle.std.specs.Prelude.{ℕ, ◌+◌, cond, List, [], ◌∷◌, ◌++◌, leb, length, take, drop, get_or, Option, Some, None}
use Rattle.reuse.specs.Limits.{max_extents, slot_count, right_count}
use Rattle.session.specs.declared.Session.{Session}

-- where F, H, the slots, the count, the right-hand sums and the next slot stand, after the reads
abbrev pub first_place : ℕ
first_place = 1

abbrev pub hist_place : ℕ
hist_place = first_place + max_extents

abbrev pub slots_place : ℕ
slots_place = hist_place + max_extents

abbrev pub count_place : ℕ
count_place = slots_place + slot_count

abbrev pub rights_place : ℕ
rights_place = count_place + 1

abbrev pub next_place : ℕ
next_place = rights_place + right_count

-- the words of a session
abbrev pub session_length : ℕ
session_length = next_place + 1

-- n words from place `at` on
unfoldable pub part : ℕ → ℕ → List ℕ → List ℕ
part at n w = take n (drop at w)

-- the session that stands in the first words
unfoldable pub session_in : List ℕ → Session
session_in w = record {
  reads = get_or w 0 0;
  first = part first_place max_extents w;
  hist = part hist_place max_extents w;
  slots = part slots_place slot_count w;
  count = get_or w count_place 0;
  rights = part rights_place right_count w;
  next = get_or w next_place 0;
}

-- the session in the first of the words, where they are enough for one
unfoldable pub kept_in : List ℕ → Option Session
kept_in w = cond (leb session_length (length w)) (Some (session_in w)) None

-- the words of a session: L, F, H, the slots, the count, the right-hand sums, the next slot
unfoldable pub session_laid : Session → List ℕ
session_laid s = s.reads ∷ (s.first ++ (s.hist ++ (s.slots ++ (s.count ∷ (s.rights ++ (s.next ∷ []))))))
