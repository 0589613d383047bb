-- Cuttings: the distances of each part after its prefix.
use Rattle.std.specs.Prelude.{ℕ, ◌≡◌, List, [], ◌∷◌, ◌++◌, Bool, ◌&&◌, leb, length}
use Rattle.after.specs.Calls.{after_call}
use Rattle.whole.specs.Runs.{Outcome, gives, refused, outcome}
use Rattle.whole.specs.Groupings.{Part, part_log, AllUnset, Grouping, parts, log_of, grouped, roomy}

-- a log cut into parts, each with the buffer lent for its distances; a later part also with the grouping of all
-- earlier parts that is its prefix
pub data Cutting : Type 0 where
  only : Part → List ℕ → Cutting
  and_then : Cutting → Grouping → Part → List ℕ → Cutting

-- its parts, in order
unfoldable pub cut_parts : Cutting → List Part
cut_parts (only p buffer) = p ∷ []
cut_parts (and_then c g p buffer) = cut_parts c ++ (p ∷ [])

-- each prefix is a grouping of all earlier parts: of their log, whatever lists of calls gave it, each from no name set
unfoldable pub Follows : Cutting → Type 0
Follows (only p buffer) = Unit {0}
Follows (and_then c g p buffer) = Follows c × AllUnset (parts g) × (log_of (parts g) ≡ log_of (cut_parts c))

-- the distances of a part after what was handed over as its prefix
abbrev pub after : Outcome → List ℕ → List ℕ → Outcome
after (gives prefix) reads buffer = outcome (after_call prefix reads buffer)
after (refused n) reads buffer = refused n

-- two lists of distances, end to end
abbrev pub end_to_end : Outcome → Outcome → Outcome
end_to_end (gives a) (gives b) = gives (a ++ b)
end_to_end (gives a) (refused n) = refused n
end_to_end (refused n) b = refused n

-- the distances of all parts, end to end: the first after 0 0
unfoldable pub cut_distances : Cutting → Outcome
cut_distances (only p buffer) = after (gives (0 ∷ 0 ∷ [])) (part_log p) buffer
cut_distances (and_then c g p buffer) = end_to_end (cut_distances c) (after (grouped g) (part_log p) buffer)

-- each buffer has room for its distances, and each grouping's for its summaries
unfoldable pub cut_roomy : Cutting → Bool
cut_roomy (only p buffer) = leb (length (part_log p)) (length buffer)
cut_roomy (and_then c g p buffer) = cut_roomy c && (roomy g && leb (length (part_log p)) (length buffer))
