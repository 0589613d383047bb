-- The numbers of cold answers to reads after well-formed words, whether or not a log has the words.
use Rattle.std.specs.Prelude.{ℕ, suc, ◌-◌, ◌≡◌, List, [], ◌∷◌, ◌++◌, false, length}
use Rattle.reuse.specs.Lists.{mem, firsts, from}
use Rattle.reuse.specs.Lru.{cold, reuses, newcomers}
use Rattle.reuse.specs.Summary.{extents_of, first_of, recent_of}

-- the answers are those of the call on a part after a prefix: R of the words is the stack
pub record Newcomers (words reads : List ℕ) : Type 0 where
  -- a read of an extent that neither words nor reads have is cold, with the number of different extents of both, itself included
  pub next : (x : ℕ) → mem x (first_of words ++ reads) ≡ false →
      reuses (recent_of words) (reads ++ (x ∷ [])) ≡ reuses (recent_of words) reads ++ (cold (suc (length (firsts (first_of words ++ reads)))) ∷ [])
  -- the numbers follow that of the words' extents, one after the other, to the number of all extents
  pub in_order : newcomers (reuses (recent_of words) reads) ≡ from (suc (extents_of words)) (length (firsts (first_of words ++ reads)) - extents_of words)
