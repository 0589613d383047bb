-- What a lister keeps of a trace: the reads, the LRU stack and the counts of the distances, enough for the misses of every size.
use Rattle.std.specs.Prelude.{ℕ, suc, pred, ◌+◌, List, [], ◌∷◌, ◌++◌, cond, ltb, leb, length, drop, get_or, set}
use Rattle.reuse.specs.Limits.{max_reads, max_extents}
use Rattle.reuse.specs.Lists.{mem, sum}
use Rattle.reuse.specs.Lru.{Reuse, cold, at, depth, touch, stack}
use Rattle.reuse.specs.Summary.{histogram}
use Rattle.texts.specs.Limits.{max_extent}

-- the reads, the stack with the latest read on top, and for each distance from 1 to the number of extents its count
pub record Tally : Type 0 where
  pub reads : ℕ
  pub recent : List ℕ
  pub counts : List ℕ

-- of no reads
abbrev pub no_reads : Tally
no_reads = record { reads = 0; recent = []; counts = [] }

-- the counts with one answer more: a cold read makes one distance more possible, which no read has yet
abbrev pub counted_with : Reuse → List ℕ → List ℕ
counted_with (cold n) counts = counts ++ (0 ∷ [])
counted_with (at d) counts = set counts (pred d) (suc (get_or counts (pred d) 0))

-- one read more
unfoldable pub tallied : Tally → ℕ → Tally
tallied t x = record {
  reads = suc t.reads;
  recent = touch t.recent x;
  counts = counted_with (depth t.recent x) t.counts;
}

-- the limit that the read x breaks: 2, then 8, then 9, or 0 for none
abbrev pub over_tally : Tally → ℕ → ℕ
over_tally t x =
    cond (ltb max_extent x) 2 (cond (leb max_reads t.reads) 8 (cond (mem x t.recent) 0 (cond (leb max_extents (length t.recent)) 9 0)))

-- the misses at size c, by the counts of the distances: cold reads, as many as there are counts, plus reads of distance above c
abbrev pub misses_by : List ℕ → ℕ → ℕ
misses_by counts c = length counts + sum (drop c counts)

-- the tally of a trace
unfoldable pub tally_of : List ℕ → Tally
tally_of t = record { reads = length t; recent = stack t; counts = histogram t }
