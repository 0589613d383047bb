-- The summary of a trace as words, the test of words handed in, and the join of two summaries.
use Rattle.std.specs.Prelude.{ℕ, suc, ◌+◌, ◌-◌, ◌*◌, List, [], ◌∷◌, ◌++◌, map, reverse, Bool, ◌&&◌, eqb, leb, length, take, drop, get_or}
use Rattle.reuse.specs.Limits.{max_reads, max_extents}
use Rattle.reuse.specs.Lists.{all_in, distinct, inside, beside, before, firsts, cleanup, from, sum, count}
use Rattle.reuse.specs.Lru.{reuses, count_at}

-- a summary's words from its parts: the reads L, the number v of extents, F, R and H
unfoldable pub words : ℕ → List ℕ → List ℕ → List ℕ → List ℕ
words reads first recent counts = reads ∷ length first ∷ first ++ (recent ++ counts)

-- H of a trace: for each distance from 1 to v, how many reads have it
unfoldable pub histogram : List ℕ → List ℕ
histogram t = map (count_at (reuses [] t)) (from 1 (length (firsts t)))

-- the summary of a trace: F by first read; R by last read, latest first
unfoldable pub summary_of : List ℕ → List ℕ
summary_of t = words (length t) (firsts t) (reverse (cleanup t)) (histogram t)

-- L of a run of words
unfoldable pub reads_of : List ℕ → ℕ
reads_of w = get_or w 0 0

-- v
unfoldable pub extents_of : List ℕ → ℕ
extents_of w = get_or w 1 0

-- F: v words after these two
unfoldable pub first_of : List ℕ → List ℕ
first_of w = take (extents_of w) (drop 2 w)

-- R: the next v words
unfoldable pub recent_of : List ℕ → List ℕ
recent_of w = take (extents_of w) (drop (2 + extents_of w) w)

-- H: the v words after those
unfoldable pub counts_of : List ℕ → List ℕ
counts_of w = take (extents_of w) (drop (2 + 2 * extents_of w) w)

-- the words are a summary in form, whether or not a trace has it
unfoldable pub well_formed : List ℕ → Bool
well_formed w =
    eqb (length w) (2 + 3 * extents_of w)
    && leb (extents_of w) max_extents
    && leb (reads_of w) max_reads
    && distinct (first_of w)
    && all_in (first_of w) (recent_of w)
    && all_in (recent_of w) (first_of w)
    && eqb (extents_of w + sum (counts_of w)) (reads_of w)

-- the reads of a distance of at most c
unfoldable pub hits_of : List ℕ → ℕ → ℕ
hits_of w c = sum (take c (counts_of w))

-- cold reads plus reads of distance above c
unfoldable pub misses_of : List ℕ → ℕ → ℕ
misses_of w c = extents_of w + sum (drop c (counts_of w))

-- the reads that some size could have served: reads less cold reads, of which there are v
unfoldable pub servable_of : List ℕ → ℕ
servable_of w = reads_of w - extents_of w

-- F of the join: F of A, then those of F of B not in A
unfoldable pub joined_first : List ℕ → List ℕ → List ℕ
joined_first a b = beside (first_of a) (first_of b)

-- R of the join: R of B, then those of R of A not in B
unfoldable pub joined_recent : List ℕ → List ℕ → List ℕ
joined_recent a b = beside (recent_of b) (recent_of a)

-- the extents of both
unfoldable pub shared : List ℕ → List ℕ → List ℕ
shared a b = inside (first_of a) (first_of b)

-- the distance at the first read in B of an extent p of both
unfoldable pub across : List ℕ → List ℕ → ℕ → ℕ
across a b p = suc (length (firsts (before p (recent_of a) ++ before p (first_of b))))

-- the word of H for the distance d, counted from 1; 0 past the last
unfoldable pub count_for : List ℕ → ℕ → ℕ
count_for h d = get_or (0 ∷ h) d 0

-- the reads of distance d in the join: those of both sides, and one for each extent of both at that distance
unfoldable pub joined_count : List ℕ → List ℕ → ℕ → ℕ
joined_count a b d =
    count_for (counts_of a) d + (count_for (counts_of b) d + count (eqb d) (map (across a b) (shared a b)))

-- H of the join
unfoldable pub joined_counts : List ℕ → List ℕ → List ℕ
joined_counts a b = map (joined_count a b) (from 1 (length (joined_first a b)))

-- the join of the summary A, then B
unfoldable pub join_of : List ℕ → List ℕ → List ℕ
join_of a b = words (reads_of a + reads_of b) (joined_first a b) (joined_recent a b) (joined_counts a b)
