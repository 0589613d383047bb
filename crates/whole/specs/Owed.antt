-- What read calls must answer, said of the log alone.
use Rattle.std.specs.Prelude.{ℕ, List, [], ◌∷◌, ◌++◌, cond, ltb, length, Result, Ok, Err}
use Rattle.reuse.specs.declared.refusals.Refusal.{Refusal}
use Rattle.reuse.specs.Refusals.{refusal_number}
use Rattle.reuse.specs.Limits.{max_reads, max_extents}
use Rattle.reuse.specs.Lists.{firsts}
use Rattle.reuse.specs.Lru.{Reuse, cold, at, distance}
use Rattle.session_calls.specs.declared.Answer.{Answer}
use Rattle.session_calls.specs.declared.Answer.TheVariants.{Cold, Distance}
use Rattle.whole.specs.Runs.{Reply, gives, refused}

-- a read's answer without its counts of sums and slots: cold with its number, a distance, or its refusal
abbrev pub Seen : Type 0
Seen = Reply Reuse

-- of an answer
abbrev pub seen_of : Result Answer Refusal → Seen
seen_of (Ok (Cold n k)) = gives (cold n)
seen_of (Ok (Distance d n k)) = gives (at d)
seen_of (Err why) = refused (refusal_number why)

-- what a read of x must answer, t being the reads accepted before: 8 where more reads than the limit would result, else 9
-- where more extents would, else the distance or the newcomer's number counted on the log
unfoldable pub read_owed : List ℕ → ℕ → Seen
read_owed t x =
    cond (ltb max_reads (length (t ++ (x ∷ []))))
    (refused 8)
    (cond (ltb max_extents (length (firsts (t ++ (x ∷ []))))) (refused 9) (gives (distance t x)))

-- the log after it: a refused read leaves it
abbrev pub grown : Seen → List ℕ → ℕ → List ℕ
grown (gives r) t x = t ++ (x ∷ [])
grown (refused n) t x = t

-- what each of a list of read calls must answer
unfoldable pub owed : List ℕ → List ℕ → List Seen
owed t [] = []
owed t (x ∷ xs) = read_owed t x ∷ owed (grown (read_owed t x) t x) xs
