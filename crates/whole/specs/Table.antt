-- The rows that 01 marks with a star, and 02's of newcomers, of slots looked at, of hit shares, of named moments, of sizes, of one more read and of the smallest cache. Each has two halves: what the calls answer, and what the log's own definitions give.
use Rattle.std.specs.Prelude.{ℕ, ◌+◌, ◌*◌, ◌^◌, ◌≡◌, List, [], ◌∷◌, ◌++◌, map, true, false, pos, negsuc, length, replicate, Ok, Err}
use Rattle.reuse.specs.declared.refusals.Refusal.TheVariants.{OutOfRange, NameNotSet, BelowCold}
use Rattle.std.specs.Float.{binary64, fin}
use Rattle.std.specs.Float.Ieee.{round}
use Rattle.reuse.specs.Limits.{max_extents, slot_count, sum_count, right_count, levels}
use Rattle.reuse.specs.Lists.{from}
use Rattle.reuse.specs.Lru.{cold, at, reuses, distances}
use Rattle.reuse.specs.Written.{word_of}
use Rattle.reuse.specs.Cache.{cache_misses}
use Rattle.reuse.specs.Summary.{summary_of, join_of}
use Rattle.summary_calls.specs.declared.HitShare.{HitShare}
use Rattle.summary_calls.specs.declared.HitShare.TheVariants.{Share, NoReads}
use Rattle.summary_calls.specs.Calls.{join_call, misses_call, share_call}
use Rattle.after.specs.Calls.{after_call}
use Rattle.texts.specs.Plans.{Plan, depth}
use Rattle.plan_calls.specs.Calls.{work_words}
use Rattle.session_calls.specs.declared.Answer.TheVariants.{Cold, Distance}
use Rattle.session.specs.Sessions.{fresh}
use Rattle.session_calls.specs.Reads.{sums_read, slots_looked}
use Rattle.session_summary.specs.Summaries.{share_call as session_share}
use Rattle.watch.specs.Watching.{new_of, share_call as watch_share}
use Rattle.whole.specs.Runs.{session_after, answers_of, gives, outcome}
use Rattle.insertion_calls.specs.Calls.{insertion_call}
use Rattle.allowance_calls.specs.Calls.{smallest_call}
use Rattle.moments.specs.Names.{names_length, lies}
use Rattle.whole.specs.Owed.{Seen}
use Rattle.whole.specs.Moments.{Call, read, name, return_to, Told, reading, moment, heard, told_by, begun, Unset}
use Rattle.whole.specs.Remembered.{nothing, owed_by, remembered}
use Rattle.whole.specs.Groupings.{Grouping, part, joined, grouped}
use Rattle.whole.specs.Looks.{looked_along}
use Rattle.whole.specs.Counts.{watching, cache_share}

-- the first four of the seven reads
abbrev pub front : List ℕ
front = 7 ∷ 3 ∷ 7 ∷ 9 ∷ []

-- the last three
abbrev pub back : List ℕ
back = 3 ∷ 3 ∷ 9 ∷ []

-- all seven
abbrev pub seven : List ℕ
seven = front ++ back

-- the words of their summary, and of the parts'
abbrev pub seven_words : List ℕ
seven_words = 7 ∷ 3 ∷ 7 ∷ 3 ∷ 9 ∷ 9 ∷ 3 ∷ 7 ∷ 1 ∷ 2 ∷ 1 ∷ []

abbrev pub front_words : List ℕ
front_words = 4 ∷ 3 ∷ 7 ∷ 3 ∷ 9 ∷ 9 ∷ 7 ∷ 3 ∷ 0 ∷ 1 ∷ 0 ∷ []

abbrev pub back_words : List ℕ
back_words = 3 ∷ 2 ∷ 3 ∷ 9 ∷ 9 ∷ 3 ∷ 1 ∷ 0 ∷ []

-- the summary of 1 2 2 1: H 1 1
abbrev pub turned_words : List ℕ
turned_words = 4 ∷ 2 ∷ 1 ∷ 2 ∷ 1 ∷ 2 ∷ 1 ∷ 1 ∷ []

-- a part to be read after the first four
abbrev pub later : List ℕ
later = 3 ∷ 3 ∷ 9 ∷ 8 ∷ []

-- well-formed words that no log has: of two reads the first is of 4 and the last is too, and yet there are two extents
abbrev pub odd_words : List ℕ
odd_words = 2 ∷ 2 ∷ 4 ∷ 6 ∷ 4 ∷ 6 ∷ 0 ∷ 0 ∷ []

-- five different extents
abbrev pub five : List ℕ
five = 4 ∷ 0 ∷ 8 ∷ 1 ∷ 6 ∷ []

-- five reads of three extents, none of distance 2: H 1 0 1
abbrev pub level : List ℕ
level = 1 ∷ 1 ∷ 2 ∷ 3 ∷ 1 ∷ []

-- this share at size c is what the log's summary, the session that read it and the watch fed with its answers tell
pub record HitSharesAre (c : ℕ) (t : List ℕ) (s : HitShare) : Type 0 where
  pub of_words : share_call (summary_of t) c ≡ Ok s
  pub of-session : session_share (session_after fresh t) c ≡ Ok s
  pub of-watch : watch_share (watching (new_of c) (answers_of fresh t)) ≡ Ok s

-- a part by its reads, no words lent for names, its summary in a lent buffer of 20 words
abbrev pub part_of : List ℕ → Grouping
part_of reads = part (record { calls = map read reads; names = [] }) (replicate 20 5)

-- two parts joined in such a buffer
abbrev pub both_of : List ℕ → List ℕ → Grouping
both_of a b = joined (part_of a) (part_of b) (replicate 20 5)

-- 7 3, named 1; on with 9; back and on with 7; back and on with 3; a name that is not set; a number that is no name
abbrev pub tries : List Call
tries = read 7 ∷ read 3 ∷ name 1 ∷ read 9 ∷ return_to 1 ∷ read 7 ∷ return_to 1 ∷ read 3 ∷ return_to 2 ∷ name 9 ∷ []

-- cold 1, cold 2, done, cold 3, done, 2, done, 1, 11, 2
abbrev pub tries_told : List (Told Seen)
tries_told =
    reading (gives (cold 1)) ∷ reading (gives (cold 2)) ∷ moment (Ok tt) ∷ reading (gives (cold 3)) ∷ moment (Ok tt) ∷ reading (gives (at 2))
    ∷ moment (Ok tt) ∷ reading (gives (at 1)) ∷ moment (Err NameNotSet) ∷ moment (Err OutOfRange) ∷ []

-- 5, named 1; 6, named 1 again; on with 7; back and on with 6
abbrev pub again : List Call
again = read 5 ∷ name 1 ∷ read 6 ∷ name 1 ∷ read 7 ∷ return_to 1 ∷ read 6 ∷ []

-- cold 1, done, cold 2, done, cold 3, done, 1
abbrev pub again_told : List (Told Seen)
again_told =
    reading (gives (cold 1)) ∷ moment (Ok tt) ∷ reading (gives (cold 2)) ∷ moment (Ok tt) ∷ reading (gives (cold 3)) ∷ moment (Ok tt) ∷ reading (gives (at 1)) ∷ []

-- these calls answer so, from a new session with no name set and room for the place of name 1
abbrev pub CallsAre : List Call → List (Told Seen) → Type 0
CallsAre calls answers = (names : List ℕ) → Unset names → lies (length names) 1 ≡ true → map heard (told_by (begun names) calls) ≡ answers

pub record Table : Type 0 where
  -- 1,024 extents, 2,048 slots, 4,095 sums, slot numbers of eleven binary digits
  pub sizes-defined : (max_extents ≡ 1_024) × (slot_count ≡ 2_048) × (sum_count ≡ 4_095) × (slot_count ≡ 2 ^ 11) × (levels ≡ 11)
  -- 2,047 right-hand sums in place of the 4,095, one for each branching point
  pub rights-defined : (right_count ≡ 2_047) × (right_count + slot_count ≡ sum_count)
  -- a plan of depth k needs 6,148k work words
  pub work-defined : (p : Plan) → work_words p ≡ 6_148 * depth p
  -- 7 3 7 9 3 3 9: cold 1, cold 2, 2, cold 3, 3, 1, 2; sums read 0 0 11 0 10 10 9; slots looked at 0 1 2 3 3 1 3
  pub reads-called : answers_of fresh seven
      ≡ Ok (Cold 1 0) ∷ Ok (Cold 2 1) ∷ Ok (Distance 2 11 2) ∷ Ok (Cold 3 3) ∷ Ok (Distance 3 10 3) ∷ Ok (Distance 1 10 1) ∷ Ok (Distance 2 9 3) ∷ []
  pub sums-called : map sums_read (answers_of fresh seven) ≡ 0 ∷ 0 ∷ 11 ∷ 0 ∷ 10 ∷ 10 ∷ 9 ∷ []
  pub looked-called : map slots_looked (answers_of fresh seven) ≡ 0 ∷ 1 ∷ 2 ∷ 3 ∷ 3 ∷ 1 ∷ 3 ∷ []
  pub looked-defined : looked_along fresh seven
      ≡ [] ∷ (0 ∷ []) ∷ (1 ∷ 0 ∷ []) ∷ (2 ∷ 1 ∷ 0 ∷ []) ∷ (3 ∷ 2 ∷ 1 ∷ []) ∷ (4 ∷ []) ∷ (5 ∷ 4 ∷ 3 ∷ []) ∷ []
  pub reads-defined : reuses [] seven ≡ cold 1 ∷ cold 2 ∷ at 2 ∷ cold 3 ∷ at 3 ∷ at 1 ∷ at 2 ∷ []
  -- 3 3 9 8 after the summary of 7 3 7 9: 3 1 2 and cold 4, written 65,540
  pub later-called : outcome (after_call front_words later (replicate 20 5)) ≡ gives (3 ∷ 1 ∷ 2 ∷ 65_540 ∷ [])
  pub later-defined : (distances front later ≡ at 3 ∷ at 1 ∷ at 2 ∷ cold 4 ∷ []) × (map word_of (distances front later) ≡ 3 ∷ 1 ∷ 2 ∷ 65_540 ∷ [])
  -- 6 9 after the words 2 2 4 6 4 6 0 0, which no log has: 2 and cold 3, written 65,539
  pub odd-called : outcome (after_call odd_words (6 ∷ 9 ∷ []) (replicate 20 5)) ≡ gives (2 ∷ 65_539 ∷ [])
  pub odd-defined : (reuses (4 ∷ 6 ∷ []) (6 ∷ 9 ∷ []) ≡ at 2 ∷ cold 3 ∷ []) × ((t : List ℕ) → summary_of t ≡ odd_words → ⊥)
  -- the seven reads' summary: 7 3, F 7 3 9, R 9 3 7, H 1 2 1
  pub summary-called : grouped (part_of seven) ≡ gives seven_words
  pub summary-defined : summary_of seven ≡ seven_words
  -- the summary of 7 3 7 9: 4 3, F 7 3 9, R 9 7 3, H 0 1 0
  pub front-called : grouped (part_of front) ≡ gives front_words
  pub front-defined : summary_of front ≡ front_words
  -- the summary of 3 3 9: 3 2, F 3 9, R 9 3, H 1 0
  pub back-called : grouped (part_of back) ≡ gives back_words
  pub back-defined : summary_of back ≡ back_words
  -- the join of those two: the seven-read summary
  pub join-called : grouped (both_of front back) ≡ gives seven_words
  pub join-defined : join_of front_words back_words ≡ seven_words
  -- the join of 0 0 and 0 0: 0 0
  pub empty-called : outcome (join_call (0 ∷ 0 ∷ []) (0 ∷ 0 ∷ []) (replicate 20 5)) ≡ gives (0 ∷ 0 ∷ [])
  pub empty-defined : (join_of (0 ∷ 0 ∷ []) (0 ∷ 0 ∷ []) ≡ 0 ∷ 0 ∷ []) × (summary_of [] ≡ 0 ∷ 0 ∷ [])
  -- misses of the seven reads at 0, 2, 9: 7, 4, 3
  pub misses-called : (misses_call seven_words 0 ≡ Ok 7) × (misses_call seven_words 2 ≡ Ok 4) × (misses_call seven_words 9 ≡ Ok 3)
  pub misses-defined : (cache_misses 0 seven ≡ 7) × (cache_misses 2 seven ≡ 4) × (cache_misses 9 seven ≡ 3)
  -- 1 2 joined to 2 1: H 1 1
  pub turned-called : grouped (both_of (1 ∷ 2 ∷ []) (2 ∷ 1 ∷ [])) ≡ gives turned_words
  pub turned-defined : (join_of (summary_of (1 ∷ 2 ∷ [])) (summary_of (2 ∷ 1 ∷ [])) ≡ turned_words) × (summary_of (1 ∷ 2 ∷ 2 ∷ 1 ∷ []) ≡ turned_words)
  -- the share of an empty log: 'no reads', at every size
  pub share-called : (c : ℕ) → HitSharesAre c [] NoReads
  pub share-defined : (c : ℕ) → cache_share c [] ≡ Ok NoReads
  -- the share of five different extents too
  pub five-called : (c : ℕ) → HitSharesAre c five NoReads
  pub five-defined : (c : ℕ) → cache_share c five ≡ Ok NoReads
  -- the share of the seven reads at 2: 3 by 4, which is a float, 3 * 2 ^ -2
  pub seven-share-called : HitSharesAre 2 seven (Share (round binary64 false 3 4))
  pub seven-share-defined : (cache_share 2 seven ≡ Ok (Share (round binary64 false 3 4))) × (round binary64 false 3 4 ≡ fin false 3 (negsuc 1))
  -- named moments: the answers of the tries; they end with the log 7 3 3
  pub tries-called : CallsAre tries tries_told
  pub tries-defined : (owed_by names_length nothing tries ≡ tries_told) × (remembered names_length tries ≡ 7 ∷ 3 ∷ 3 ∷ [])
  -- naming again replaces: the log is 5 6 6
  pub again-called : CallsAre again again_told
  pub again-defined : (owed_by names_length nothing again ≡ again_told) × (remembered names_length again ≡ 5 ∷ 6 ∷ 6 ∷ [])
  -- 4 4 with 5 put in between at size 1: +2, the cache has 3 misses in place of 1
  pub between-called : insertion_call (4 ∷ 4 ∷ []) 1 5 1 ≡ Ok (pos 2)
  pub between-defined : (cache_misses 1 (4 ∷ 5 ∷ 4 ∷ []) ≡ 3) × (cache_misses 1 (4 ∷ 4 ∷ []) ≡ 1)
  -- the smallest cache for 7, 6, 5, 4, 3 and 2 misses on the seven reads: 0, 1, 2, 2, 3, each with as many words of H read, and 12;
  -- the caches of the sizes 0 to 3 miss 7, 6, 4 and 3 times
  pub allowances-called : map (smallest_call seven_words) (7 ∷ 6 ∷ 5 ∷ 4 ∷ 3 ∷ 2 ∷ [])
      ≡ Ok (record { size = 0; words_read = 0 }) ∷ Ok (record { size = 1; words_read = 1 }) ∷ Ok (record { size = 2; words_read = 2 })
      ∷ Ok (record { size = 2; words_read = 2 }) ∷ Ok (record { size = 3; words_read = 3 }) ∷ Err BelowCold ∷ []
  pub allowances-defined : map (λ c. cache_misses c seven) (from 0 4) ≡ 7 ∷ 6 ∷ 4 ∷ 3 ∷ []
  -- for 4 misses on 1 1 2 3 1: 1, the first of two sizes with as many
  pub level-called : smallest_call (summary_of level) 4 ≡ Ok (record { size = 1; words_read = 1 })
  pub level-defined : map (λ c. cache_misses c level) (from 0 4) ≡ 5 ∷ 4 ∷ 4 ∷ 3 ∷ []
  -- for no miss on no read: size 0, and no word read
  pub nothing-called : smallest_call (0 ∷ 0 ∷ []) 0 ≡ Ok (record { size = 0; words_read = 0 })
  pub nothing-defined : cache_misses 0 [] ≡ 0
