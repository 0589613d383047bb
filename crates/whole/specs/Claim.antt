-- The claim about whole runs: 01, 'Demand 3 in full', and what the requests of 02 add to it.
use Rattle.std.specs.Prelude.{ℕ, ◌≤◌, ◌≡◌, List, [], ◌∷◌, ◌++◌, map, Bool, true, false, cond, ◌&&◌, leb, length, Result, Ok, Err}
use Rattle.reuse.specs.declared.refusals.Refusal.{Refusal}
use Rattle.reuse.specs.Lists.{firsts, from}
use Rattle.reuse.specs.Lru.{cold, at, reuses, newcomers, within}
use Rattle.reuse.specs.Cache.{cache_hits}
use Rattle.reuse.specs.Summary.{summary_of, extents_of, well_formed}
use Rattle.reuse.specs.Traces.{Within}
use Rattle.session.specs.declared.Session.{Session}
use Rattle.session_calls.specs.declared.Answer.{Answer}
use Rattle.session_calls.specs.declared.Answer.TheVariants.{Cold, Distance}
use Rattle.session.specs.Sessions.{fresh}
use Rattle.session_calls.specs.Reads.{slots_looked}
use Rattle.session_traces.specs.Walks.{Walks}
use Rattle.session_traces.specs.Looks.{Looks}
use Rattle.session_summary.specs.Summaries.{summary_call}
use Rattle.watch.specs.Watching.{sound_of}
use Rattle.watch_words.specs.Layout.{watch_length, watch_in}
use Rattle.watch_words.specs.Taking.{Taking}
use Rattle.texts.specs.Lines.{got}
use Rattle.texts.specs.Plans.{Plan, reads as plan_reads}
use Rattle.texts.specs.PlanTexts.{plan_of}
use Rattle.plan_calls.specs.Calls.{work_words, run_call}
use Rattle.session_layout.specs.Layout.{session_length}
use Rattle.moments.specs.Refusals.{NamingRefusals, ReturnRefusals}
use Rattle.moments_words.specs.Refusals.{NamingInWords, ReturnInWords}
use Rattle.moments.specs.Names.{names_length, is_name, lies, new_names}
use Rattle.whole.specs.Runs.{planned, session_after, answers_of, written, accepted, gives, refused, outcome, room_for}
use Rattle.whole.specs.Owed.{seen_of, owed}
use Rattle.whole.specs.Moments.{Call, Unset}
use Rattle.whole.specs.Remembered.{spares}
use Rattle.whole.specs.InWords.{InWords}
use Rattle.whole.specs.NamedMoments.{Remembers, ComesBack, ReadsAlone}
use Rattle.whole.specs.Groupings.{AllUnset, Grouping, parts, log_of, grouped, roomy}
use Rattle.split_calls.specs.Refusals.{Refusals}
use Rattle.whole.specs.Newcomers.{Newcomers}
use Rattle.whole.specs.Looks.{looked_along, Looked}
use Rattle.whole.specs.Moves.{FirstMove}
use Rattle.whole.specs.Counts.{Counts}
use Rattle.whole.specs.HitShares.{Serves, HitShares, AnyHitShares}
use Rattle.whole.specs.Splits.{Customers, Splits}
use Rattle.insertion_calls.specs.Refusals.{Refusals as InsertionRefusals}
use Rattle.whole.specs.Insertions.{Insertions, EndsReached}
use Rattle.allowance_calls.specs.Refusals.{Refusals as AllowanceRefusals}
use Rattle.whole.specs.Allowances.{Allowances, LogAllowances}
use Rattle.whole.specs.RightHand.{RightHand}
use Rattle.whole.specs.Cuttings.{Cutting, cut_parts, Follows, cut_distances, cut_roomy}

-- an answer that is a distance of at most c
abbrev pub held_by : ℕ → Result Answer Refusal → Bool
held_by c (Ok (Cold n k)) = within c (cold n)
held_by c (Ok (Distance d n k)) = within c (at d)
held_by c (Err why) = false

-- what holds of every run over the log t
pub record Claims (t : List ℕ) : Type 0 where
  -- the uncut reading refuses no read
  pub accepts : accepted fresh t ≡ t
  -- and answers what the LRU stack does: distances, and cold reads with their numbers
  pub uncut : map seen_of (answers_of fresh t) ≡ map gives (reuses [] t)
  -- the numbers of its cold answers are 1, 2, and so on to the number of the log's extents
  pub growth : newcomers (reuses [] t) ≡ from 1 (length (firsts t))
  -- each of its answers tells how many slots were looked at
  pub slots-looked : map slots_looked (answers_of fresh t) ≡ map length (looked_along fresh t)
  -- those from the newest down to the extent's own mark, or all below next; one for a read of the extent read last
  pub reads-look : (earlier later : List ℕ) (x : ℕ) → earlier ++ (x ∷ later) ≡ t → Looked earlier x
  -- the first read that moves the marks is the one after as many reads as there are slots
  pub first-move : (earlier later : List ℕ) → earlier ++ later ≡ t → FirstMove earlier
  -- its summary is the log's
  pub uncut-summary : (buffer : List ℕ) →
      outcome (summary_call (session_after fresh t) buffer) ≡ cond (room_for t buffer) (gives (summary_of t)) (refused 6)
  -- every grouping of every cutting, each part from a new session with no name set, hands over the same words; a call is
  -- refused with 6 alone, where its buffer is too short
  pub groupings : (g : Grouping) → AllUnset (parts g) → log_of (parts g) ≡ t →
      grouped g ≡ cond (roomy g) (gives (summary_of t)) (refused 6)
  -- an accepted plan is a grouping too: its call hands over the same words, or is refused with 6 alone
  pub plans : (text : List ℕ) (p : Plan) → plan_of text ≡ got p → plan_reads p ≡ length t → (work out : List ℕ) →
      planned (run_call text t work out) ≡ cond (leb (work_words p) (length work) && room_for t out) (gives (summary_of t)) (refused 6)
  -- the parts' distances, end to end, are what the uncut reading's reads answer
  pub distances : (c : Cutting) → Follows c → log_of (cut_parts c) ≡ t →
      cut_distances c ≡ cond (cut_roomy c) (gives (map written (answers_of fresh t))) (refused 6)
  -- in the cache of any size a read is a hit exactly where the uncut reading's answer is a distance of at most the size
  pub caches : (c : ℕ) → cache_hits c t ≡ map (held_by c) (answers_of fresh t)
  -- for every size the summary's words, the session and a watch fed with the answers tell that cache's misses and hit share
  pub counts : (c : ℕ) → Counts c t
  -- for every size the share is 'no reads' exactly if no extent is read twice, else between 0 and 1, and 1 at a size of at least v
  pub hit-shares : (c : ℕ) → HitShares c t
  -- for every allowance the summary's words tell the smallest cache that misses no more often, or that there is none
  pub allowances : (m : ℕ) → LogAllowances t m

-- of every list of calls and every log within the limits
pub record Claim : Type 0 where
  -- a read is refused exactly under the condition of 8, or else of 9, counted with the reads accepted before it
  pub calls : (reads : List ℕ) → map seen_of (answers_of fresh reads) ≡ owed [] reads
  -- a refused read leaves no trace
  pub no-trace : (reads : List ℕ) → session_after fresh reads ≡ session_after fresh (accepted fresh reads)
  -- a naming is refused exactly under the conditions of 2, 7 and 6, in this order, and a return under those of 2, 11 and 7; a
  -- refusal leaves what was there: of any session, any words and any number
  pub naming-refusals : (s : Session) (names : List ℕ) (k : ℕ) → NamingRefusals s names k
  pub return-refusals : (s : Session) (names : List ℕ) (k : ℕ) → ReturnRefusals s names k
  -- with the session in lent words too few of them are 7 for a naming, and 6, last, for a return
  pub naming-in-words : (words names : List ℕ) (k : ℕ) → NamingInWords words names k
  pub return-in-words : (words names : List ℕ) (k : ℕ) → ReturnInWords words names k
  -- reads, namings and returns in any order, from a new session with no name set, answer and leave what the remembered logs say
  pub moments : (names : List ℕ) → Unset names → (calls : List Call) → Remembers names calls
  -- after a return answers are those of the log as it stood at naming, followed by what came after the return
  pub returns : (names : List ℕ) → Unset names → (before : List Call) (k : ℕ) → is_name k ≡ true → lies (length names) k ≡ true →
      (between : List Call) → spares k between ≡ true → (reads : List ℕ) → ComesBack names before k between reads
  -- with the session in lent words they answer the same, and leave its words
  pub in_words : (words : List ℕ) → session_length ≤ length words → (names : List ℕ) → Unset names → (calls : List Call) → InWords words names calls
  -- reads alone are a case
  pub reads-alone : (names reads : List ℕ) → ReadsAlone names reads
  -- new words for names have none set
  pub new-names : (names : List ℕ) → names_length ≤ length names → Unset (new_names names).buffer
  -- the distance of an accepted read of a known extent is 1 plus the total of the right-hand sums on the way up from its slot,
  -- and the sums read are how many these are: of every sound session
  pub walks : Walks
  -- the slots that an accepted read looks at are those from the newest down to its extent's own mark, or all below next: of
  -- every sound session
  pub looks : Looks
  -- and the rest
  pub runs : (t : List ℕ) → Within t → Claims t
  -- after any well-formed words, whether or not a log has them, a cold answer's number counts their extents too
  pub prefixes : (words reads : List ℕ) → well_formed words ≡ true → Newcomers words reads
  -- a watch in words takes exactly the words of answers within the limit, a cold read's whatever its number: of all words that hold a sound watch
  pub watch-words : (words : List ℕ) → watch_length ≤ length words → sound_of (watch_in words) ≡ true → Taking words
  -- the cache of some size serves a read exactly if it is not cold: of every list of reads
  pub serves : (earlier : List ℕ) (x : ℕ) → Serves earlier x
  -- a share is between 0 and 1, and exactly 1 at a size of at least v: of all words, sessions and watches
  pub any-hit-shares : AnyHitShares
  -- a split of one store is refused exactly under the conditions of 2, 5, 10 and 6, in this order, and a refusal leaves every word
  pub split-refusals : (store : ℕ) (leasts words shares : List ℕ) → Refusals store leasts words shares
  -- and of logs within the limits it gives each customer its share: fewest misses in the customers' own caches, then the smallest total, then the smallest shares
  pub splits : (logs : List (List ℕ)) (store : ℕ) (leasts buffer : List ℕ) → Customers logs store leasts → Splits logs store leasts buffer
  -- a read put into a log is refused exactly under the conditions of 2, 8 and 9, in this order
  pub insertion-refusals : (log : List ℕ) (place x c : ℕ) → InsertionRefusals log place x c
  -- else it changes the misses of the cache by −1 to one more than the size: of every log, without limits, and every place, extent and size
  pub insertions : (t : List ℕ) (place x c : ℕ) → Insertions t place x c
  -- both ends of that range are reached
  pub ends-reached : (c : ℕ) → EndsReached c
  -- the smallest cache for an allowance is refused exactly under the conditions of 5 and 12, in this order: of all words and every allowance
  pub allowance-refusals : (words : List ℕ) (m : ℕ) → AllowanceRefusals words m
  -- else it is the first in the full list of misses, and as many words of H were read: of all well-formed words, whether or not a log has them
  pub allowances : (words : List ℕ) (m : ℕ) → well_formed words ≡ true → extents_of words ≤ m → Allowances words m
  -- the session that keeps right-hand sums alone and the one with all sums are one to one where they are sound, answer the same and lead to sessions that correspond
  pub right-hand : RightHand
