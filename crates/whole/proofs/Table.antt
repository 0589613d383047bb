-- The rows that 01 marks with a star, proved together: by computation, and what groupings hand over by the claim.
use Rattle.std.specs.Prelude.{Ok}
use Prim.Native.Nat.{ℕ, ◌+◌}
use mathlib.Core.Path.{◌≡◌, refl, sym, ap, ◌∙◌}
use native.Mathlib.Omega.{arith}
use mathlib.Core.Bool.{true, false, and-false}
use lib.Dec.{leb}
use borrow.Author.Tests.{leb-true, lt-leb}
use lib.IntN.{negsuc}
use lib.Ieee.{binary64, fin, round}
use lib.ListN.{length}
use mathlib.Core.List.{List, [], ◌∷◌, map}
use Rattle.reuse.specs.Lists.{mem, all_in, distinct, remove, inside, outside, before, firsts, cleanup, from, sum, count}
use Rattle.reuse.specs.Lru.{depth, touch, stack, reuses, since, distance, distances, count_at}
use Rattle.reuse.specs.Cache.{last_read, oldest, evict, admit, hits, cache_hits, cache_misses, hit_count, servable}
use Rattle.reuse.specs.Summary.{words, histogram, summary_of, reads_of, extents_of, first_of, recent_of, counts_of, well_formed, hits_of, misses_of, servable_of, joined_first, joined_recent, shared, across, count_for, joined_count, joined_counts, join_of}
use Rattle.reuse.specs.Limits.{max_reads, max_extents}
use Rattle.reuse.specs.Traces.{Within}
use Rattle.reuse.proofs.Stack.{stack-law}
use Rattle.reuse.proofs.Words.{reads-summary, first-summary, recent-summary}
use Rattle.summary_calls.specs.declared.HitShare.{HitShare}
use Rattle.summary_calls.specs.declared.HitShare.TheVariants.{Share, NoReads}
use Rattle.summary_calls.specs.Calls.{wrote, join_call, misses_call, share_of, share_call}
use Rattle.reuse_rows.specs.Rows.{blank}
use Rattle.after.specs.Calls.{after_call}
use Rattle.session_sums.specs.Sums.{pairs, sums_of, zeros, same}
use Rattle.session_marks.specs.Marks.{marked, tidy, slot_from, looked_of}
use Rattle.session_soundness.specs.Soundness.{sound_rows}
use Rattle.session_calls.specs.declared.Answer.TheVariants.{Cold, Distance}
use Rattle.session_calls.specs.Sessions as full
use Rattle.session.specs.declared.Session.{Session}
use Rattle.session.specs.Sessions.{fresh}
use Rattle.session.proofs.Corresponds.{fresh-new}
use Rattle.session_calls.specs.Reads.{gathered, roomed, slot_of, looked_at, moved, entered, taken, too_many, read_of, sums_read, slots_looked}
use Rattle.whole.specs.RightHand.{full_answers, full_looked}
use Rattle.whole.proofs.RightHand.{corresponds, fresh-full}
use Rattle.whole.specs.Runs.{answers_of, gives}
use Rattle.moments.specs.Names.{place_length, names_length, is_name, place_start, lies, is_set}
use Rattle.moments.proofs.Places.{names-lie}
use Rattle.whole.specs.Owed.{read_owed}
use Rattle.whole.specs.Moments.{Unset}
use Rattle.whole.specs.Remembered.{nothing, remember, owed_by, remembered}
use Rattle.whole.specs.Groupings.{AllUnset, Grouping, parts, log_of, grouped, roomy}
use Rattle.whole.specs.Looks.{looked_along}
use Rattle.whole.specs.Counts.{cache_share}
use Rattle.whole.specs.Table.{front, back, seven, seven_words, front_words, back_words, turned_words, odd_words, five, HitSharesAre, part_of, both_of, tries, tries_told, again, again_told, Table}
use Rattle.insertion_calls.proofs.Examples.{between-cached, called}
use Rattle.allowance_calls.specs.Smallest.{misses_list, first_within, smallest}
use Rattle.allowance_calls.specs.Search.{searched, words_searched}
use Rattle.allowance_calls.specs.Calls.{smallest_call}
use Rattle.whole.proofs.Moments.{run-answers}
use Rattle.whole.proofs.Counts.{counts}
use Rattle.whole.proofs.Groupings.{groupings}

-- a log of two reads, the first of them of 4, and the last too, has one extent
one-extent : (t : List ℕ) → length t ≡ 2 → firsts t ≡ 4 ∷ 6 ∷ [] → stack t ≡ 4 ∷ 6 ∷ [] → ⊥
unfolding firsts remove stack touch
one-extent [] n f r = omega arith
one-extent (x ∷ []) n f r = omega arith
one-extent (x ∷ y ∷ []) n f r =
    let p : x ≡ 4 = cc in
    let q : y ≡ 4 = cc in
    let g : ◌≡◌ {A = List ℕ} (4 ∷ []) (4 ∷ 6 ∷ []) = rw (p, q) at f in
    let z : ◌≡◌ {A = ℕ} 1 2 = ap length g in
    omega arith
one-extent (x ∷ y ∷ z ∷ t) n f r = omega arith

-- so no log has those words
no-log : (t : List ℕ) → summary_of t ≡ odd_words → ⊥
unfolding reads_of first_of recent_of extents_of
no-log t h =
    one-extent t (sym (reads-summary t) ∙ ap reads_of h) (sym (first-summary t) ∙ ap first_of h) (stack-law t ∙ sym (recent-summary t) ∙ ap recent_of h)

-- a short log is within the limits
short-log : (t : List ℕ) → leb (length t) max_reads ≡ true → leb (length (firsts t)) max_extents ≡ true → Within t
short-log t a b = record { reads = leb-true (length t) max_reads a; extents = leb-true (length (firsts t)) max_extents b }

-- the share of a log's words is the log's, and so are those of the session and the watch
same-shares : (c : ℕ) (t : List ℕ) (s : HitShare) → Within t → share_call (summary_of t) c ≡ Ok s → cache_share c t ≡ Ok s → HitSharesAre c t s
same-shares c t s w e f =
    record { of_words = e; of-session = (counts c t w).session-share ∙ f; of-watch = (counts c t w).watch-share ∙ f }

-- 3 by 4 is a float
three_quarters : round binary64 false 3 4 ≡ fin false 3 (negsuc 1)
unfolding round
three_quarters = refl

-- the answers of the tries, with room for the place of name 1
tries-owed : (lent : ℕ) → lies lent 1 ≡ true → owed_by lent nothing tries ≡ tries_told
unfolding owed_by read_owed is_name distance mem since firsts remove
tries-owed lent e = rw e

-- and where a name is replaced
again-owed : (lent : ℕ) → lies lent 1 ≡ true → owed_by lent nothing again ≡ again_told
unfolding owed_by read_owed is_name distance mem since firsts remove
again-owed lent e = rw e

-- the logs that are remembered
tries-log : remembered names_length tries ≡ 7 ∷ 3 ∷ 3 ∷ []
unfolding remembered remember read_owed is_name lies place_start distance mem since firsts remove
tries-log = refl

again-log : remembered names_length again ≡ 5 ∷ 6 ∷ 6 ∷ []
unfolding remembered remember read_owed is_name lies place_start distance mem since firsts remove
again-log = refl

-- words for all names have room for the place of name 1
room-for-one : lies names_length 1 ≡ true
unfolding is_name
room-for-one = names-lie names_length (omega arith) 1 refl

-- the seven reads: what the session with all sums answers, and the slots that it looks at
seven-full : (full_answers full.fresh seven
    ≡ Ok (Cold 1 0) ∷ Ok (Cold 2 1) ∷ Ok (Distance 2 11 2) ∷ Ok (Cold 3 3) ∷ Ok (Distance 3 10 3) ∷ Ok (Distance 1 10 1) ∷ Ok (Distance 2 9 3) ∷ [])
    × (full_looked full.fresh seven
    ≡ [] ∷ (0 ∷ []) ∷ (1 ∷ 0 ∷ []) ∷ (2 ∷ 1 ∷ 0 ∷ []) ∷ (3 ∷ 2 ∷ 1 ∷ []) ∷ (4 ∷ []) ∷ (5 ∷ 4 ∷ 3 ∷ []) ∷ [])
unfolding full_answers full_looked looked_at looked_of read_of full.sound sound_rows full.extents same blank full.marks sums_of pairs tidy full.stack_of full.first_row marked all_in distinct mem roomed gathered slot_of slot_from taken too_many depth moved entered zeros sum
seven-full = (refl, refl)

-- so the session does
seven_run : (answers_of fresh seven
    ≡ Ok (Cold 1 0) ∷ Ok (Cold 2 1) ∷ Ok (Distance 2 11 2) ∷ Ok (Cold 3 3) ∷ Ok (Distance 3 10 3) ∷ Ok (Distance 1 10 1) ∷ Ok (Distance 2 9 3) ∷ [])
    × (looked_along fresh seven
    ≡ [] ∷ (0 ∷ []) ∷ (1 ∷ 0 ∷ []) ∷ (2 ∷ 1 ∷ 0 ∷ []) ∷ (3 ∷ 2 ∷ 1 ∷ []) ∷ (4 ∷ []) ∷ (5 ∷ 4 ∷ 3 ∷ []) ∷ [])
seven_run =
    let c = corresponds full.fresh fresh-full in (
      ap (λ (s : Session). answers_of s seven) (sym fresh-new) ∙ c.answers seven ∙ seven-full.0,
      ap (λ (s : Session). looked_along s seven) (sym fresh-new) ∙ c.looked seven ∙ seven-full.1,
    )

-- no name is set where no words are lent
none-set : Unset []
unfolding is_set lies
none-set k = rw (lt-leb (place_start k + place_length) 0 (omega arith)) (and-false (is_name k))

-- what a grouping of parts by reads alone hands over, by its log's summary
by-log : (g : Grouping) (t w : List ℕ) → Within t → AllUnset (parts g) → log_of (parts g) ≡ t → roomy g ≡ true → summary_of t ≡ w → grouped g ≡ gives w
by-log g t w short unset log room words = groupings t short g unset log ∙ rw (room, words)

-- the rows of the calls and those of the definitions compute; the shares of the session and the watch are the log's
pub table : Table
unfolding smallest_call smallest misses_list first_within words_searched searched distances distance since depth after_call wrote join_call misses_call share_call share_of well_formed words summary_of histogram join_of joined_first joined_recent joined_counts joined_count count_for shared across hits_of misses_of servable_of reads_of extents_of first_of recent_of counts_of mem all_in distinct remove inside outside before firsts cleanup from sum count count_at reuses touch cache_misses cache_hits hit_count servable hits admit evict oldest last_read AllUnset parts log_of roomy remembered remember read_owed is_name lies place_start
table = record {
  sizes-defined = (refl, refl, refl, refl, refl);
  rights-defined = (refl, refl);
  work-defined = λ p. refl;
  reads-called = seven_run.0;
  sums-called = ap (map sums_read) seven_run.0;
  looked-called = ap (map slots_looked) seven_run.0;
  looked-defined = seven_run.1;
  reads-defined = refl;
  later-called = refl;
  later-defined = (refl, refl);
  odd-called = refl;
  odd-defined = (refl, no-log);
  summary-called = by-log (part_of seven) seven seven_words (short-log seven refl refl) (none-set, tt) refl refl refl;
  summary-defined = refl;
  front-called = by-log (part_of front) front front_words (short-log front refl refl) (none-set, tt) refl refl refl;
  front-defined = refl;
  back-called = by-log (part_of back) back back_words (short-log back refl refl) (none-set, tt) refl refl refl;
  back-defined = refl;
  join-called = by-log (both_of front back) seven seven_words (short-log seven refl refl) (none-set, (none-set, tt)) refl refl refl;
  join-defined = refl;
  empty-called = refl;
  empty-defined = (refl, refl);
  misses-called = (refl, refl, refl);
  misses-defined = (refl, refl, refl);
  turned-called =
      by-log (both_of (1 ∷ 2 ∷ []) (2 ∷ 1 ∷ [])) (1 ∷ 2 ∷ 2 ∷ 1 ∷ []) turned_words (short-log (1 ∷ 2 ∷ 2 ∷ 1 ∷ []) refl refl) (none-set, (none-set, tt)) refl refl refl;
  turned-defined = (refl, refl);
  share-called = λ c. same-shares c [] NoReads (short-log [] refl refl) refl refl;
  share-defined = λ c. refl;
  five-called = λ c. same-shares c five NoReads (short-log five refl refl) refl refl;
  five-defined = λ c. refl;
  seven-share-called = same-shares 2 seven (Share (round binary64 false 3 4)) (short-log seven refl refl) refl refl;
  seven-share-defined = (refl, three_quarters);
  tries-called = λ names unset fits. run-answers names unset tries ∙ tries-owed (length names) fits;
  tries-defined = (tries-owed names_length room-for-one, tries-log);
  again-called = λ names unset fits. run-answers names unset again ∙ again-owed (length names) fits;
  again-defined = (again-owed names_length room-for-one, again-log);
  between-called = called.0;
  between-defined = between-cached;
  allowances-called = refl;
  allowances-defined = refl;
  level-called = refl;
  level-defined = refl;
  nothing-called = refl;
  nothing-defined = refl;
}
