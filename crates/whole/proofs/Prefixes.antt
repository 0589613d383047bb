-- The distances of each part after its prefix, end to end.
use Prim.Native.Nat.{ℕ, ◌+◌, ◌≤◌}
use mathlib.Core.Path.{◌≡◌, refl, sym, ap, ◌∙◌}
use mathlib.Core.List.{List, [], ◌∷◌, ◌++◌, map, map-append}
use mathlib.Core.Bool.{Bool, true, false, cond, ◌&&◌}
use native.Mathlib.Omega.{arith}
use lib.Dec.{leb}
use lib.ListN.{length, length-append, length-map}
use borrow.Author.Tests.{le-leb}
use Rattle.reuse.specs.Limits.{max_reads, max_extents}
use Rattle.reuse.specs.Lists.{firsts}
use Rattle.reuse.specs.Lru.{reuses}
use Rattle.reuse.specs.Summary.{summary_of, reads_of, first_of, recent_of}
use Rattle.reuse.specs.Traces.{Within}
use Rattle.reuse.proofs.Lists.{firsts-append}
use Rattle.reuse.proofs.Distinct.{distinct-firsts, firsts-distinct}
use Rattle.reuse.proofs.Stack.{length-reuses}
use Rattle.reuse.proofs.Words.{reads-summary, first-summary}
use Rattle.reuse.proofs.Join.{part-law}
use Rattle.reuse.proofs.Monoid.{empty-summary}
use Rattle.reuse.proofs.Formed.{summary-well-formed}
use Rattle.reuse.proofs.Traces.{within-front}
use Rattle.summary_calls.specs.Calls.{wrote}
use Rattle.reuse.specs.Written.{word_of}
use Rattle.after.specs.Calls.{after_call}
use Rattle.whole.specs.Runs.{gives, refused, outcome}
use Rattle.whole.specs.Groupings.{part_log, AllUnset, Grouping, parts, log_of, grouped, roomy}
use Rattle.whole.specs.Cuttings.{Cutting, only, and_then, cut_parts, Follows, after, end_to_end, cut_distances, cut_roomy}
use Rattle.whole.proofs.Groupings.{log-append, log-one, outcome-wrote, grouping-outcome}

-- the extents of a part after F of its prefix are those of the two end to end
pub firsts_after : (a b : List ℕ) → firsts (firsts a ++ b) ≡ firsts (a ++ b)
firsts_after a b =
    firsts-append (firsts a) b
    ∙ rw (firsts-distinct (firsts a) (distinct-firsts a)) (sym (firsts-append a b))

-- a part after a log's summary, both within the limits, is written or refused with 6
pub after-trace : (a b buffer : List ℕ) → Within (a ++ b)
    → after_call (summary_of a) b buffer ≡ wrote (map word_of (reuses (recent_of (summary_of a)) b)) buffer
unfolding after_call
after-trace a b buffer w =
    rw (
      summary-well-formed a front.reads front.extents,
      le-leb (reads_of (summary_of a) + length b) max_reads reads,
      le-leb (length (firsts (first_of (summary_of a) ++ b))) max_extents extents,
    )
  where
    -- the prefix is within the limits
    front : Within a
    front = within-front a b w

    -- no 8
    reads : reads_of (summary_of a) + length b ≤ max_reads
    reads = omega (arith, reads-summary a, length-append a b)

    -- no 9
    extents : length (firsts (first_of (summary_of a) ++ b)) ≤ max_extents
    extents = rw (first-summary a, firsts_after a b) w.extents

-- what it hands over
pub after-outcome : (a b buffer : List ℕ) → Within (a ++ b)
    → after (gives (summary_of a)) b buffer
    ≡ cond (leb (length b) (length buffer)) (gives (map word_of (reuses (recent_of (summary_of a)) b))) (refused 6)
after-outcome a b buffer w =
    let answer : List ℕ = map word_of (reuses (recent_of (summary_of a)) b) in
    let long : length answer ≡ length b = simp (length-map, length-reuses) in
    ap outcome (after-trace a b buffer w) ∙ outcome-wrote answer buffer
    ∙ ap (λ (n : ℕ). cond (leb n (length buffer)) (gives answer) (refused 6)) long

-- the words of a trace and then a part, by R of the trace
pub words-law : (a b : List ℕ) → map word_of (reuses [] a) ++ map word_of (reuses (recent_of (summary_of a)) b) ≡ map word_of (reuses [] (a ++ b))
words-law a b = sym (ap (map word_of) (part-law a b) ∙ map-append word_of (reuses [] a) (reuses (recent_of (summary_of a)) b))

-- the first part, after 0 0
pub first-outcome : (t buffer : List ℕ) → Within t
    → after (gives (0 ∷ 0 ∷ [])) t buffer ≡ cond (leb (length t) (length buffer)) (gives (map word_of (reuses [] t))) (refused 6)
unfolding reuses
first-outcome t buffer w = rw (← empty-summary) (after-outcome [] t buffer w ∙ rw (words-law [] t))

-- a part after a grouping of all the parts before it
pub later-outcome : (g : Grouping) → AllUnset (parts g) → (b buffer : List ℕ) → Within (log_of (parts g) ++ b)
    → after (grouped g) b buffer
    ≡ cond (roomy g && leb (length b) (length buffer)) (gives (map word_of (reuses (recent_of (summary_of (log_of (parts g)))) b))) (refused 6)
later-outcome g u b buffer w = rw (grouping-outcome g u (within-front (log_of (parts g)) b w)) (by (roomy g))
  where
    -- by the room of the grouping
    by : (c : Bool)
        → after (cond c (gives (summary_of (log_of (parts g)))) (refused 6)) b buffer
        ≡ cond (c && leb (length b) (length buffer)) (gives (map word_of (reuses (recent_of (summary_of (log_of (parts g)))) b))) (refused 6)
    by true = after-outcome (log_of (parts g)) b buffer w
    by false = refl

-- the distances of a cutting, end to end, are its trace's; a call of it is refused with 6 alone
pub cutting-outcome : (c : Cutting) → Follows c → Within (log_of (cut_parts c))
    → cut_distances c ≡ cond (cut_roomy c) (gives (map word_of (reuses [] (log_of (cut_parts c))))) (refused 6)
unfolding cut_distances cut_roomy cut_parts Follows
cutting-outcome (only q buffer) p w = rw (log-one q) (first-outcome (part_log q) buffer (rw (log-one q) at w))
cutting-outcome (and_then c g q buffer) p w = by (cut_roomy c) (roomy g) (leb (length b) (length buffer)) (cutting-outcome c p.0 front) later
  where
    -- the log of the earlier parts
    a : List ℕ
    a = log_of (cut_parts c)

    -- the part
    b : List ℕ
    b = part_log q

    -- the two end to end
    ends : log_of (cut_parts c ++ (q ∷ [])) ≡ a ++ b
    ends = log-append (cut_parts c) (q ∷ []) ∙ ap (λ (l : List ℕ). a ++ l) (log-one q)

    -- they are within the limits
    both : Within (a ++ b)
    both = rw ends at w

    -- so are the earlier parts
    front : Within a
    front = within-front a b both

    -- the part after its prefix
    later : after (grouped g) b buffer ≡ cond (roomy g && leb (length b) (length buffer)) (gives (map word_of (reuses (recent_of (summary_of a)) b))) (refused 6)
    later = rw p.2 at (later-outcome g p.1 b buffer (rw p.2 both))

    -- by the room of each
    by : (d e f : Bool)
        → cut_distances c ≡ cond d (gives (map word_of (reuses [] a))) (refused 6)
        → after (grouped g) b buffer ≡ cond (e && f) (gives (map word_of (reuses (recent_of (summary_of a)) b))) (refused 6)
        → end_to_end (cut_distances c) (after (grouped g) b buffer)
        ≡ cond (d && (e && f)) (gives (map word_of (reuses [] (log_of (cut_parts c ++ (q ∷ [])))))) (refused 6)
    by true true true h k = rw (h, k, ends) (ap gives (words-law a b))
    by true true false h k = rw (h, k)
    by true false f h k = rw (h, k)
    by false e f h k = rw h
