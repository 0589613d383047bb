-- The claim about whole runs, proved.
use Rattle.std.specs.Prelude.{Result, Ok, Err}
use Rattle.reuse.specs.declared.refusals.Refusal.{Refusal}
use Prim.Native.Nat.{ℕ}
use mathlib.Core.Path.{◌≡◌, refl, sym, ap, ◌∙◌}
use mathlib.Core.List.{List, [], ◌∷◌, map, map-map}
use mathlib.Core.Bool.{Bool, false, cond}
use Rattle.reuse.specs.Lru.{reuses, within}
use Rattle.reuse.specs.Cache.{cache_hits}
use Rattle.reuse.specs.Traces.{Within}
use Rattle.reuse.proofs.Cache.{cache-law}
use Rattle.reuse.proofs.Formed.{formed}
use Rattle.reuse.proofs.Newcomers.{trace-numbers}
use Rattle.reuse.proofs.Prefixes.{prefix-newcomer, prefix-numbers}
use Rattle.reuse.proofs.Traces.{within-front}
use Rattle.session_calls.specs.declared.Answer.{Answer}
use Rattle.session_calls.specs.declared.Answer.TheVariants.{Cold, Distance}
use Rattle.session.specs.Sessions.{fresh}
use Rattle.session_traces.proofs.Stands.{fresh-stands}
use Rattle.session_traces.proofs.Read.{walks}
use Rattle.session_traces.proofs.Looks.{looks}
use Rattle.whole.specs.Runs.{answers_of, written, session_after, gives, refused}
use Rattle.whole.specs.Groupings.{log_of}
use Rattle.whole.specs.Cuttings.{Cutting, cut_parts, Follows, cut_distances, cut_roomy}
use Rattle.whole.specs.Owed.{Seen, seen_of}
use Rattle.whole.specs.Claim.{held_by, Claims, Claim}
use Rattle.whole.proofs.Calls.{calls-owed, no-trace, all-accepted, trace-stands, uncut, uncut-words}
use Rattle.moments.proofs.Places.{new-unset}
use Rattle.moments.proofs.Refusals.{naming-refusals, return-refusals}
use Rattle.moments_words.proofs.Refusals.{naming-in-words, return-in-words}
use Rattle.whole.proofs.NamedMoments.{remembers, comes_back, reads-alone}
use Rattle.whole.proofs.InWords.{in_words}
use Rattle.whole.proofs.Groupings.{session-outcome, groupings}
use Rattle.whole.proofs.Plans.{plan-outcome}
use Rattle.whole.proofs.Prefixes.{cutting-outcome}
use Rattle.watch_words.proofs.Fed.{taking}
use Rattle.split_calls.proofs.Refusals.{refusals}
use Rattle.whole.proofs.Looks.{looked-along, log-looks}
use Rattle.whole.proofs.Moves.{first-move}
use Rattle.whole.proofs.Counts.{counts}
use Rattle.whole.proofs.HitShares.{serves, hit-shares, any-hit-shares}
use Rattle.whole.proofs.Splits.{splits}
use Rattle.insertion_calls.proofs.Refusals.{refusals as insertion-refusals}
use Rattle.whole.proofs.Insertions.{insertions, ends-reached}
use Rattle.allowance_calls.proofs.Refusals.{refusals as allowance-refusals}
use Rattle.whole.proofs.Allowances.{allowances, log-allowances}
use Rattle.whole.proofs.RightHand.{right-hand}

-- a cache of this size holds the extent, by what was seen
abbrev held : ℕ → Seen → Bool
held size (gives r) = within size r
held size (refused n) = false

-- what was seen of an answer tells whether the cache holds the extent
held-seen : (size : ℕ) (a : Result Answer Refusal) → held size (seen_of a) ≡ held_by size a
held-seen size (Ok (Cold n k)) = refl
held-seen size (Ok (Distance d n k)) = refl
held-seen size (Err why) = refl

-- so of a list of answers
held-answers : (size : ℕ) (l : List (Result Answer Refusal)) → map (held size) (map seen_of l) ≡ map (held_by size) l
held-answers size [] = refl
held-answers size (a ∷ l) = rw (held-answers size l, held-seen size a)

-- a cache of any size holds the extent exactly where the answer is a distance of at most the size
pub caches : (t : List ℕ) → Within t → (size : ℕ) → cache_hits size t ≡ map (held_by size) (answers_of fresh t)
caches t w size =
    cache-law size t
    ∙ sym (map-map (held size) gives (reuses [] t))
    ∙ ap (map (held size)) (sym (uncut t w))
    ∙ held-answers size (answers_of fresh t)

-- every cutting of t with its distances
pub distances : (t : List ℕ) → Within t → (c : Cutting) → Follows c → log_of (cut_parts c) ≡ t
    → cut_distances c ≡ cond (cut_roomy c) (gives (map written (answers_of fresh t))) (refused 6)
distances t w c p e =
    (rw e at (cutting-outcome c p (rw e w)))
    ∙ ap (λ (l : List ℕ). cond (cut_roomy c) (gives l) (refused 6)) (sym (uncut-words t w))

-- what holds of every run over a trace within the limits
pub runs : (t : List ℕ) → Within t → Claims t
runs t w = record {
  accepts = all-accepted t fresh [] fresh-stands w;
  uncut = uncut t w;
  growth = trace-numbers t;
  slots-looked = looked-along t fresh [] fresh-stands w;
  reads-look = λ earlier later x e. log-looks earlier later x (rw e w);
  first-move = λ earlier later e. first-move earlier (within-front earlier later (rw e w));
  uncut-summary = λ buffer. session-outcome (session_after fresh t) t buffer (trace-stands t w);
  groupings = groupings t w;
  plans = plan-outcome t w;
  distances = distances t w;
  caches = caches t w;
  counts = λ c. counts c t w;
  hit-shares = hit-shares t w;
  allowances = log-allowances t w;
}

-- demand 3, named moments, the numbers of newcomers after any words, what a watch in words takes, what a hit share may be, the split of one store, one more read, the smallest cache for an allowance, and right-hand sums alone
pub claim : Claim
claim = record {
  calls = calls-owed;
  no-trace = no-trace;
  naming-refusals = naming-refusals;
  return-refusals = return-refusals;
  naming-in-words = naming-in-words;
  return-in-words = return-in-words;
  moments = remembers;
  returns = comes_back;
  in_words = in_words;
  reads-alone = reads-alone;
  new-names = new-unset;
  walks = walks;
  looks = looks;
  runs = runs;
  prefixes = λ w reads h. record { next = prefix-newcomer w (formed w h) reads; in_order = prefix-numbers w (formed w h) reads };
  watch-words = taking;
  serves = serves;
  any-hit-shares = any-hit-shares;
  split-refusals = refusals;
  splits = splits;
  insertion-refusals = insertion-refusals;
  insertions = insertions;
  ends-reached = ends-reached;
  allowance-refusals = allowance-refusals;
  allowances = λ words m h. allowances words h m;
  right-hand = right-hand;
}
