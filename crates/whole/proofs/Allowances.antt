-- The smallest cache for a miss allowance, of any summary's words and of logs, proved.
use Rattle.std.specs.Prelude.{Result, Ok}
use Rattle.reuse.specs.declared.refusals.Refusal.{Refusal}
use Prim.Native.Nat.{ℕ, suc, ◌≤◌}
use mathlib.Core.Path.{◌≡◌, sym, ap, ◌∙◌, fun_ext}
use native.Mathlib.Omega.{arith}
use mathlib.Core.List.{List, [], map, map-map}
use mathlib.Core.Bool.{Bool, true, false, cond}
use lib.ListN.{length}
use Rattle.reuse.specs.Lists.{firsts, from, count}
use Rattle.reuse.specs.Lru.{reuses, is_cold}
use Rattle.reuse.specs.Cache.{cache_misses}
use Rattle.reuse.specs.Summary.{summary_of, extents_of, misses_of, well_formed}
use Rattle.reuse.specs.Traces.{Within}
use Rattle.reuse.proofs.Words.{extents-summary}
use Rattle.reuse.proofs.Formed.{formed, summary-well-formed}
use Rattle.reuse.proofs.Misses.{summary-cache}
use Rattle.reuse.proofs.Newcomers.{cold-count}
use Rattle.summary_calls.specs.Calls.{misses_call}
use Rattle.allowance_calls.specs.Smallest.{misses_list, smallest, SmallestOfAll}
use Rattle.allowance_calls.specs.Calls.{smallest_call}
use Rattle.allowance_calls.specs.Refusals.{Refusals}
use Rattle.allowance_calls.proofs.Smallest.{smallest-listed, smallest-of-all}
use Rattle.allowance_calls.proofs.Search.{words-front}
use Rattle.allowance_calls.proofs.Calls.{call-size}
use Rattle.allowance_calls.proofs.Refusals.{refusals}
use Rattle.whole.specs.Runs.{gives, refused}
use Rattle.whole.specs.Groupings.{roomy}
use Rattle.whole.specs.Allowances.{Allowances, LogAllowances}
use Rattle.whole.proofs.Groupings.{groupings}

module _ (w : List ℕ) (h : well_formed w ≡ true) where
  -- the call for the misses at any size
  miss : (c : ℕ) → misses_call w c ≡ Ok (misses_of w c)
  unfolding misses_call
  miss c = rw h

  -- at all sizes to v
  listed : map (misses_call w) (from 0 (suc (extents_of w))) ≡ map Ok (misses_list w)
  unfolding misses_list
  listed =
      ap (λ (f : ℕ → Result ℕ Refusal). map f (from 0 (suc (extents_of w)))) (fun_ext miss)
      ∙ sym (map-map Ok (misses_of w) (from 0 (suc (extents_of w))))

  -- of every allowance of at least the cold reads
  pub allowances : (m : ℕ) → extents_of w ≤ m → Allowances w m
  allowances m e = record {
    listed = listed;
    answered = call-size w m h e;
    upwards = words-front w m (formed w h) e;
    in_list = smallest-listed w m e;
    of-all = smallest-of-all w m e;
  }

-- words that were handed over are those that were to be
handed : (b : Bool) (v w : List ℕ) → cond b (gives v) (refused 6) ≡ gives w → w ≡ v
handed true v w e = cc
handed false v w e = absurd (let x : ◌≡◌ {A = ℕ} 0 1 = cc in omega arith)

module _ (t : List ℕ) (w : Within t) (m : ℕ) where
  -- its summary passes the test
  passes : well_formed (summary_of t) ≡ true
  passes = summary-well-formed t w.reads w.extents

  -- it has as many cold reads as extents
  colds : count is_cold (reuses [] t) ≡ extents_of (summary_of t)
  colds = cold-count t ∙ sym (extents-summary t)

  -- the misses from it are those of the caches, at all sizes to the number of extents
  cached : misses_list (summary_of t) ≡ map (λ c. cache_misses c t) (from 0 (suc (length (firsts t))))
  unfolding misses_list
  cached =
      ap (λ (f : ℕ → ℕ). map f (from 0 (suc (extents_of (summary_of t))))) (fun_ext (λ c. summary-cache c t))
      ∙ ap (λ (n : ℕ). map (λ c. cache_misses c t) (from 0 (suc n))) (extents-summary t)

  -- the size answered, from the cold reads up
  found : extents_of (summary_of t) ≤ m → (s : ℕ) × (smallest_call (summary_of t) m ≡ Ok (record { size = s; words_read = s })) × SmallestOfAll (λ c. cache_misses c t) m s
  found e = (
    smallest (summary_of t) m,
    call-size (summary_of t) m passes e,
    λ c. rw (summary-cache c t) at (smallest-of-all (summary_of t) m e c),
  )

  -- of every allowance
  pub log-allowances : LogAllowances t m
  log-allowances =
      let r : Refusals (summary_of t) m = refusals (summary_of t) m in
      record {
        cached = cached;
        found = λ e. found (omega (arith, colds));
        turned-away = (λ e. omega (arith, colds, (r.twelve.0 e).1), λ l. r.twelve.1 (passes, omega (arith, colds)));
        no-cache = (
          λ e c. omega (arith, summary-cache c t, (r.none-suffices.0 e).1 c),
          λ f. r.none-suffices.1 (passes, λ c. omega (arith, summary-cache c t, f c)),
        );
        handed-over = λ g u e words h.
            ap (λ (v : List ℕ). smallest_call v m) (handed (roomy g) (summary_of t) words (sym (groupings t w g u e) ∙ h));
      }
