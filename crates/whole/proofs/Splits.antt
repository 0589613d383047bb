-- The split of a store among logs: the caches' misses, and none better.
use Rattle.std.specs.Prelude.{Ok}
use Prim.Native.Nat.{ℕ, zero, suc, ◌≤◌}
use native.Mathlib.Omega.{arith}
use mathlib.Core.Path.{◌≡◌, refl, sym, ap, ◌∙◌}
use mathlib.Core.Logic.{inl, inr}
use mathlib.Core.Bool.{true}
use mathlib.Core.List.{List, ◌∷◌, [], ◌++◌, map, flatten, Memᴰ}
use lib.ListN.{length, drop, get_or, length-map}
use Rattle.reuse.specs.Lists.{sum, firsts}
use Rattle.reuse.specs.Summary.{summary_of, extents_of, well_formed}
use Rattle.reuse.specs.Traces.{Within}
use Rattle.reuse.proofs.Lists.{clash}
use Rattle.reuse.proofs.Words.{extents-summary}
use Rattle.reuse.proofs.Formed.{summary-well-formed}
use Rattle.split_calls.specs.Split.{Best, split_of, rank}
use Rattle.split_calls.specs.Cuts.{cut_summaries}
use Rattle.split_calls.specs.Calls.{all_formed, divided}
use Rattle.split_calls.specs.Refusals.{Outside, SomeBad}
use Rattle.split_calls.proofs.Members.{map-mem}
use Rattle.split_calls.proofs.Cuts.{cut-joined, formed-each, each-formed}
use Rattle.split_calls.proofs.Best.{split-best, split-caches}
use Rattle.split_calls.proofs.Steps.{split-small}
use Rattle.split_calls.proofs.Calls.{customers-fit, call-split}
use Rattle.split_calls.proofs.Refusals.{refusals}
use Rattle.whole.specs.Splits.{Customers, split_of_logs, Shared, Splits}

-- v of a customer's summary
extents-at : (logs : List (List ℕ)) (i : ℕ) → extents_of (get_or (map summary_of logs) i []) ≡ length (firsts (get_or logs i []))
extents-at [] i = unfold extents_of firsts in refl
extents-at (t ∷ logs) zero = extents-summary t
extents-at (t ∷ logs) (suc i) = extents-at logs i

module _ (logs : List (List ℕ)) (store : ℕ) (leasts buffer : List ℕ) (c : Customers logs store leasts) where
  -- the customers' summaries
  abbrev summaries : List (List ℕ)
  summaries = map summary_of logs

  -- each is well formed
  each-well : (w : List ℕ) → Memᴰ w summaries → well_formed w ≡ true
  each-well w m =
      let (t, n, e) = map-mem summary_of logs m in
      let k : Within t = c.within t n in
      rw e (summary-well-formed t k.reads k.extents)

  -- they are found again in their words
  cut_again : cut_summaries (length leasts) (flatten summaries) ≡ summaries
  cut_again = ap (λ (n : ℕ). cut_summaries n (flatten summaries)) (sym c.each ∙ sym (simp length-map)) ∙ cut-joined summaries each-well

  -- and pass the test
  all-well : all_formed (cut_summaries (length leasts) (flatten summaries)) ≡ true
  all-well = ap all_formed cut_again ∙ formed-each summaries each-well

  -- the split of them
  abbrev shares : List ℕ
  shares = split_of summaries leasts store

  -- shares as 02 asks for, over the caches
  shared : sum leasts ≤ store → length leasts ≤ length buffer → Shared logs store leasts buffer shares
  unfolding split_of_logs divided rank
  shared h k =
      let b : Best summaries leasts store shares = split-best summaries leasts store h in
      record {
        answered =
            call-split store leasts (flatten summaries) buffer c.small (customers-fit (length leasts) c.some c.few) all-well h k
            ∙ ap (λ (ss : List (List ℕ)). divided ss leasts store buffer) cut_again
            ∙ ap (λ (n : ℕ). record { answer = Ok n; shares = shares ++ drop (length leasts) buffer }) (split-caches logs shares);
        allowed = b.allowed;
        needed = λ i. rw (← extents-at logs i) (split-small summaries leasts store h i);
        best = λ others a.
            rw (← split-caches logs shares, ← split-caches logs others) (b.first others a);
      }

  -- the numbers are in order
  inside : Outside store leasts → ⊥
  inside (inl a) = omega (arith, c.small)
  inside (inr (inl a)) = omega (arith, c.some)
  inside (inr (inr a)) = omega (arith, c.few)

  -- and so are the summaries
  none-bad : SomeBad (cut_summaries (length leasts) (flatten summaries)) → ⊥
  none-bad b = clash (each-formed _ all-well b.0 b.1) b.2

  -- what holds of every such split
  pub splits : Splits logs store leasts buffer
  unfolding split_of_logs
  splits =
      let r = refusals store leasts (flatten summaries) buffer in
      record {
        found = λ h k. (shares, shared h k);
        turned-away = (λ e. (r.ten.0 e).2, λ l. r.ten.1 (inside, none-bad, l));
      }
