-- Hit shares of a log, and of any words, session or watch.
use Prim.Native.Nat.{ℕ, ◌≤◌}
use native.Mathlib.Omega.{arith}
use mathlib.Core.List.{List}
use Rattle.reuse.specs.Lists.{mem}
use Rattle.reuse.specs.Cache.{cache_after, hit_count, servable}
use Rattle.reuse.specs.Traces.{Within}
use Rattle.reuse.proofs.Lists.{by-test, clash}
use Rattle.reuse.proofs.Servable.{served-known, known-served, cache-servable, cache-all, none-servable}
use Rattle.summary_calls.proofs.HitShares.{share-none, share-between, share-full, share-one, words-none, words-between, words-full}
use Rattle.session_summary.proofs.Summaries.{session-none, session-between, session-full}
use Rattle.watch.proofs.HitShares.{watch-none, watch-between}
use Rattle.whole.specs.HitShares.{Serves, HitShares, AnyHitShares}

-- the cache of some size serves a read exactly if it is not cold
pub serves : (earlier : List ℕ) (x : ℕ) → Serves earlier x
serves earlier x = record {
  of-cold = λ m c. by-test (mem x (cache_after c earlier)) (λ h. clash (served-known c earlier x h) m) (λ h. h);
  of-known = λ m c l. known-served c earlier x l m;
}

-- the share of a log within the limits
pub hit-shares : (t : List ℕ) → Within t → (c : ℕ) → HitShares c t
unfolding servable
hit-shares t w c =
    let h = hit_count c t in
    let n = servable t in
    let few : h ≤ n = cache-servable c t in
    record {
      few = few;
      all = cache-all c t;
      none = (
        λ d. (share-none h n).0 ((none-servable t).0 d),
        λ e. (none-servable t).1 ((share-none h n).1 e),
      );
      between = share-between h n few;
      full = λ l. share-full h n (cache-all c t l);
      full-exactly = (share-full h n, share-one h n few (omega (arith, w.reads)));
    }

-- the share of any words, session or watch
pub any-hit-shares : AnyHitShares
any-hit-shares = record {
  words-none = words-none;
  session-none = session-none;
  watch-none = watch-none;
  words-between = words-between;
  session-between = session-between;
  watch-between = watch-between;
  words-full = words-full;
  session-full = session-full;
}
