-- A watch fed the answers to a trace has that trace's counts, and never disagrees with its summary.
use Rattle.std.specs.Prelude.{Ok}
use mathlib.Core.Path.{◌≡◌, refl, ap, ◌∙◌}
use Prim.Native.Nat.{ℕ, suc, ◌+◌, ◌-◌, ◌≤◌}
use native.Mathlib.Omega.{arith}
use mathlib.Core.List.{List, [], ◌∷◌}
use lib.Dec.{leb}
use lib.ListN.{length}
use borrow.Author.Tests.{ne_eqb, le-leb}
use Rattle.reuse.specs.Limits.{max_reads, max_extents}
use Rattle.reuse.specs.Lists.{firsts, count}
use Rattle.reuse.specs.Lru.{Reuse, cold, at, reuses, is_cold, within, misses_at}
use Rattle.reuse.specs.Written.{UpTo}
use Rattle.reuse.specs.Cache.{servable}
use Rattle.reuse.specs.Summary.{summary_of, misses_of, servable_of}
use Rattle.reuse.proofs.Lists.{by-test}
use Rattle.reuse.proofs.Stack.{length-reuses}
use Rattle.reuse.proofs.Counts.{count-append}
use Rattle.reuse.proofs.Formed.{summary-formed}
use Rattle.reuse.proofs.Newcomers.{AllUpTo, cold-count, trace-up-to}
use Rattle.reuse.proofs.Misses.{within-misses, summary-misses, summary-hits}
use Rattle.reuse.proofs.Servable.{servable-summary}
use Rattle.summary_calls.specs.Calls.{share_at}
use Rattle.session.specs.declared.Session.{Session}
use Rattle.session.specs.Reads.{step_at}
use Rattle.watch.specs.declared.Watch.{Watch}
use Rattle.watch.specs.Watching.{new_of, counted_by, noted_of, misses_call, share_call, heard_of, reading_of, watch_after}
use Rattle.watch.proofs.Soundness.{Sound, watch-sound}

-- an accepted read's answer is heard as its place in the stack
pub heard-step : (s : Session) (x : ℕ) (r : Reuse) → heard_of (step_at s x r).answer ≡ Ok (reading_of r)
heard-step s x (cold n) = refl
heard-step s x (at d) = refl

-- a watch of these counts
abbrev watch_of : ℕ → ℕ → ℕ → ℕ → Watch
watch_of size reads new hits = record { size = size; reads = reads; cold = new; hits = hits }

-- a read is cold, a hit, or neither
one-read : (c : ℕ) (r : Reuse) → count is_cold (r ∷ []) + count (within c) (r ∷ []) ≤ 1
unfolding count
one-read c (cold n) = omega arith
one-read c (at d) = by-test (leb d c) (λ e. simp e (omega arith)) (λ e. simp e (omega arith))

-- one answer
one : (w : Watch) (r : Reuse) → Sound w → suc w.reads ≤ max_reads → UpTo max_extents r
    → (noted_of w (reading_of r)).watch ≡ watch_of w.size (w.reads + 1) (w.cold + count is_cold (r ∷ [])) (w.hits + count (within w.size) (r ∷ []))
unfolding noted_of counted_by count
one w (cold n) s l h = rw (watch-sound w s, ne_eqb w.reads max_reads (λ e. omega arith))
one w (at d) s l h = rw (watch-sound w s, le-leb 1 d h.0, le-leb d max_extents h.1, ne_eqb w.reads max_reads (λ e. omega arith))

-- two watches with the same counts
same : (size : ℕ) (a b c d e f : ℕ) → a ≡ b → c ≡ d → e ≡ f → watch_of size a c e ≡ watch_of size b d f
same size a b c d e f p q r = rw (p, q, r)

-- a list of answers
pub fed : (w : Watch) (rs : List Reuse) → Sound w → w.reads + length rs ≤ max_reads → AllUpTo max_extents rs
    → watch_after w rs ≡ watch_of w.size (w.reads + length rs) (w.cold + count is_cold rs) (w.hits + count (within w.size) rs)
unfolding watch_after AllUpTo
fed w [] s l h = unfold count in same w.size w.reads (w.reads + 0) w.cold (w.cold + 0) w.hits (w.hits + 0) (omega arith) (omega arith) (omega arith)
fed w (r ∷ rs) s l h =
    let n : ℕ = count is_cold (r ∷ []) in
    let k : ℕ = count (within w.size) (r ∷ []) in
    let v : Watch = watch_of w.size (w.reads + 1) (w.cold + n) (w.hits + k) in
    let cs : count is_cold (r ∷ rs) ≡ n + count is_cold rs = count-append is_cold (r ∷ []) rs in
    let hs : count (within w.size) (r ∷ rs) ≡ k + count (within w.size) rs = count-append (within w.size) (r ∷ []) rs in
    let sv : Sound v = record { fits = omega (arith, s.fits, one-read w.size r); short = omega arith } in
    rw (one w r s (omega arith) h.0)
    (fed v rs sv (omega arith) h.1
    ∙ same w.size (w.reads + 1 + length rs) (w.reads + suc (length rs))
    (w.cold + n + count is_cold rs) (w.cold + count is_cold (r ∷ rs))
    (w.hits + k + count (within w.size) rs) (w.hits + count (within w.size) (r ∷ rs))
    (omega arith) (omega arith) (omega arith))

-- a watch fed the answers to a trace within the limits
module _ (c : ℕ) (t : List ℕ) (short : length t ≤ max_reads) (few : length (firsts t) ≤ max_extents) where
  -- it has the trace's reads, cold reads and hits
  pub watch-trace : watch_after (new_of c) (reuses [] t) ≡ watch_of c (length t) (count is_cold (reuses [] t)) (count (within c) (reuses [] t))
  watch-trace =
      let n : length (reuses [] t) ≡ length t = length-reuses [] t in
      fed (new_of c) (reuses [] t) (record { fits = omega arith; short = omega arith }) (omega arith) (trace-up-to max_extents t few)
      ∙ same c (0 + length (reuses [] t)) (length t) (0 + count is_cold (reuses [] t)) (count is_cold (reuses [] t)) (0 + count (within c) (reuses [] t)) (count (within c) (reuses [] t))
      (omega arith) (omega arith) (omega arith)

  -- it is sound
  watch-fits : Sound (watch_of c (length t) (count is_cold (reuses [] t)) (count (within c) (reuses [] t)))
  unfolding misses_at
  watch-fits = record { fits = omega (arith, within-misses c (reuses [] t), length-reuses [] t); short = short }

  -- its misses are those of the trace's summary at its size
  pub watch-misses : misses_call (watch_after (new_of c) (reuses [] t)) ≡ Ok (misses_of (summary_of t) c)
  unfolding misses_call
  watch-misses =
      let e : length t - count (within c) (reuses [] t) ≡ misses_of (summary_of t) c =
      omega (arith, within-misses c (reuses [] t), length-reuses [] t, summary-misses c t) in
      rw (watch-trace, watch-sound _ watch-fits) (ap Ok e)

  -- the reads that some size could have served are the summary's
  watch-servable : length t - count is_cold (reuses [] t) ≡ servable_of (summary_of t)
  unfolding servable
  watch-servable = rw (cold-count t, servable-summary t)

  -- its share is the summary's
  pub watch-share : share_call (watch_after (new_of c) (reuses [] t)) ≡ Ok (share_at (summary_of t) c)
  unfolding share_call
  watch-share = rw (watch-trace, watch-sound _ watch-fits, summary-hits c t (summary-formed t short few), watch-servable)
