-- The summary of a sound session, its misses and its share; and of one that has read a trace.
use Rattle.reuse.specs.declared.refusals.Refusal.TheVariants.{Unsound}
use Rattle.std.specs.Prelude.{Ok}
use Prim.Native.Nat.{ℕ, ◌+◌, ◌-◌, ◌≤◌}
use mathlib.Core.Path.{◌≡◌, sym, ap, ◌∙◌}
use mathlib.Core.List.{List}
use mathlib.Core.Bool.{true}
use native.Mathlib.Omega.{arith}
use lib.ListN.{length, take}
use lib.Seq.{length-take-le, take_all, take-take}
use Rattle.reuse.specs.Lists.{sum}
use Rattle.reuse.specs.Cache.{cache_misses}
use Rattle.reuse.specs.Summary.{words, summary_of, reads_of, extents_of, counts_of, hits_of, misses_of, servable_of}
use Rattle.summary_calls.specs.Calls.{wrote, share_at}
use Rattle.summary_calls.specs.HitShares.{NoneOf, Between, Full}
use Rattle.summary_calls.proofs.HitShares.{share-none, share-between, share-full, given-share}
use Rattle.session_calls.specs.Sessions.{FullSession, FullWide, extents, stack_of, first_row, sound}
use Rattle.session_calls.specs.Summaries.{session_words, summary_call, misses_call, share_call}
use Rattle.reuse.proofs.Stack.{stack-law}
use Rattle.reuse.proofs.Counts.{sum-split}
use Rattle.reuse.proofs.Words.{reads-words, extents-words, counts-words}
use Rattle.reuse.proofs.Misses.{summary-cache}
use Rattle.session_calls.proofs.Sound.{Kept, rows_of, length-first, length-stack, kept-few, hist-total}
use Rattle.session_calls.proofs.Stands.{Stands}

-- the words of a session with sound rows
module _ (s : FullSession) (k : Kept s) where
  -- H has v words
  length-hist : length (take (extents s) s.hist) ≡ extents s
  length-hist = length-take-le (extents s) s.hist (omega (arith, kept-few s k, k.rows.hist-wide))

  -- R is as long as F
  recent-long : length (stack_of s) ≡ length (first_row s)
  recent-long = length-stack s k ∙ sym (length-first s k)

  -- so is H
  hist-long : length (take (extents s) s.hist) ≡ length (first_row s)
  hist-long = length-hist ∙ sym (length-first s k)

  -- L of them
  reads-session : reads_of (session_words s) ≡ s.reads
  unfolding session_words
  reads-session = reads-words s.reads (first_row s) (stack_of s) (take (extents s) s.hist)

  -- v of them
  extents-session : extents_of (session_words s) ≡ extents s
  unfolding session_words
  extents-session = extents-words s.reads (first_row s) (stack_of s) (take (extents s) s.hist) ∙ length-first s k

  -- H of them
  counts-session : counts_of (session_words s) ≡ take (extents s) s.hist
  unfolding session_words
  counts-session = counts-words s.reads (first_row s) (stack_of s) (take (extents s) s.hist) recent-long hist-long

  -- the reads that some size could have served are all but one for each mark
  pub servable-session : servable_of (session_words s) ≡ s.reads - extents s
  unfolding servable_of
  servable-session = rw (reads-session, extents-session)

  -- there are no more marks than reads
  pub extents-reads : extents s ≤ s.reads
  extents-reads = omega (arith, hist-total s k)

  -- the hits at a size of at most v
  pub hits-small : (c : ℕ) → c ≤ extents s → sum (take c s.hist) ≡ hits_of (session_words s) c
  unfolding hits_of
  hits-small c h = rw (counts-session, take-take c (extents s) s.hist h)

  -- the hits at a size of v and more
  pub hits-large : (c : ℕ) → extents s ≤ c → sum (take (extents s) s.hist) ≡ hits_of (session_words s) c
  unfolding hits_of
  hits-large c h = rw (counts-session, take_all c (take (extents s) s.hist) (omega (arith, length-hist)))

  -- the hits and the misses make up the reads
  pub hits-reads : (c : ℕ) → hits_of (session_words s) c + misses_of (session_words s) c ≡ s.reads
  unfolding hits_of misses_of
  hits-reads c = rw (extents-session, counts-session) (omega (arith, sum-split c (take (extents s) s.hist), hist-total s k))

-- so no more hits than reads
pub hits_few : (s : FullSession) (k : Kept s) (c n : ℕ) → n ≡ hits_of (session_words s) c → n ≤ s.reads
hits_few s k c n e = omega (arith, hits-reads s k c)

-- a session that has read t has the summary of t
pub session-summary : (s : FullSession) (t : List ℕ) → Stands s t → session_words s ≡ summary_of t
unfolding session_words summary_of
session-summary s t g =
    ap (λ (n : ℕ). words n (first_row s) (stack_of s) (take (extents s) s.hist)) g.counted
    ∙ rw (g.first-known, g.stacked, stack-law t, g.hist-known)

-- it is written out
pub summary-trace : (s : FullSession) (t buffer : List ℕ) → Stands s t → summary_call s buffer ≡ wrote (summary_of t) buffer
unfolding summary_call
summary-trace s t buffer g = simp (g.is-sound, session-summary s t g)

-- its misses are those of the trace's summary
pub misses-trace : (s : FullSession) (t : List ℕ) (c : ℕ) → Stands s t → misses_call s c ≡ Ok (misses_of (summary_of t) c)
unfolding misses_call
misses-trace s t c g = simp (g.is-sound, session-summary s t g)

-- so they are those of the cache that reads the trace
pub misses-cache : (s : FullSession) (t : List ℕ) (c : ℕ) → Stands s t → misses_call s c ≡ Ok (cache_misses c t)
misses-cache s t c g = misses-trace s t c g ∙ ap Ok (summary-cache c t)

-- its share is that of the trace's summary
pub share-trace : (s : FullSession) (t : List ℕ) (c : ℕ) → Stands s t → share_call s c ≡ Ok (share_at (summary_of t) c)
unfolding share_call
share-trace s t c g = simp (g.is-sound, session-summary s t g)

-- the share of a sound session is 'no reads' exactly where each of its reads is cold
pub session-none : (s : FullSession) (c : ℕ) → sound s ≡ true → NoneOf (servable_of (session_words s)) (share_call s c)
unfolding share_call
session-none s c ok = simp ok (share-none (hits_of (session_words s) c) (servable_of (session_words s)))

-- the shares of a session, whether or not a log has it
module _ (s : FullSession) (w : FullWide s) (c : ℕ) where
  -- between 0 and 1
  pub session-between : Between (share_call s c)
  unfolding share_call servable_of misses_of
  session-between x e =
      let q = given-share (sound s) (Ok (share_at (session_words s) c)) Unsound x e in
      let k = rows_of s w q.0 in
      share-between (hits_of (session_words s) c) (servable_of (session_words s)) (omega (arith, hits-reads s k c, reads-session s k)) x q.1

  -- exactly 1 at a size of at least v
  pub session-full : extents s ≤ c → Full (share_call s c)
  unfolding share_call
  session-full l x e =
      let q = given-share (sound s) (Ok (share_at (session_words s) c)) Unsound x e in
      let k = rows_of s w q.0 in
      share-full (hits_of (session_words s) c) (servable_of (session_words s)) (omega (arith, hits-large s k c l, hist-total s k, servable-session s k)) x q.1
