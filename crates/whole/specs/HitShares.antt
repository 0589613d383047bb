-- Hit shares: what the divisor counts, and what a share may be, of a log and of any words, session or watch handed in.
use Rattle.std.specs.Prelude.{ℕ, ◌≤◌, ◌≡◌, List, true, false, length, Ok}
use Rattle.reuse.specs.Lists.{mem, firsts, distinct}
use Rattle.reuse.specs.Cache.{cache_after, hit_count, servable}
use Rattle.reuse.specs.Summary.{extents_of, well_formed, servable_of}
use Rattle.summary_calls.specs.declared.HitShare.TheVariants.{Share, NoReads}
use Rattle.summary_calls.specs.Calls.{share_call}
use Rattle.summary_calls.specs.HitShares.{one, NoneOf, Between, Full}
use Rattle.session.specs.Sessions.{Wide, extents, sound}
use Rattle.session.specs.declared.Session.{Session}
use Rattle.session_summary.specs.Summaries.{session_words, share_call as session_share}
use Rattle.watch.specs.declared.Watch.{Watch}
use Rattle.watch.specs.Watching.{sound_of, servable_of as watch_servable, share_call as watch_share}
use Rattle.whole.specs.Counts.{cache_share}

-- the caches that serve a read of x after the reads `earlier`
pub record Serves (earlier : List ℕ) (x : ℕ) : Type 0 where
  -- of a cold read none, of whatever size
  pub of-cold : mem x earlier ≡ false → (c : ℕ) → mem x (cache_after c earlier) ≡ false
  -- of any other each with room for the extents read
  pub of-known : mem x earlier ≡ true → (c : ℕ) → length (firsts earlier) ≤ c → mem x (cache_after c earlier) ≡ true

-- the share of the log t at size c
pub record HitShares (c : ℕ) (t : List ℕ) : Type 0 where
  -- no cache has more hits than there are reads that some size could have served
  pub few : hit_count c t ≤ servable t
  -- one with room for all extents has as many
  pub all : length (firsts t) ≤ c → hit_count c t ≡ servable t
  -- 'no reads' exactly if the log reads no extent twice
  pub none : (distinct t ≡ true → cache_share c t ≡ Ok NoReads) × (cache_share c t ≡ Ok NoReads → distinct t ≡ true)
  -- else a number between 0 and 1
  pub between : Between (cache_share c t)
  -- exactly 1 at a size of at least v
  pub full : length (firsts t) ≤ c → Full (cache_share c t)
  -- and at any size exactly if each read that is not cold is a hit
  pub full-exactly : (hit_count c t ≡ servable t → Full (cache_share c t)) × (cache_share c t ≡ Ok (Share one) → hit_count c t ≡ servable t)

-- the shares of any words, session and watch handed in, whether or not a log has them; a session's rows have the lengths of
-- its arrays (`Wide`)
pub record AnyHitShares : Type 0 where
  -- 'no reads' exactly where each read is cold
  pub words-none : (w : List ℕ) (c : ℕ) → well_formed w ≡ true → NoneOf (servable_of w) (share_call w c)
  pub session-none : (s : Session) (c : ℕ) → Wide s → sound s ≡ true → NoneOf (servable_of (session_words s)) (session_share s c)
  pub watch-none : (w : Watch) → sound_of w ≡ true → NoneOf (watch_servable w) (watch_share w)
  -- else between 0 and 1
  pub words-between : (w : List ℕ) (c : ℕ) → Between (share_call w c)
  pub session-between : (s : Session) → Wide s → (c : ℕ) → Between (session_share s c)
  pub watch-between : (w : Watch) → Between (watch_share w)
  -- exactly 1 at a size of at least v
  pub words-full : (w : List ℕ) (c : ℕ) → extents_of w ≤ c → Full (share_call w c)
  pub session-full : (s : Session) → Wide s → (c : ℕ) → extents s ≤ c → Full (session_share s c)
