-- The summary of a sound session, its misses and its share; and of one that has read a trace.
use Rattle.std.specs.Prelude.{Result, Ok, Err}
use Rattle.reuse.specs.declared.refusals.Refusal.{Refusal}
use Rattle.reuse.specs.declared.refusals.Refusal.TheVariants.{Unsound}
use Prim.Native.Nat.{ℕ, ◌-◌, ◌≤◌}
use mathlib.Core.Path.{◌≡◌, sym, ap, ◌∙◌}
use mathlib.Core.List.{List, reverse}
use mathlib.Core.Bool.{true, false}
use native.Mathlib.Omega.{arith}
use lib.ListN.{length, take, replicate, length-reverse}
use lib.Seq.{take_at}
use borrow.Author.Tests.{le-leb}
use Rattle.reuse.specs.Cache.{cache_misses}
use Rattle.reuse.specs.Summary.{words, summary_of, misses_of, servable_of}
use Rattle.reuse.specs.Limits.{max_extents, slot_count}
use Rattle.reuse.proofs.Lists.{by-test}
use Rattle.reuse_rows.specs.Rows.{padded}
use Rattle.summary_calls.specs.Calls.{Wrote, wrote, refused, words_call, share_at}
use Rattle.summary_calls.specs.HitShares.{NoneOf, Between, Full}
use Rattle.session_sums.specs.Sums.{filled}
use Rattle.session_marks.specs.Marks.{marked, gathered_row}
use Rattle.session_calls.specs.Sessions as full
use Rattle.session_calls.specs.Summaries as full-calls
use Rattle.session.specs.declared.Session.{Session}
use Rattle.session.specs.Sessions.{Wide, old_of, extents, sound}
use Rattle.session_summary.specs.Summaries.{session_words, summary_call, misses_call, share_call}
use Rattle.summary_calls.proofs.HitShares.{given-share}
use Rattle.reuse_copies.proofs.Padding.{padded-front}
use Rattle.session_marks.proofs.Marks.{row_count}
use Rattle.session_marks.proofs.Passes.{gathered-pair}
use Rattle.session_marks.proofs.Search.{pair_of}
use Rattle.session_calls.proofs.Sound.{Kept, length-first, kept-few}
use Rattle.session_calls.proofs.Summaries as old
use Rattle.session.proofs.Corresponds.{sound-facts, old-kept, old-sound, summed}
use Rattle.session.proofs.Parts.{count-is}
use Rattle.session_traces.proofs.Stands.{Stands}

-- it is written out
pub summary-trace : (s : Session) (t buffer : List ℕ) → Stands s t → summary_call s buffer ≡ wrote (summary_of t) buffer
unfolding summary_call
summary-trace s t buffer g = rw g.is-sound (old.summary-trace (old_of s) t buffer g.full-stands)

-- the misses are those of the cache that reads the trace
pub misses-cache : (s : Session) (t : List ℕ) (c : ℕ) → Stands s t → misses_call s c ≡ Ok (cache_misses c t)
unfolding misses_call
misses-cache s t c g = rw g.is-sound (old.misses-cache (old_of s) t c g.full-stands)

-- the share is that of the trace's summary
pub share-trace : (s : Session) (t : List ℕ) (c : ℕ) → Stands s t → share_call s c ≡ Ok (share_at (summary_of t) c)
unfolding share_call
share-trace s t c g = rw g.is-sound (old.share-trace (old_of s) t c g.full-stands)

-- words written from rows that are equal
words_same : (reads : ℕ) {first first' recent recent' hist hist' : List ℕ} (o : List ℕ) → first ≡ first' → recent ≡ recent' → hist ≡ hist' → length first' ≤ max_extents
    → words_call reads first recent hist o ≡ wrote (words reads first' recent' hist') o
unfolding words_call
words_same reads {first' = first'} o f r h few = rw (f, r, h, le-leb (length first') max_extents few)

-- a session that is not sound
pub unsound-way : (s : Session) (o : List ℕ) → sound s ≡ false → summary_call s o ≡ refused Unsound o
unfolding summary_call
unsound-way s o e = rw e

module _ (s : Session) (w : Wide s) (ok : sound s ≡ true) where
  -- the rows of the old session
  pub rows : Kept (old_of s)
  rows = (old-kept s (sound-facts s w ok)).kept

  -- the old session is sound
  pub ok-old : full.sound (old_of s) ≡ true
  ok-old = (old-sound s (sound-facts s w ok)).1

  -- the count is v
  pub count-extents : s.count ≡ full.extents (old_of s)
  count-extents = count-is s (summed s (sound-facts s w ok))

  -- within the limit
  pub count-few : s.count ≤ max_extents
  count-few = omega (arith, count-extents, kept-few (old_of s) rows)

  -- the words of its summary
  summary-given : (o : List ℕ) → summary_call s o ≡ wrote (session_words s) o
  unfolding summary_call full-calls.summary_call
  summary-given o = rw (ok, ok-old)

  -- the misses, by their number
  pub misses-given : (c : ℕ) → misses_call s c ≡ Ok (misses_of (session_words s) c)
  unfolding misses_call full-calls.misses_call
  misses-given c = rw (ok, ok-old)

  -- the share of a sound session
  pub share-given : (c : ℕ) → share_call s c ≡ Ok (share_at (session_words s) c)
  unfolding share_call full-calls.share_call
  share-given c = rw (ok, ok-old)

  -- R is the marked slots turned round
  laid-recent : (m r : List ℕ) → m ≡ gathered_row s.slots (full.marks (old_of s)) → r ≡ padded (reverse (take s.count m)) → take s.count r ≡ full.stack_of (old_of s)
  unfolding full.stack_of filled
  laid-recent m r e f =
      let kept = marked (full.marks (old_of s)) s.slots in
      let row : m ≡ filled slot_count kept = e ∙ gathered-pair s.slots (full.marks (old_of s)) (pair_of s.slots (full.marks (old_of s)) w.slots-wide rows.rows.wide) in
      let many : length kept ≡ s.count = unfold full.extents in row_count rows.rows.row ∙ sym count-extents in
      let front : take s.count m ≡ kept = ap (take s.count) row ∙ take_at kept (replicate (slot_count - length kept) 0) s.count many in
      let size : length (reverse kept) ≡ s.count = length-reverse kept ∙ many in
      ap (take s.count) (f ∙ ap (λ (l : List ℕ). padded (reverse l)) front)
      ∙ ap (λ (k : ℕ). take k (padded (reverse kept))) (sym size)
      ∙ padded-front (reverse kept) (omega (arith, size, count-few))

  -- the words written from L, F, R and H
  words-way : (o m r : List ℕ) → m ≡ gathered_row s.slots (full.marks (old_of s)) → r ≡ padded (reverse (take s.count m))
      → words_call s.reads (take s.count s.first) (take s.count r) (take s.count s.hist) o ≡ summary_call s o
  unfolding full-calls.session_words
  words-way o m r e f =
      let first : take s.count s.first ≡ full.first_row (old_of s) = unfold full.first_row in ap (λ (k : ℕ). take k s.first) count-extents in
      let hist : take s.count s.hist ≡ take (full.extents (old_of s)) s.hist = ap (λ (k : ℕ). take k s.hist) count-extents in
      words_same s.reads o first (laid-recent m r e f) hist (omega (arith, length-first (old_of s) rows, kept-few (old_of s) rows))
      ∙ sym (summary-given o)

  -- what is answered, and the buffer after it
  pub words-given : (o m r : List ℕ) (a : Result ℕ Refusal) (b : List ℕ) → m ≡ gathered_row s.slots (full.marks (old_of s)) → r ≡ padded (reverse (take s.count m))
      → let w = words_call s.reads (take s.count s.first) (take s.count r) (take s.count s.hist) o in (a ≡ w.answer) × (b ≡ w.buffer)
      → (a ≡ (summary_call s o).answer) × (b ≡ (summary_call s o).buffer)
  words-given o m r a b e f g = (
    g.0 ∙ ap (λ (q : Wrote). q.answer) (words-way o m r e f),
    g.1 ∙ ap (λ (q : Wrote). q.buffer) (words-way o m r e f),
  )

-- misses that are told are those of a sound session
pub misses-told : (s : Session) → Wide s → (c m : ℕ) → misses_call s c ≡ Ok m → (sound s ≡ true) × (m ≡ misses_of (session_words s) c)
unfolding misses_call
misses-told s w c m e =
    by-test (sound s) (λ ok. let q = sym e ∙ misses-given s w ok c in (ok, cc))
    (λ bad. let q : ◌≡◌ {A = Result ℕ Refusal} (Err Unsound) (Ok m) = simp bad at e in absurd (cc))

-- where they are refused, the share is refused so too
pub misses-untold : (s : Session) → Wide s → (c : ℕ) (r : Refusal) → misses_call s c ≡ Err r → share_call s c ≡ Err r
unfolding misses_call share_call
misses-untold s w c r e =
    by-test (sound s) (λ ok. let q = sym (misses-given s w ok c) ∙ e in absurd (cc))
    (λ bad. let q : ◌≡◌ {A = Result ℕ Refusal} (Err Unsound) (Err r) = simp bad at e in let is : r ≡ Unsound = cc in rw is (simp bad))

-- the share of a sound session is 'no reads' exactly where each of its reads is cold
pub session-none : (s : Session) (c : ℕ) → Wide s → sound s ≡ true → NoneOf (servable_of (session_words s)) (share_call s c)
unfolding share_call
session-none s c w ok = rw ok (old.session-none (old_of s) c (ok-old s w ok))

-- between 0 and 1, whether or not a log has it
pub session-between : (s : Session) → Wide s → (c : ℕ) → Between (share_call s c)
unfolding share_call
session-between s w c x e =
    let q = given-share (sound s) (full-calls.share_call (old_of s) c) Unsound x e in
    old.session-between (old_of s) (old-sound s (sound-facts s w q.0)).0 c x q.1

-- exactly 1 at a size of at least v
pub session-full : (s : Session) → Wide s → (c : ℕ) → extents s ≤ c → Full (share_call s c)
unfolding share_call
session-full s w c l x e =
    let q = given-share (sound s) (full-calls.share_call (old_of s) c) Unsound x e in
    old.session-full (old_of s) (old-sound s (sound-facts s w q.0)).0 c l x q.1
