-- The lister of a text taken so far: it is sound and stands for that text, and so is one that a piece was fed to.
use mathlib.Core.Path.{◌≡◌, refl, sym, ap, subst, ◌∙◌}
use Prim.Native.Nat.{ℕ, ◌+◌, ◌≤◌}
use native.Mathlib.Omega.{arith}
use mathlib.Core.List.{List, []}
use mathlib.Core.Bool.{true, false, ◌&&◌}
use lib.Dec.{eqb}
use lib.ListN.{length, take, length-take, length-replicate}
use lib.Seq.{length-take-le}
use borrow.Author.Tests.{le-leb, eq-eqb, eqb-true}
use Rattle.reuse.specs.Limits.{max_reads, max_extents}
use Rattle.reuse.specs.Lists.{sum}
use Rattle.reuse.proofs.Lists.{by-test, both}
use Rattle.reuse_rows.specs.Rows.{padded, put_at, placed}
use Rattle.reuse_copies.proofs.Padding.{padded-wide}
use Rattle.reuse_copies.proofs.Puts.{placed-fits}
use Rattle.texts.specs.Lines.{at, stopped, line_count}
use Rattle.texts.specs.Logs.{longest_line, empty, inside, whole}
use Rattle.texts.proofs.Tests.{never}
use Rattle.listing_texts.specs.Tallies.{Tally, no_reads}
use Rattle.listing_texts.specs.Feeding.{State, take_piece, state_by, unnumbered}
use Rattle.listing_texts.proofs.Unnumbered.{stay}
use Rattle.listing_tally.specs.Rows.{Tallied, tally_in, taken_by}
use Rattle.listing_tally.specs.declared.Phase.{Phase}
use Rattle.listing_tally.specs.declared.Phase.TheVariants.{Empty, Inside, Whole, Stopped}
use Rattle.listing_turns.specs.Turns.{is_stopped}
use Rattle.listing_turns.proofs.Turns.{state_in}
use Rattle.listing_soundness.specs.Soundness.{holds_line, holds_tally, holds_phase, refuses_text}
use Rattle.listing_soundness.proofs.Soundness.{line-facts, tally-rest}
use Rattle.listing.specs.Listers.{blank_line, sound_lister, state_of, lister_with, lister_of, empty_lister, takes_more, fed_of}
use Rattle.listing.specs.declared.Lister.{Lister}
use Rattle.listing.proofs.Rows.{line-front, line-rest, words-rest, line_same, words_same}
use Rattle.listing.proofs.Kept.{KeptTally, Kept, rows-kept, kept-rows, kept-tally, none_kept, none-ends, piece-kept}
use Rattle.listing.proofs.Soundness.{sound-parts, sound-facts, state-sound, state-unsound}

-- a lister whose rows have their lengths
pub record Wide (l : Lister) : Type 0 where
  pub stack-wide : length l.stack ≡ max_extents
  pub counts-wide : length l.counts ≡ max_extents

-- bytes that begin a line, and a tally, with a phase that goes with them
module _ (held : List ℕ) (phase : Phase) (t : Tally) (clear : line_count held ≡ 0) (fits : length held ≤ longest_line) (g : KeptTally t)
    (goes : holds_phase phase (length held) t.reads ≡ true) where
  -- the line holds the bytes
  with-line : holds_line (put_at blank_line 0 held) (length held) ≡ true
  unfolding holds_line
  with-line = rw (le-leb (length held) longest_line fits, line-front held, line-rest held, eq-eqb (line_count held) 0 clear)

  -- the rows hold the tally
  with-tally : holds_tally t.reads (length t.recent) (padded t.recent) (padded t.counts) ≡ true
  unfolding holds_tally
  with-tally =
      let w = kept-rows t g in
      let z = words-rest t.counts (omega (arith, g.few, g.same)) in
      rw (le-leb (length t.recent) max_extents g.few, le-leb t.reads max_reads g.short, w.once, eq-eqb (length t.recent + sum (take (length t.recent) (padded t.counts))) t.reads w.all, words-rest t.recent g.few, ← g.same, z)

  -- the lister that holds them is sound
  pub with-sound : sound_lister (lister_with held phase t) ≡ true
  unfolding sound_lister lister_with
  with-sound = rw (with-line, with-tally, goes)

  -- and stands for them
  pub with-state : state_of (lister_with held phase t) ≡ state_by (taken_by phase t) held
  unfolding lister_with
  with-state =
      state-sound (lister_with held phase t) with-sound
      ∙ ap (λ (u : Tally). state_by (taken_by phase u) (take (length held) (lister_with held phase t).line)) (kept-tally t g)
      ∙ ap (state_by (taken_by phase t)) (line-front held)

-- lines are not counted in a lister
pub lister-uncounted : (s : State) → lister_of (unnumbered s) ≡ lister_of s
unfolding lister_of
lister-uncounted (at k held empty) = refl
lister-uncounted (at k held (inside t)) = refl
lister-uncounted (at k held (whole t)) = refl
lister-uncounted (stopped k n) = refl

-- a refusal's number goes with no bytes and no reads
stopped_goes : (n : ℕ) → refuses_text n ≡ true → holds_phase (Stopped n) (length {A = ℕ} []) no_reads.reads ≡ true
unfolding holds_phase
stopped_goes n e = rw e

-- the lister of a text is sound
pub lister-sound : (s : State) → Kept s → sound_lister (lister_of s) ≡ true
unfolding lister_of holds_phase
lister-sound (at k held empty) g = with-sound held Empty no_reads g.0 g.1 none_kept refl
lister-sound (at k held (inside t)) g = with-sound held Inside t g.0 g.1 g.2 refl
lister-sound (at k held (whole t)) g = with-sound held Whole t g.0 g.1 g.2 refl
lister-sound (stopped k n) g = with-sound [] (Stopped n) no_reads none-ends (omega arith) none_kept (stopped_goes n g)

-- and stands for it
pub lister-state : (s : State) → Kept s → state_of (lister_of s) ≡ unnumbered s
unfolding lister_of holds_phase
lister-state (at k held empty) g = with-state held Empty no_reads g.0 g.1 none_kept refl
lister-state (at k held (inside t)) g = with-state held Inside t g.0 g.1 g.2 refl
lister-state (at k held (whole t)) g = with-state held Whole t g.0 g.1 g.2 refl
lister-state (stopped k n) g = with-state [] (Stopped n) no_reads none-ends (omega arith) none_kept (stopped_goes n g)

-- its rows have their lengths
lister-wide : (s : State) → Wide (lister_of s)
unfolding lister_of lister_with
lister-wide (at k held empty) = record { stack-wide = padded-wide []; counts-wide = padded-wide [] }
lister-wide (at k held (inside t)) = record { stack-wide = padded-wide t.recent; counts-wide = padded-wide t.counts }
lister-wide (at k held (whole t)) = record { stack-wide = padded-wide t.recent; counts-wide = padded-wide t.counts }
lister-wide (stopped k n) = record { stack-wide = padded-wide []; counts-wide = padded-wide [] }

-- a lister of no text yet is sound
pub new-sound : sound_lister empty_lister ≡ true
unfolding empty_lister
new-sound = lister-sound (at 0 [] empty) (none-ends, omega arith, Prim.tt)

-- it stands for no text
pub new-state : state_of empty_lister ≡ at 0 [] empty
unfolding empty_lister
new-state = lister-state (at 0 [] empty) (none-ends, omega arith, Prim.tt)

-- its rows have their lengths
pub new-wide : Wide empty_lister
unfolding empty_lister
new-wide = lister-wide (at 0 [] empty)

module _ (l : Lister) where
  -- what a sound one stands for is kept, by its phase
  phase-kept : (p : Phase) → (line_count (take l.held l.line) ≡ 0) × (length (take l.held l.line) ≤ longest_line)
      → Tallied l.reads l.extents l.stack l.counts → holds_phase p l.held l.reads ≡ true
      → Kept (state_in p l.reads l.extents l.stack l.counts (take l.held l.line))
  unfolding holds_phase
  phase-kept Empty a g e = (a.0, a.1, Prim.tt)
  phase-kept Inside a g e = (a.0, a.1, rows-kept _ _ _ _ g)
  phase-kept Whole a g e = (a.0, a.1, rows-kept _ _ _ _ g)
  phase-kept (Stopped n) a g e = (both (eqb l.held 0 && eqb l.reads 0) (refuses_text n) e).1

  -- what a sound one stands for is kept
  pub sound-kept : sound_lister l ≡ true → Wide l → Kept (state_of l)
  sound-kept h w =
      let f = sound-facts l h w.stack-wide w.counts-wide in
      let p = sound-parts l h in
      let a = line-facts l.line l.held p.0 in
      subst Kept (sym (state-sound l h))
      (phase-kept l.phase (a.1, omega (arith, length-take l.held l.line, a.0)) f.1 p.2)

  -- a refused one stands for a refusal
  stop_is : is_stopped l.phase ≡ true → (n : ℕ) × (state_of l ≡ stopped 0 n)
  stop_is h = by-test (sound_lister l) (λ e. on l.phase h refl e) (λ e. (7, state-unsound l e))
    where
      on : (p : Phase) → is_stopped p ≡ true → l.phase ≡ p → sound_lister l ≡ true → (n : ℕ) × (state_of l ≡ stopped 0 n)
      on Empty z q e = never (cc)
      on Inside z q e = never (cc)
      on Whole z q e = never (cc)
      on (Stopped n) z q e = (n, state-sound l e ∙ ap (λ (v : Phase). state_in v l.reads l.extents l.stack l.counts (take l.held l.line)) q)

  -- so does every one that takes no more
  idle-is : takes_more l ≡ false → (n : ℕ) × (state_of l ≡ stopped 0 n)
  idle-is e = by-test (is_stopped l.phase) (λ s. stop_is s) (λ s. (7, state-unsound l (simp s at e)))

  -- another goes on and is sound
  pub goes_on : takes_more l ≡ true → (is_stopped l.phase ≡ false) × (sound_lister l ≡ true)
  goes_on e = by-test (is_stopped l.phase) (λ s. let z : false ≡ true = (simp s at e) in never (cc)) (λ s. (s, (simp s at e)))

  module _ (bytes : List ℕ) where
    -- a lister that takes no more comes back word for word
    pub fed-idle : takes_more l ≡ false → fed_of l bytes ≡ l
    unfolding fed_of
    fed-idle e = rw e

    -- another is the one of the text with the piece
    pub fed-more : takes_more l ≡ true → fed_of l bytes ≡ lister_of (take_piece (state_of l) bytes)
    unfolding fed_of
    fed-more e = rw e

    module _ (w : Wide l) where
      -- a piece fed is a piece taken
      pub fed-state : state_of (fed_of l bytes) ≡ unnumbered (take_piece (state_of l) bytes)
      fed-state =
          by-test (takes_more l)
          (λ e. ap state_of (fed-more e) ∙ lister-state (take_piece (state_of l) bytes) (piece-kept bytes (state_of l) (sound-kept (goes_on e).1 w)))
          (λ e. let s = idle-is e in
          ap state_of (fed-idle e) ∙ s.1 ∙ sym (ap (λ (v : State). unnumbered (take_piece v bytes)) s.1 ∙ ap unnumbered (stay s.0 bytes)))

      -- a sound lister stays sound
      pub fed-sound : sound_lister l ≡ true → sound_lister (fed_of l bytes) ≡ true
      fed-sound h =
          by-test (takes_more l)
          (λ e. ap sound_lister (fed-more e) ∙ lister-sound (take_piece (state_of l) bytes) (piece-kept bytes (state_of l) (sound-kept h w)))
          (λ e. ap sound_lister (fed-idle e) ∙ h)

      -- its rows keep their lengths
      pub fed-wide : Wide (fed_of l bytes)
      fed-wide =
          by-test (takes_more l) (λ e. subst Wide (sym (fed-more e)) (lister-wide (take_piece (state_of l) bytes))) (λ e. subst Wide (sym (fed-idle e)) w)

-- a lister by its parts, as the code lays them
module _ (line : List ℕ) (held : ℕ) (phase : Phase) (reads extents : ℕ) (stack counts : List ℕ) where
  -- each row laid
  pub laid-is : held ≤ longest_line → length line ≡ longest_line → extents ≤ max_extents → length stack ≡ max_extents
      → (row : List ℕ) → row ≡ placed blank_line 0 (take held line)
      → (recent : List ℕ) → recent ≡ padded (take extents stack) → (counted : List ℕ) → counted ≡ padded (take extents counts)
      → record { line = row; held = held; phase = phase; reads = reads; extents = extents; stack = recent; counts = counted } ≡ lister_with (take held line) phase (tally_in reads extents stack counts)
  unfolding lister_with blank_line
  laid-is h w f s row p recent q counted r =
      let n : length (take held line) ≡ held = length-take-le held line (omega arith) in
      let v : length (take extents stack) ≡ extents = length-take-le extents stack (omega arith) in
      let z : length blank_line ≡ longest_line = length-replicate {A = ℕ} longest_line 0 in
      let e : row ≡ put_at blank_line 0 (take held line) = p ∙ placed-fits blank_line 0 (take held line) (omega (arith, n, z)) in
      rw (e, q, r, n, v)

  -- before the first line
  pub stands-empty : phase ≡ Empty → lister_with (take held line) phase (tally_in 0 0 stack counts) ≡ lister_of (state_in phase reads extents stack counts (take held line))
  unfolding lister_of
  stands-empty e = rw e

  -- inside the trace
  pub stands-inside : phase ≡ Inside → lister_with (take held line) phase (tally_in reads extents stack counts) ≡ lister_of (state_in phase reads extents stack counts (take held line))
  unfolding lister_of
  stands-inside e = rw e

  -- at its end
  pub stands-whole : phase ≡ Whole → lister_with (take held line) phase (tally_in reads extents stack counts) ≡ lister_of (state_in phase reads extents stack counts (take held line))
  unfolding lister_of
  stands-whole e = rw e

  -- refused
  pub stands-stopped : (n : ℕ) → phase ≡ Stopped n → lister_with (take 0 line) phase (tally_in 0 0 stack counts) ≡ lister_of (state_in phase reads extents stack counts (take held line))
  unfolding lister_of
  stands-stopped n e = rw e

-- a sound lister is the one of the text that it stands for
module _ (l : Lister) (w : Wide l) (line-wide : length l.line ≡ longest_line) (h : sound_lister l ≡ true) where
  -- laid again it is as it was
  laid_same : lister_with (take l.held l.line) l.phase (tally_in l.reads l.extents l.stack l.counts) ≡ l
  unfolding lister_with
  laid_same =
      let f = sound-facts l h w.stack-wide w.counts-wide in
      let p = sound-parts l h in
      let a = line-facts l.line l.held p.0 in
      let b = tally-rest l.reads l.extents l.stack l.counts p.1 in
      let n : length (take l.held l.line) ≡ l.held = length-take-le l.held l.line (omega (arith, a.0)) in
      let v : length (take l.extents l.stack) ≡ l.extents = length-take-le l.extents l.stack (omega (arith, f.1.few, w.stack-wide)) in
      rw (line_same l.line l.held line-wide a.0 a.2, n, v, words_same l.stack l.extents w.stack-wide f.1.few b.0, words_same l.counts l.extents w.counts-wide f.1.few b.1)

  -- no reads are of no extents
  none_read : l.reads ≡ 0 → l.extents ≡ 0
  none_read e = let f = sound-facts l h w.stack-wide w.counts-wide in omega (arith, f.1.all)

  -- by its phase
  phase-same : (p : Phase) → l.phase ≡ p → holds_phase p l.held l.reads ≡ true
      → lister_of (state_in l.phase l.reads l.extents l.stack l.counts (take l.held l.line)) ≡ l
  unfolding holds_phase
  phase-same Empty e g =
      let z : l.reads ≡ 0 = eqb-true l.reads 0 g in
      sym (stands-empty l.line l.held l.phase l.reads l.extents l.stack l.counts e)
      ∙ ap (λ (r : ℕ). lister_with (take l.held l.line) l.phase (tally_in r 0 l.stack l.counts)) (sym z)
      ∙ ap (λ (v : ℕ). lister_with (take l.held l.line) l.phase (tally_in l.reads v l.stack l.counts)) (sym (none_read z))
      ∙ laid_same
  phase-same Inside e g = sym (stands-inside l.line l.held l.phase l.reads l.extents l.stack l.counts e) ∙ laid_same
  phase-same Whole e g = sym (stands-whole l.line l.held l.phase l.reads l.extents l.stack l.counts e) ∙ laid_same
  phase-same (Stopped n) e g =
      let b = both (eqb l.held 0 && eqb l.reads 0) (refuses_text n) g in
      let d = both (eqb l.held 0) (eqb l.reads 0) b.0 in
      let z : l.reads ≡ 0 = eqb-true l.reads 0 d.1 in
      sym (stands-stopped l.line l.held l.phase l.reads l.extents l.stack l.counts n e)
      ∙ ap (λ (k : ℕ). lister_with (take k l.line) l.phase (tally_in 0 0 l.stack l.counts)) (sym (eqb-true l.held 0 d.0))
      ∙ ap (λ (r : ℕ). lister_with (take l.held l.line) l.phase (tally_in r 0 l.stack l.counts)) (sym z)
      ∙ ap (λ (v : ℕ). lister_with (take l.held l.line) l.phase (tally_in l.reads v l.stack l.counts)) (sym (none_read z))
      ∙ laid_same

  -- whatever its phase
  pub lister-same : lister_of (state_of l) ≡ l
  lister-same = ap lister_of (state-sound l h) ∙ phase-same l.phase refl (sound-parts l h).2
