-- What a log text taken so far keeps: a tally within the limits, bytes that begin a line, or the number of a refusal.
use mathlib.Core.Path.{◌≡◌, refl, sym, ap, subst, ◌∙◌}
use Prim.Native.Nat.{ℕ, suc, ◌+◌, ◌≤◌}
use native.Mathlib.Omega.{arith}
use mathlib.Core.List.{List, [], ◌∷◌, ◌++◌}
use mathlib.Core.Option.{Option, none, some}
use mathlib.Core.Bool.{true, false}
use lib.Dec.{eqb, ltb, leb}
use lib.ListN.{length, take, length-append}
use lib.Seq.{length-take-le}
use borrow.Author.Tests.{ltb-true}
use Rattle.reuse.specs.Limits.{max_reads, max_extents}
use Rattle.reuse.specs.Lists.{mem, distinct, sum}
use Rattle.reuse.proofs.Lists.{by-test}
use Rattle.reuse_rows.specs.Rows.{padded}
use Rattle.reuse_copies.proofs.Padding.{padded-front, padded-wide}
use Rattle.texts.specs.Limits.{max_extent}
use Rattle.texts.specs.Words.{after}
use Rattle.texts.specs.Lines.{Answer, to, no, at, stopped, unless, feed_by, line_count}
use Rattle.texts.specs.Logs.{Row, row, bad_row, row_of, trace_word, longest_line, log_room, empty, inside, whole, read, row_by, head_by, step_by}
use Rattle.texts.proofs.Tests.{never}
use Rattle.texts.proofs.Feeding.{count-append, count-other, absorb, by_byte}
use Rattle.listing_texts.specs.Tallies.{Tally, no_reads, tallied, over_tally}
use Rattle.listing_texts.specs.Feeding.{Taken, take_row, take_head, take_line, State, take_piece}
use Rattle.listing_tally.specs.Rows.{Tallied, tally_in, taken_by}
use Rattle.listing_tally.specs.Standings.{line_taken}
use Rattle.listing_tally.specs.declared.Phase.{Phase}
use Rattle.listing_tally.specs.declared.Phase.TheVariants.{Empty, Inside, Whole, Stopped}
use Rattle.listing_tally.proofs.Phases.{line-law}
use Rattle.listing_soundness.specs.Soundness.{refuses_text}

-- a tally within the limits: no extent twice, each read counted or cold
pub record KeptTally (t : Tally) : Type 0 where
  pub few : length t.recent ≤ max_extents
  pub short : t.reads ≤ max_reads
  pub same : length t.counts ≡ length t.recent
  pub once : distinct t.recent ≡ true
  pub all : length t.recent + sum t.counts ≡ t.reads

-- how far a text is
abbrev pub KeptTaken : Taken → Type 0
KeptTaken empty = Unit {0}
KeptTaken (inside t) = KeptTally t
KeptTaken (whole t) = KeptTally t

-- after a line
abbrev KeptAnswer : Answer Taken → Type 0
KeptAnswer (to s) = KeptTaken s
KeptAnswer (no n) = refuses_text n ≡ true

-- a text taken so far
abbrev pub Kept : State → Type 0
Kept (at k held s) = (line_count held ≡ 0) × (length held ≤ longest_line) × KeptTaken s
Kept (stopped k n) = refuses_text n ≡ true

-- rows that hold a tally keep it
pub rows-kept : (reads extents : ℕ) (stack counts : List ℕ) → Tallied reads extents stack counts → KeptTally (tally_in reads extents stack counts)
rows-kept reads extents stack counts g =
    let s : length (take extents stack) ≡ extents = length-take-le extents stack (omega (arith, g.few, g.stack-wide)) in
    let n : length (take extents counts) ≡ extents = length-take-le extents counts (omega (arith, g.few, g.counts-wide)) in
    record {
      few = omega (arith, g.few);
      short = g.short;
      same = n ∙ sym s;
      once = g.once;
      all = omega (arith, g.all);
    }

-- a tally that is kept stands in rows with 0 after it
pub kept-rows : (t : Tally) → KeptTally t → Tallied t.reads (length t.recent) (padded t.recent) (padded t.counts)
kept-rows t g =
    let s : take (length t.recent) (padded t.recent) ≡ t.recent = padded-front t.recent g.few in
    let n : take (length t.recent) (padded t.counts) ≡ t.counts =
    ap (λ (k : ℕ). take k (padded t.counts)) (sym g.same) ∙ padded-front t.counts (omega (arith, g.few, g.same)) in
    record {
      stack-wide = padded-wide t.recent;
      counts-wide = padded-wide t.counts;
      few = g.few;
      once = rw s g.once;
      all = rw n g.all;
      short = g.short;
    }

-- it is the tally in them
pub kept-tally : (t : Tally) → KeptTally t → tally_in t.reads (length t.recent) (padded t.recent) (padded t.counts) ≡ t
kept-tally t g =
    let s : take (length t.recent) (padded t.recent) ≡ t.recent = padded-front t.recent g.few in
    let n : take (length t.recent) (padded t.counts) ≡ t.counts =
    ap (λ (k : ℕ). take k (padded t.counts)) (sym g.same) ∙ padded-front t.counts (omega (arith, g.few, g.same)) in
    rw (s, n)

-- no reads are kept
pub none_kept : KeptTally no_reads
unfolding distinct sum
none_kept = record { few = omega arith; short = omega arith; same = refl; once = refl; all = refl }

-- the limit that a read breaks is one that a text is refused with
limit-number : (t : Tally) (x n : ℕ) (a : Taken) → unless (over_tally t x) (to a) ≡ no n → refuses_text n ≡ true
unfolding unless refuses_text
limit-number t x n a =
    by-test (ltb max_extent x) (λ e. rw e (λ q. let z : 2 ≡ n = cc in rw (← z)))
    (λ e. by-test (leb max_reads t.reads) (λ f. rw (e, f) (λ q. let z : 8 ≡ n = cc in rw (← z)))
    (λ f. by-test (mem x t.recent) (λ g. rw (e, f, g) (λ q. never (cc)))
    (λ g. by-test (leb max_extents (length t.recent)) (λ h. rw (e, f, g, h) (λ q. let z : 9 ≡ n = cc in rw (← z)))
    (λ h. rw (e, f, g, h) (λ q. never (cc))))))

-- so is a fault
fault-number : (n : ℕ) → ◌≡◌ {A = Answer Taken} (no 1) (no n) → refuses_text n ≡ true
unfolding refuses_text
fault-number n q = let z : 1 ≡ n = cc in rw (← z)

-- a line is refused with such a number
line-number : (s : Taken) (line : List ℕ) (n : ℕ) → take_line s line ≡ no n → refuses_text n ≡ true
unfolding step_by head_by row_by
line-number empty line n e = head (after trace_word line) e
  where
    head : (o : Option (List ℕ)) → take_head o ≡ no n → refuses_text n ≡ true
    head none = λ q. fault-number n q
    head (some []) = λ q. never (cc)
    head (some (x ∷ [])) = by-test (eqb x 41) (λ z. rw z (λ q. never (cc))) (λ z. rw z (λ q. fault-number n q))
    head (some (x ∷ y ∷ l)) = λ q. fault-number n q
line-number (inside t) line n e = found (row_of line) e
  where
    found : (r : Row) → take_row t r ≡ no n → refuses_text n ≡ true
    found (row x ends) q = limit-number t x n (read ends (tallied t x)) q
    found bad_row q = fault-number n q
line-number (whole t) line n e = fault-number n e

-- by the phase that a line leaves
by-phase : (p : Phase) (t : Tally) → KeptTally t → (s : Taken) → taken_by p t ≡ to s → KeptTaken s
by-phase Empty t g s e = let q : s ≡ empty = cc in rw q Prim.tt
by-phase Inside t g s e = let q : s ≡ inside t = cc in rw q g
by-phase Whole t g s e = let q : s ≡ whole t = cc in rw q g
by-phase (Stopped n) t g s e = never (cc)

-- a line leaves what is kept
line_kept : (s : Taken) → KeptTaken s → (line : List ℕ) (a : Taken) → take_line s line ≡ to a → KeptTaken a
unfolding step_by head_by
line_kept empty g line a e = head (after trace_word line) e
  where
    head : (o : Option (List ℕ)) → take_head o ≡ to a → KeptTaken a
    head none = λ q. never (cc)
    head (some []) = λ q. let z : a ≡ inside no_reads = cc in rw z none_kept
    head (some (x ∷ [])) = by-test (eqb x 41) (λ z. rw z (λ q. let w : a ≡ whole no_reads = cc in rw w none_kept)) (λ z. rw z (λ q. never (cc)))
    head (some (x ∷ y ∷ l)) = λ q. never (cc)
line_kept (inside t) g line a e =
    let s = line_taken t.reads (length t.recent) (padded t.recent) (padded t.counts) Inside line in
    let w = line-law t.reads (length t.recent) (padded t.recent) (padded t.counts) (kept-rows t g) line Inside s refl in
    by-phase s.progress.phase (tally_in s.progress.reads s.progress.extents s.stack s.counts) (rows-kept _ _ _ _ w.1) a
    (w.0 ∙ ap (λ (u : Tally). take_row u (row_of line)) (kept-tally t g) ∙ e)
line_kept (whole t) g line a e = never (cc)

-- no bytes end no line
pub none-ends : line_count [] ≡ 0
unfolding line_count
none-ends = refl

-- a piece leaves what is kept
pub piece-kept : (l : List ℕ) (s : State) → Kept s → Kept (take_piece s l)
unfolding take_piece feed_by
piece-kept [] s g = g
piece-kept (x ∷ l) (at k held s) g =
    by_byte take_line log_room k held s x
    (λ s₁ e q f. subst Kept (sym (f l)) (piece-kept l (at (suc k) [] s₁) (none-ends, omega arith, line_kept s g.2 held s₁ q)))
    (λ n e q f. subst Kept (sym (f l)) (line-number s held n q))
    (λ e r f. subst Kept (sym (f l))
    (piece-kept l (at k (held ++ (x ∷ [])) s) (more e, omega (arith, length-append held (x ∷ []), ltb-true (length held) longest_line r), g.2)))
    (λ e r f. subst Kept (sym (f l)) (fault-number 1 refl))
  where
    more : eqb x 10 ≡ false → line_count (held ++ (x ∷ [])) ≡ 0
    more e = count-append held (x ∷ []) ∙ omega (arith, g.0, count-other x [] e, none-ends)
piece-kept (x ∷ l) (stopped k n) g = subst Kept (sym (absorb take_line log_room k n (x ∷ l))) g
