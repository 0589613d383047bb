-- A piece taken line by line: what each turn leaves to do is what was left before it.
use mathlib.Core.Path.{◌≡◌, refl, sym, ap, subst, ◌∙◌}
use Prim.Native.Nat.{ℕ, suc, ◌+◌, ◌-◌, ◌≤◌, ◌<◌}
use native.Mathlib.Omega.{arith}
use mathlib.Core.List.{List, [], ◌∷◌, ◌++◌}
use mathlib.Core.Bool.{true, false, ◌&&◌}
use lib.Dec.{eqb, ltb, leb}
use lib.ListN.{length, take, drop, get_or, length-drop, take-append-drop}
use lib.Seq.{length-take-le, take_all, take-suc, split_at, drop-drop}
use borrow.Author.Tests.{ltb-true, ltb-false, leb-true, leb-false, eqb-true, eq-eqb}
use Rattle.reuse_rows.specs.Rows.{placed}
use Rattle.reuse.proofs.Lists.{both, by-test}
use Rattle.reuse_copies.proofs.Puts.{put-length, placed-fits}
use Rattle.texts.specs.Lines.{Answer, to, no, at, stopped, line_count}
use Rattle.texts.specs.Logs.{longest_line, empty, inside, whole}
use Rattle.texts.proofs.Tests.{never}
use Rattle.texts.proofs.Positions.{gone}
use Rattle.texts_pieces.specs.Pieces.{line_length}
use Rattle.texts_pieces.proofs.Lengths.{length-within, length-line, length-ends}
use Rattle.listing_texts.specs.Tallies.{Tally}
use Rattle.listing_texts.specs.Feeding.{Taken, State, take_piece, state_by, unnumbered}
use Rattle.listing_texts.proofs.Unnumbered.{take_none, stay, kept, ended, too_long_lem}
use Rattle.listing_tally.specs.Rows.{Tallied, tally_in, taken_by, taken_in, and_then}
use Rattle.listing_tally.specs.Standings.{Standing, stands_at, refused, end_taken}
use Rattle.listing_tally.specs.declared.Phase.{Phase}
use Rattle.listing_tally.specs.declared.Phase.TheVariants.{Empty, Inside, Whole, Stopped}
use Rattle.listing_tally.specs.declared.Progress.{Progress}
use Rattle.listing_tally.proofs.Answers.{rest_put}
use Rattle.listing_tally.proofs.Phases.{end-law}
use Rattle.listing_turns.specs.Turns.{Reached, reaches, is_stopped, turn_at, turn_after, reached_by, turn_by, advanced}
use Rattle.listing_turns.specs.declared.Turn.{Turn}
use Rattle.listing_turns.proofs.Ways.{way-counted}

-- the state of a phase, a tally in its rows and the bytes held
abbrev pub state_in : Phase → ℕ → ℕ → List ℕ → List ℕ → List ℕ → State
state_in phase reads extents stack counts held = state_by (taken_by phase (tally_in reads extents stack counts)) held

-- a piece can be taken further: the text is not refused, and what is held of a line fits
pub record Turnable (bytes : List ℕ) (at : ℕ) (line : List ℕ) (held : ℕ) (phase : Phase) (reads extents : ℕ) (stack counts : List ℕ) : Type 0 where
  pub more : at < length bytes
  pub wide : length line ≡ longest_line
  pub fits : held ≤ longest_line
  pub tally : Tallied reads extents stack counts
  pub goes : is_stopped phase ≡ false

-- it was taken further from a state: what is left of it does the same from the state reached
pub record Turned (bytes : List ℕ) (from : ℕ) (before : State) (r : Turn) (stack counts : List ℕ) : Type 0 where
  pub forward : from < r.at
  pub inside : r.at ≤ length bytes
  pub wide : length r.line ≡ longest_line
  pub fits : r.held ≤ longest_line
  pub tally : Tallied r.progress.reads r.progress.extents stack counts
  pub goes : r.at < length bytes → is_stopped r.progress.phase ≡ false
  pub same : unnumbered (take_piece before (drop from bytes))
      ≡ unnumbered (take_piece (state_in r.progress.phase r.progress.reads r.progress.extents stack counts (take r.held r.line)) (drop r.at bytes))

-- a text that is not refused is somewhere
going : (phase : Phase) (t : Tally) → is_stopped phase ≡ false → (s : Taken) × (taken_by phase t ≡ to s)
going Empty t h = (empty, refl)
going Inside t h = (inside t, refl)
going Whole t h = (whole t, refl)
going (Stopped n) t h = never (cc)

-- one that is, is refused with a number
gone-stop : (phase : Phase) (t : Tally) → is_stopped phase ≡ true → (n : ℕ) × (taken_by phase t ≡ no n)
gone-stop Empty t h = never (cc)
gone-stop Inside t h = never (cc)
gone-stop Whole t h = never (cc)
gone-stop (Stopped n) t h = (n, refl)

module _ (bytes : List ℕ) (pos : ℕ) (line : List ℕ) (held : ℕ) (phase : Phase) (reads extents : ℕ) (stack counts : List ℕ) (g : Turnable bytes pos line held phase reads extents stack counts)
    (n : ℕ) (is : n ≡ line_length (longest_line + 1 - held) (drop pos bytes)) where
  -- the state before
  abbrev before : State
  before = state_in phase reads extents stack counts (take held line)

  -- what is left to do from where the piece is taken to is what was left before
  abbrev Leaves : Reached → Type 0
  Leaves r = Turned bytes pos before r.turn r.stack r.counts

  -- where the text is
  here : (s : Taken) × (taken_by phase (tally_in reads extents stack counts) ≡ to s)
  here = going phase (tally_in reads extents stack counts) g.goes

  -- so the state is
  before-is : before ≡ at 0 (take held line) here.0
  before-is = ap (λ (a : Answer Taken). state_by a (take held line)) here.1

  -- what is held
  held-long : length (take held line) ≡ held
  held-long = length-take-le held line (omega (arith, g.fits, g.wide))

  -- the bytes before the line's end are within the piece
  counted : (pos + n ≤ length bytes) × (n ≤ longest_line + 1 - held)
  counted = length-within bytes pos (longest_line + 1 - held) n (omega (arith, g.more)) is

  -- they end no line
  no_end : line_count (take n (drop pos bytes)) ≡ 0
  no_end = ap (λ (k : ℕ). line_count (take k (drop pos bytes))) is ∙ length-line (longest_line + 1 - held) (drop pos bytes)

  -- how many bytes are left
  left-long : length (drop pos bytes) ≡ length bytes - pos
  left-long = length-drop pos bytes

  -- the line is too long
  turn-long : longest_line < held + n → Turned bytes pos before (record { at = length bytes; line = line; held = 0; progress = record { phase = Stopped 1; reads = reads; extents = extents } }) stack counts
  turn-long h =
      let l : List ℕ = drop pos bytes in
      let j : ℕ = longest_line - held in
      let m : suc j ≡ n = omega (arith, counted, g.fits) in
      let i : j < length l = omega (arith, counted, left-long) in
      let split : take n l ≡ take j l ++ (get_or l j 0 ∷ []) = ap (λ (k : ℕ). take k l) (sym m) ∙ take-suc l j 0 i in
      let whole_is : l ≡ take j l ++ (get_or l j 0 ∷ drop (suc j) l) = split_at l j 0 i in
      let ends : line_count (take j l ++ (get_or l j 0 ∷ [])) ≡ 0 = ap line_count (sym split) ∙ no_end in
      let wide : length (take held line) + length (take j l) ≡ longest_line = omega (arith, held-long, length-take-le j l (omega arith), g.fits) in
      let stop : unnumbered (take_piece before l) ≡ stopped 0 1 =
      ap (λ (v : State). unnumbered (take_piece v l)) before-is
      ∙ too_long_lem here.0 (take held line) l (omega (arith, held-long, g.fits)) (take j l) (get_or l j 0) (drop (suc j) l) whole_is ends wide in
      record {
        forward = g.more;
        inside = omega arith;
        wide = g.wide;
        fits = omega arith;
        tally = g.tally;
        goes = λ z. absurd (omega (arith, z));
        same = stop ∙ sym (ap unnumbered (stay 1 (drop (length bytes) bytes)));
      }

  -- the line's other bytes
  abbrev rest : List ℕ
  rest = take n (drop pos bytes)

  -- as many as were counted
  rest-long : length rest ≡ n
  rest-long = length-take-le n (drop pos bytes) (omega (arith, counted, left-long))

  -- the line is not too long
  module _ (h : held + n ≤ longest_line) where
    -- the piece ends before the line does
    turn-kept : pos + n ≡ length bytes → Leaves (reaches (turn_at (pos + n) (placed line held rest) (held + n) phase reads extents) stack counts)
    turn-kept w =
        let line' : List ℕ = placed line held rest in
        let room : held + length rest ≤ length line = omega (arith, rest-long, g.wide) in
        let l : List ℕ = drop pos bytes in
        let all : take n l ≡ l = take_all n l (omega (arith, left-long)) in
        let c : line_count l ≡ 0 = ap line_count (sym all) ∙ no_end in
        let none : drop (pos + n) bytes ≡ [] = gone bytes (pos + n) (omega arith) in
        let k : take (held + n) line' ≡ take held line ++ l =
        ap (λ (j : ℕ). take (held + j) line') (sym rest-long) ∙ rest_put line held rest room line' refl ∙ ap (λ (v : List ℕ). take held line ++ v) all in
        let fed : take_piece before l ≡ at 0 (take held line ++ l) here.0 =
        ap (λ (v : State). take_piece v l) before-is ∙ kept here.0 (take held line) l (omega (arith, held-long, g.fits)) c (omega (arith, held-long, left-long)) in
        let after : state_in phase reads extents stack counts (take (held + n) line') ≡ at 0 (take held line ++ l) here.0 =
        ap (λ (a : Answer Taken). state_by a (take (held + n) line')) here.1 ∙ ap (λ (v : List ℕ). at 0 v here.0) k in
        record {
          forward = omega (arith, g.more);
          inside = omega arith;
          wide = ap length (placed-fits line held rest room) ∙ put-length line held rest room ∙ g.wide;
          fits = h;
          tally = g.tally;
          goes = λ z. g.goes;
          same = ap unnumbered (fed ∙ sym after ∙ sym (take_none (state_in phase reads extents stack counts (take (held + n) line'))) ∙ ap (take_piece (state_in phase reads extents stack counts (take (held + n) line'))) (sym none));
        }

    -- the line ends in the piece, and is taken
    module _ (w : pos + n < length bytes) (p : Progress) (stack' counts' : List ℕ) (e : stands_at p stack' counts' ≡ end_taken reads extents stack counts phase line held rest) where
      -- what it does to the text, and the rows hold a tally
      line_taken_lem :
          (taken_in p stack' counts' ≡ and_then (taken_by phase (tally_in reads extents stack counts)) (take held line ++ rest))
          × Tallied p.reads p.extents stack' counts'
      line_taken_lem = end-law reads extents stack counts g.tally phase line held rest (omega (arith, rest-long)) (stands_at p stack' counts') e

      -- the line and the bytes after it
      all-is : drop pos bytes ≡ rest ++ (10 ∷ drop (suc (pos + n)) bytes)
      all-is =
          sym (take-append-drop n (drop pos bytes))
          ∙ ap (λ (v : List ℕ). take n (drop pos bytes) ++ v) (drop-drop n pos bytes ∙ length-ends bytes pos (longest_line + 1 - held) n (omega (arith, g.more)) is (omega arith) w)

      -- what is left to do after it
      line-done : unnumbered (take_piece before (drop pos bytes)) ≡ unnumbered (take_piece (state_by (taken_in p stack' counts') []) (drop (suc (pos + n)) bytes))
      line-done =
          ap (λ (v : State). unnumbered (take_piece v (drop pos bytes))) before-is
          ∙ ended here.0 (take held line) (drop pos bytes) (omega (arith, held-long, g.fits)) rest (drop (suc (pos + n)) bytes) all-is no_end (omega (arith, held-long, rest-long))
          ∙ ap (λ (a : Answer Taken). unnumbered (take_piece (state_by a []) (drop (suc (pos + n)) bytes))) (sym (line_taken_lem.0 ∙ ap (λ (a : Answer Taken). and_then a (take held line ++ rest)) here.1))

      -- the text is refused
      turn_stopped : is_stopped p.phase ≡ true → Turned bytes pos before (record { at = length bytes; line = line; held = 0; progress = p }) stack' counts'
      turn_stopped z =
          let s = gone-stop p.phase (tally_in p.reads p.extents stack' counts') z in
          let f : (l : List ℕ) → take_piece (state_by (taken_in p stack' counts') []) l ≡ stopped 0 s.0 = λ l. ap (λ (a : Answer Taken). take_piece (state_by a []) l) s.1 ∙ stay s.0 l in
          record {
            forward = g.more;
            inside = omega arith;
            wide = g.wide;
            fits = omega arith;
            tally = line_taken_lem.1;
            goes = λ y. absurd (omega (arith, y));
            same = line-done ∙ ap unnumbered (f (drop (suc (pos + n)) bytes) ∙ sym (f (drop (length bytes) bytes)));
          }

      -- it goes on
      turn-ended : is_stopped p.phase ≡ false → Turned bytes pos before (record { at = pos + n + 1; line = line; held = 0; progress = p }) stack' counts'
      turn-ended z =
          let i : suc (pos + n) ≡ pos + n + 1 = omega arith in
          record {
            forward = omega arith;
            inside = omega arith;
            wide = g.wide;
            fits = omega arith;
            tally = line_taken_lem.1;
            goes = λ y. z;
            same = line-done ∙ ap (λ (k : ℕ). unnumbered (take_piece (state_by (taken_in p stack' counts') []) (drop k bytes))) i;
          }

      -- either
      turn-line : Turned bytes pos before (turn_after line p (pos + n + 1) (length bytes)) stack' counts'
      turn-line = by-test (is_stopped p.phase) (λ z. rw z (turn_stopped z)) (λ z. rw z (turn-ended z))

  -- the line ends in the piece, or is too long
  turn-over : (pos + n ≡ length bytes → longest_line < held + n) → Leaves (reached_by line (pos + n + 1) (length bytes) (end_taken reads extents stack counts phase line held rest))
  unfolding end_taken
  turn-over over =
      by-test (leb (held + length rest) longest_line)
      (λ z. let h : held + n ≤ longest_line = omega (arith, leb-true (held + length rest) longest_line z, rest-long) in
      turn-line h (before-end h over) _ _ _ refl)
      (λ z. let q : end_taken reads extents stack counts phase line held rest ≡ stands_at (refused 1 reads extents) stack counts = rw z in
      subst (λ (s : Standing). Leaves (reached_by line (pos + n + 1) (length bytes) s)) (sym q) (turn-long (omega (arith, leb-false (held + length rest) longest_line z, rest-long))))
    where
      -- a line that fits and ends in the piece
      before-end : held + n ≤ longest_line → (pos + n ≡ length bytes → longest_line < held + n) → pos + n < length bytes
      before-end h f = by-test (ltb (pos + n) (length bytes)) (λ z. ltb-true (pos + n) (length bytes) z)
          (λ z. absurd (let q = f (omega (arith, ltb-false (pos + n) (length bytes) z, counted)) in omega (arith, q)))

  -- either way
  turn_by_lem : Leaves (turn_by bytes pos line held phase reads extents stack counts n)
  turn_by_lem =
      by-test (eqb (pos + n) (length bytes) && leb (held + n) longest_line)
      (λ z. let b = both (eqb (pos + n) (length bytes)) (leb (held + n) longest_line) z in
      rw z (turn-kept (leb-true (held + n) longest_line b.1) (eqb-true (pos + n) (length bytes) b.0)))
      (λ z. rw z (turn-over (over z)))
    where
      -- a line that the piece ends in does not fit
      over : (eqb (pos + n) (length bytes) && leb (held + n) longest_line) ≡ false → pos + n ≡ length bytes → longest_line < held + n
      over z e = leb-false (held + n) longest_line (rw (eq-eqb (pos + n) (length bytes) e) at z)

-- a piece that can be taken further is: what is left of it does the same from the state reached
pub advance-turned : (bytes : List ℕ) (pos : ℕ) (line : List ℕ) (held : ℕ) (phase : Phase) (reads extents : ℕ) (stack counts : List ℕ)
    → Turnable bytes pos line held phase reads extents stack counts → (r : Reached) → r ≡ advanced bytes pos line held phase reads extents stack counts
    → Turned bytes pos (state_in phase reads extents stack counts (take held line)) r.turn r.stack r.counts
advance-turned bytes pos line held phase reads extents stack counts g r e =
    let n : ℕ = line_length (longest_line + 1 - held) (drop pos bytes) in
    subst (Leaves bytes pos line held phase reads extents stack counts g n refl)
    (sym (e ∙ way-counted bytes pos line held phase reads extents stack counts (omega (arith, g.more)) g.fits n refl))
    (turn_by_lem bytes pos line held phase reads extents stack counts g n refl)
