-- What the code answers on any rows: one law for each way that it returns.
use Rattle.std.proofs.Common.{◌≡◌, ℕ, ◌+◌, ◌-◌, ◌%◌, ◌^◌, ◌<◌, ◌≤◌, Bool, leb, List, ◌++◌, length, get_or, take, drop, set, sym, ap, ◌∙◌, append_assoc, arith, length-append, length-take-le, take_at, le-ltb, lt-ltb, le-leb, leb-true}
use borrow.Author.Tests.{lt-leb}
use Rattle.reuse.specs.Limits.{max_reads}
use Rattle.reuse.proofs.Lists.{by-test}
use Rattle.reuse_rows.specs.Rows.{placed, put_at}
use Rattle.reuse_copies.proofs.Puts.{placed-fits}
use Rattle.reuse_engine.specs.Engine.{place_of, left_by}
use Rattle.reuse_engine.specs.declared.Place.{Place}
use Rattle.reuse_engine.specs.declared.Place.TheVariants.{Cold, Depth, Full, BadCount}
use Rattle.reuse_engine.proofs.Engine.{place-range, place-room}
use Rattle.texts.specs.Limits.{max_extent}
use Rattle.texts.specs.Words.{after}
use Rattle.texts.specs.Logs.{trace_word, row_of, longest_line}
use Rattle.texts.proofs.Tests.{never}
use Rattle.listing_lines.specs.Forms.{row_found, head_found}
use Rattle.std.specs.Prelude.{Option}
use Rattle.listing_tally.specs.declared.Phase.{Phase}
use Rattle.listing_tally.specs.declared.Phase.TheVariants.{Empty, Inside, Whole, Stopped}
use Rattle.listing_tally.specs.declared.Progress.{Progress}
use Rattle.listing_tally.specs.Standings.{Standing, stands_at, refused, go_on, head_taken, read_at, read_taken, row_taken, line_taken, end_taken}

module _ (reads extents : ℕ) (stack counts : List ℕ) where
  -- a place in the stack, and the stack within its row
  fits : (x : ℕ) (v : Place) → place_of stack extents x ≡ v → (v ≡ BadCount → ⊥) → extents ≤ length stack
  unfolding place_of
  fits x v e f = by-test (leb extents (length stack)) (λ t. leb-true extents (length stack) t) (λ t. absurd (f (sym e ∙ rw t)))

  module _ (x : ℕ) (place : Place) (is : place ≡ place_of stack extents x) (wide : length stack ≤ length counts) where
    -- room for one extent more
    pub new-room : place ≡ Cold → (extents < length stack) × (extents < length counts)
    new-room e =
        let q : place_of stack extents x ≡ Cold = sym is ∙ e in
        let w = place-room stack extents x (fits x Cold q (λ z. never (cc))) q in
        (w, omega arith)

    -- a count for the distance
    pub known-room : (d : ℕ) → place ≡ Depth d → (1 ≤ d) × (d - 1 < length counts)
    known-room d e =
        let q : place_of stack extents x ≡ Depth d = sym is ∙ e in
        let f = fits x (Depth d) q (λ z. never (cc)) in
        let w = place-range stack extents x f d q in
        (w.0, omega (arith, w.0, w.1))

  module _ (x : ℕ) (ends : Bool) (r : Progress) where
    -- an extent too large
    pub read-large : max_extent < x → r ≡ refused 2 reads extents → stands_at r stack counts ≡ read_taken reads extents stack counts x ends
    unfolding read_taken
    read-large h e = rw (e, lt-ltb max_extent x h)

    -- as many reads as the limit
    pub read-many : x ≤ max_extent → max_reads ≤ reads → r ≡ refused 8 reads extents → stands_at r stack counts ≡ read_taken reads extents stack counts x ends
    unfolding read_taken
    read-many small h e = rw (e, le-ltb max_extent x small, le-leb max_reads reads h)

    -- fewer counts than words of the stack
    pub read_short : x ≤ max_extent → reads < max_reads → length counts < length stack → r ≡ refused 7 reads extents
        → stands_at r stack counts ≡ read_taken reads extents stack counts x ends
    unfolding read_taken
    read_short small room h e = rw (e, le-ltb max_extent x small, lt-leb max_reads reads room, lt-ltb (length counts) (length stack) h)

    module _ (place : Place) (is : place ≡ place_of stack extents x) (wide : length stack ≤ length counts) (small : x ≤ max_extent) (room : reads < max_reads) (left : List ℕ) (leaves : left ≡ left_by place extents x stack) where
      -- by the place
      read_at_lem : (v : Place) → place ≡ v → read_at reads extents stack counts v x ends ≡ read_taken reads extents stack counts x ends
      unfolding read_taken
      read_at_lem v e =
          ap (λ (q : Place). read_at reads extents stack counts q x ends) (sym e ∙ is)
          ∙ rw (le-ltb max_extent x small, lt-leb max_reads reads room, le-ltb (length counts) (length stack) wide)

      -- what is left of the rows, by the place
      left_at : (v : Place) → place ≡ v → (p : Progress) → r ≡ p → (c : List ℕ) → stands_at r left c ≡ stands_at p (left_by v extents x stack) c
      left_at v e p q c =
          ap (λ (z : Progress). stands_at z left c) q
          ∙ ap (λ (l : List ℕ). stands_at p l c) (leaves ∙ ap (λ (z : Place). left_by z extents x stack) e)

      -- a new extent
      pub read-new : place ≡ Cold → r ≡ go_on ends (reads + 1) (extents + 1)
          → stands_at r left (set counts extents 0) ≡ read_taken reads extents stack counts x ends
      read-new e q = left_at Cold e (go_on ends (reads + 1) (extents + 1)) q (set counts extents 0) ∙ read_at_lem Cold e

      -- an extent at a depth
      pub read_known : (d : ℕ) → place ≡ Depth d → (n : ℕ) → n ≡ (get_or counts (d - 1) 0 + 1) % 2 ^ 32 → r ≡ go_on ends (reads + 1) extents
          → stands_at r left (set counts (d - 1) n) ≡ read_taken reads extents stack counts x ends
      read_known d e n c q =
          left_at (Depth d) e (go_on ends (reads + 1) extents) q (set counts (d - 1) n)
          ∙ ap (λ (v : ℕ). stands_at (go_on ends (reads + 1) extents) (left_by (Depth d) extents x stack) (set counts (d - 1) v)) c
          ∙ read_at_lem (Depth d) e

      -- a new extent, and no room for it
      pub read-full : place ≡ Full → r ≡ refused 9 reads extents → stands_at r left counts ≡ read_taken reads extents stack counts x ends
      read-full e q = left_at Full e (refused 9 reads extents) q counts ∙ read_at_lem Full e

      -- more extents than words of the stack
      pub read-bad : place ≡ BadCount → r ≡ refused 7 reads extents → stands_at r left counts ≡ read_taken reads extents stack counts x ends
      read-bad e q = left_at BadCount e (refused 7 reads extents) q counts ∙ read_at_lem BadCount e

  module _ (phase : Phase) (line : List ℕ) where
    -- the first line
    pub line-head : phase ≡ Empty → (r : Progress) → r ≡ head_taken reads extents (head_found (after trace_word line))
        → stands_at r stack counts ≡ line_taken reads extents stack counts phase line
    unfolding line_taken
    line-head e r q = rw (e, q)

    -- a line inside the trace
    pub line_row : phase ≡ Inside → (v : Option (ℕ × Bool)) → v ≡ row_found (row_of line) → (s : Standing) → s ≡ row_taken reads extents stack counts v
        → s ≡ line_taken reads extents stack counts phase line
    unfolding line_taken
    line_row e v f s q = q ∙ rw (e, f)

    -- a line after the end
    pub line-end : phase ≡ Whole → (r : Progress) → r ≡ refused 1 reads extents → stands_at r stack counts ≡ line_taken reads extents stack counts phase line
    unfolding line_taken
    line-end e r q = rw (e, q)

    -- a line after a refusal
    pub line-stop : (n : ℕ) → phase ≡ Stopped n
        → stands_at (record { phase = phase; reads = reads; extents = extents }) stack counts ≡ line_taken reads extents stack counts phase line
    unfolding line_taken
    line-stop n e = rw e

  -- a line that ends
  module _ (phase : Phase) (front : List ℕ) (held : ℕ) (rest : List ℕ) where
    -- it is too long
    pub end-long : longest_line < held + length rest → (r : Progress) → r ≡ refused 1 reads extents
        → stands_at r stack counts ≡ end_taken reads extents stack counts phase front held rest
    unfolding end_taken
    end-long h r e = rw (e, lt-leb (held + length rest) longest_line h)

    -- it is taken
    pub end-taken : held + length rest ≤ longest_line → (line : List ℕ) → line ≡ take held front ++ rest
        → (s : Standing) → s ≡ line_taken reads extents stack counts phase line → s ≡ end_taken reads extents stack counts phase front held rest
    unfolding end_taken
    end-taken h line e s q = q ∙ rw (le-leb (held + length rest) longest_line h, e)

-- the bytes of a line that ends: those held, and the rest
module _ (front : List ℕ) (held : ℕ) (rest : List ℕ) where
  -- none are held
  pub none-held : held ≡ 0 → rest ≡ take held front ++ rest
  none-held e = rw e

  -- the rest is put behind those held
  pub rest_put : held + length rest ≤ length front → (line : List ℕ) → line ≡ placed front held rest → take (held + length rest) line ≡ take held front ++ rest
  unfolding put_at
  rest_put h line e =
      let w : length (take held front ++ rest) ≡ held + length rest = simp (length-append, length-take-le held front (omega arith)) in
      ap (take (held + length rest)) (e ∙ placed-fits front held rest h ∙ sym (append_assoc (take held front) rest (drop (held + length rest) front)))
      ∙ take_at (take held front ++ rest) (drop (held + length rest) front) (held + length rest) w
