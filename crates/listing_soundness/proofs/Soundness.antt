-- The parts of a lister: one law for each way that the code returns, and what each test gives.
use mathlib.Core.Path.{◌≡◌, sym, ap, ◌∙◌}
use Prim.Native.Nat.{ℕ, ◌+◌, ◌-◌, ◌≤◌, ◌<◌}
use native.Mathlib.Omega.{arith}
use mathlib.Core.List.{List}
use mathlib.Core.Bool.{Bool, true, false, ◌&&◌}
use lib.Dec.{eqb, leb}
use lib.ListN.{length, take, drop, length-drop}
use borrow.Author.Tests.{leb-true, eqb-true, le-leb, lt-leb, eq-eqb, ne_eqb}
use Rattle.reuse.specs.Limits.{max_reads, max_extents}
use Rattle.reuse.specs.Lists.{distinct, sum}
use Rattle.reuse.proofs.Lists.{both}
use Rattle.reuse_rows.specs.Rows.{blank}
use Rattle.texts.specs.Lines.{line_count}
use Rattle.texts.specs.Logs.{longest_line}
use Rattle.texts.specs.Words.{run_of}
use Rattle.texts_pieces.specs.Pieces.{line_length}
use Rattle.listing_tally.specs.Rows.{Tallied}
use Rattle.listing_soundness.specs.Soundness.{holds_line, holds_tally}
use Rattle.listing_soundness.proofs.Rows.{line_clear, run-blank}

-- what is held of a line
module _ (line : List ℕ) (held : ℕ) where
  -- more bytes than a line has
  pub line-over : longest_line < held → false ≡ holds_line line held
  unfolding holds_line
  line-over h = rw (lt-leb held longest_line h)

  module _ (fits : held ≤ longest_line) (wide : length line ≡ longest_line) (n : ℕ) (is : n ≡ line_length held (drop 0 line)) where
    -- whether a line ends among them
    ends_is : eqb n held ≡ eqb (line_count (take held line)) 0
    ends_is = ap (λ (k : ℕ). eqb k held) is ∙ line_clear held line (omega arith)

    -- one does
    pub line-ends : (n ≡ held → ⊥) → false ≡ holds_line line held
    unfolding holds_line
    line-ends h = let e : eqb (line_count (take held line)) 0 ≡ false = sym ends_is ∙ ne_eqb n held h in rw (le-leb held longest_line fits, e)

    -- none does: the run of 0 after them says
    pub line-left : n ≡ held → (k : ℕ) → k ≡ run_of (longest_line - held) 0 (drop held line) → eqb k (longest_line - held) ≡ holds_line line held
    unfolding holds_line
    line-left h k e =
        let z : eqb (line_count (take held line)) 0 ≡ true = sym ends_is ∙ eq-eqb n held h in
        let w : length (drop held line) ≡ longest_line - held = length-drop held line ∙ omega (arith, wide) in
        let b : eqb k (longest_line - held) ≡ blank (drop held line) =
        ap (λ (j : ℕ). eqb j (longest_line - held)) e
        ∙ ap (λ (j : ℕ). eqb (run_of j 0 (drop held line)) j) (sym w)
        ∙ run-blank (drop held line) in
        b ∙ rw (le-leb held longest_line fits, z)

  -- what it gives
  pub line-facts : holds_line line held ≡ true → (held ≤ longest_line) × (line_count (take held line) ≡ 0) × (blank (drop held line) ≡ true)
  unfolding holds_line
  line-facts h =
      let a = both (leb held longest_line && eqb (line_count (take held line)) 0) (blank (drop held line)) h in
      let b = both (leb held longest_line) (eqb (line_count (take held line)) 0) a.0 in
      (leb-true held longest_line b.0, eqb-true (line_count (take held line)) 0 b.1, a.1)

-- the tally in two rows
module _ (reads extents : ℕ) (stack counts : List ℕ) where
  -- more extents than the limit
  pub tally-extents : max_extents < extents → false ≡ holds_tally reads extents stack counts
  unfolding holds_tally
  tally-extents h = rw (lt-leb extents max_extents h)

  module _ (few : extents ≤ max_extents) where
    -- more reads than the limit
    pub tally-reads : max_reads < reads → false ≡ holds_tally reads extents stack counts
    unfolding holds_tally
    tally-reads h = rw (le-leb extents max_extents few, lt-leb reads max_reads h)

    module _ (short : reads ≤ max_reads) where
      -- an extent twice
      pub tally-twice : distinct (take extents stack) ≡ false → false ≡ holds_tally reads extents stack counts
      unfolding holds_tally
      tally-twice h = rw (le-leb extents max_extents few, le-leb reads max_reads short, h)

      module _ (once : distinct (take extents stack) ≡ true) (total : ℕ) (is : total ≡ sum (take extents counts)) where
        -- reads that are not counted, or counts that no read has
        pub tally-other : (extents + total ≡ reads → ⊥) → false ≡ holds_tally reads extents stack counts
        unfolding holds_tally
        tally-other h =
            rw (le-leb extents max_extents few, le-leb reads max_reads short, once, ne_eqb (extents + sum (take extents counts)) reads (λ z. h (omega (arith, z, is))))

        -- all reads are: what stands after the tally says
        pub tally-left : extents + total ≡ reads → (a b : Bool) → a ≡ blank (drop extents stack) → b ≡ blank (drop extents counts) → a && b ≡ holds_tally reads extents stack counts
        unfolding holds_tally
        tally-left h a b p q =
            rw (le-leb extents max_extents few, le-leb reads max_reads short, once, eq-eqb (extents + sum (take extents counts)) reads (omega (arith, h, is)), p, q)

  -- what stands after it is 0
  pub tally-rest : holds_tally reads extents stack counts ≡ true → (blank (drop extents stack) ≡ true) × (blank (drop extents counts) ≡ true)
  unfolding holds_tally
  tally-rest h =
      let all = leb extents max_extents && leb reads max_reads && distinct (take extents stack) && eqb (extents + sum (take extents counts)) reads in
      let a = both (all && blank (drop extents stack)) (blank (drop extents counts)) h in
      ((both all (blank (drop extents stack)) a.0).1, a.1)

  -- what it gives
  pub tally-facts : holds_tally reads extents stack counts ≡ true → length stack ≡ max_extents → length counts ≡ max_extents → Tallied reads extents stack counts
  unfolding holds_tally
  tally-facts h s n =
      let few = leb extents max_extents in
      let short = leb reads max_reads in
      let once = distinct (take extents stack) in
      let all = eqb (extents + sum (take extents counts)) reads in
      let a = both (few && short && once && all && blank (drop extents stack)) (blank (drop extents counts)) h in
      let b = both (few && short && once && all) (blank (drop extents stack)) a.0 in
      let d = both (few && short && once) all b.0 in
      let e = both (few && short) once d.0 in
      let f = both few short e.0 in
      record {
        stack-wide = s;
        counts-wide = n;
        few = leb-true extents max_extents f.0;
        once = e.1;
        all = eqb-true (extents + sum (take extents counts)) reads d.1;
        short = leb-true reads max_reads f.1;
      }
