-- The rows of a sound session, over any number of slots N and of extents M, and what a read does to them.
use Prim.Native.Nat.{ℕ, suc, ◌+◌, ◌-◌, ◌≤◌, ◌<◌}
use mathlib.Core.Path.{◌≡◌, sym, ap, subst, ◌∙◌}
use mathlib.Core.List.{List, [], ◌∷◌, ◌++◌}
use mathlib.Core.Bool.{true, false, or-false}
use native.Mathlib.Omega.{arith}
use lib.Dec.{eqb}
use lib.ListN.{length, take, drop, get_or, set, replicate, length-append, length-replicate, length-set}
use lib.Seq.{take-suc-set, drop-set-lt, drop_at}
use borrow.Author.Tests.{eqb-true}
use Rattle.reuse.specs.Lists.{mem, remove, distinct, sum}
use Rattle.session_marks.specs.Marks.{marked, slot_from}
use Rattle.reuse.proofs.Lists.{by-test, eqb_same, mem-append, mem-remove}
use Rattle.reuse.proofs.Distinct.{distinct_snoc, distinct_remove, length-remove}
use Rattle.reuse.proofs.Sums.{sum-blank-row, free_more, free_step, sum_more}
use Rattle.session_marks.proofs.Marks.{Row, row_count, put-row, put-marked, out-row, out-marked, out_below, gather-row, gather-marked}

-- what soundness says of the marks, the slots, F, H and L
pub record Rows (N M : ℕ) (ms xs first hist : List ℕ) (next reads : ℕ) : Type 0 where
  pub row : Row ms xs
  pub wide : length ms ≡ N
  pub low : next ≤ N
  pub free : sum (drop next ms) ≡ 0
  pub apart : distinct (marked ms xs) ≡ true
  pub few : sum ms ≤ M
  pub first-wide : length first ≡ M
  pub first-apart : distinct (take (sum ms) first) ≡ true
  pub listed : (y : ℕ) → mem y (take (sum ms) first) ≡ mem y (marked ms xs)
  pub first_rest : sum (drop (sum ms) first) ≡ 0
  pub hist-wide : length hist ≡ M
  pub hist-rest : sum (drop (sum ms) hist) ≡ 0
  pub total : reads ≡ sum ms + sum hist

-- a new session's rows
pub rows_new : (N M : ℕ) → Rows N M (replicate N 0) (replicate N 0) (replicate M 0) (replicate M 0) 0 0
unfolding distinct
rows_new N M = record {
  row = gather-row [] N;
  wide = length-replicate N 0;
  low = omega arith;
  free = sum-blank-row N;
  apart = rw (gather-marked [] N);
  few = omega (arith, sum-blank-row N);
  first-wide = length-replicate M 0;
  first-apart = rw (sum-blank-row N);
  listed = λ y. rw (sum-blank-row N, gather-marked [] N);
  first_rest = rw (sum-blank-row N) (sum-blank-row M);
  hist-wide = length-replicate M 0;
  hist-rest = rw (sum-blank-row N) (sum-blank-row M);
  total = omega (arith, sum-blank-row N, sum-blank-row M);
}

module _ (N M : ℕ) (ms xs first hist : List ℕ) (next reads : ℕ) (h : Rows N M ms xs first hist next reads) where
  -- the marks in the first slots
  abbrev front : List ℕ
  front = replicate (sum ms) 1 ++ replicate (N - sum ms) 0

  -- the extents in the first slots
  abbrev moved_up : List ℕ
  moved_up = marked ms xs ++ replicate (N - sum ms) 0

  -- the marked slots moved to the front are a row
  gathered-row : Row front moved_up
  gathered-row = subst (λ (k : ℕ). Row (replicate k 1 ++ replicate (N - sum ms) 0) moved_up) (row_count h.row) (gather-row (marked ms xs) (N - sum ms))

  -- with the same extents, in order
  pub gathered-marked : marked (replicate (sum ms) 1 ++ replicate (N - sum ms) 0) (marked ms xs ++ replicate (N - sum ms) 0) ≡ marked ms xs
  gathered-marked =
      subst (λ (k : ℕ). marked (replicate k 1 ++ replicate (N - sum ms) 0) moved_up ≡ marked ms xs) (row_count h.row) (gather-marked (marked ms xs) (N - sum ms))

  -- as many as before
  pub gathered-count : sum (replicate (sum ms) 1 ++ replicate (N - sum ms) 0) ≡ sum ms
  gathered-count = sym (row_count gathered-row) ∙ ap length gathered-marked ∙ row_count h.row

  -- gathering keeps the rows sound
  pub rows-gathered : sum ms ≤ N → Rows N M (replicate (sum ms) 1 ++ replicate (N - sum ms) 0) (marked ms xs ++ replicate (N - sum ms) 0) first hist (sum ms) reads
  rows-gathered w = record {
    row = gathered-row;
    wide = simp (length-append, length-replicate) (omega arith);
    low = w;
    free = ap sum (drop_at (replicate (sum ms) 1) (replicate (N - sum ms) 0) (sum ms) (length-replicate (sum ms) 1)) ∙ sum-blank-row (N - sum ms);
    apart = rw gathered-marked h.apart;
    few = rw gathered-count h.few;
    first-wide = h.first-wide;
    first-apart = rw gathered-count h.first-apart;
    listed = λ y. rw (gathered-count, gathered-marked) (h.listed y);
    first_rest = rw gathered-count h.first_rest;
    hist-wide = h.hist-wide;
    hist-rest = rw gathered-count h.hist-rest;
    total = rw gathered-count h.total;
  }

  module _ (x : ℕ) (w : next < N) where
    -- a new mark at next: its extent comes last
    pub entered-marked : marked (set ms next 1) (set xs next x) ≡ marked ms xs ++ (x ∷ [])
    entered-marked = put-marked h.row next x (omega (arith, h.wide)) h.free

    -- one mark more
    pub entered-count : sum (set ms next 1) ≡ suc (sum ms)
    entered-count =
        sym (row_count (put-row h.row next x h.free))
        ∙ ap length entered-marked
        ∙ simp length-append (omega (arith, row_count h.row))

    -- F with one extent more
    pub entered-first : sum ms < M → take (suc (sum ms)) (set first (sum ms) x) ≡ take (sum ms) first ++ (x ∷ [])
    entered-first room = take-suc-set first (sum ms) x (omega (arith, h.first-wide))

    -- a first read of x keeps the rows sound
    pub rows-entered : mem x (marked ms xs) ≡ false → sum ms < M
        → Rows N M (set ms next 1) (set xs next x) (set first (sum ms) x) hist (suc next) (suc reads)
    rows-entered new room = record {
      row = put-row h.row next x h.free;
      wide = length-set ms next 1 ∙ h.wide;
      low = w;
      free = free_more ms next 1 h.free;
      apart = rw entered-marked (distinct_snoc x (marked ms xs) ∙ simp (new, h.apart));
      few = rw entered-count room;
      first-wide = length-set first (sum ms) x ∙ h.first-wide;
      first-apart = rw (entered-count, entered-first room) (distinct_snoc x (take (sum ms) first) ∙ simp (h.listed, new, h.first-apart));
      listed = λ y. rw (entered-count, entered-first room, entered-marked) (simp (mem-append, h.listed));
      first_rest = rw entered-count (free_more first (sum ms) x h.first_rest);
      hist-wide = h.hist-wide;
      hist-rest = rw entered-count (free_step hist (sum ms) h.hist-rest);
      total = rw entered-count (omega (arith, h.total));
    }

    -- the slot of x
    abbrev slot : ℕ
    slot = slot_from ms xs x

    module _ (old : mem x (marked ms xs) ≡ true) where
      -- the places from next on stay free
      moved-free : sum (drop next (set ms slot 0)) ≡ 0
      moved-free = ap sum (drop-set-lt next ms slot 0 (out_below h.row x next old h.free)) ∙ h.free

      -- the mark of x moved to next: its extent comes last
      pub moved-marked : marked (set (set ms (slot_from ms xs x) 0) next 1) (set (set xs (slot_from ms xs x) 0) next x) ≡ remove x (marked ms xs) ++ (x ∷ [])
      moved-marked =
          put-marked (out-row h.row x) next x (omega (arith, h.wide, length-set ms slot 0)) moved-free
          ∙ ap (λ (l : List ℕ). l ++ (x ∷ [])) (out-marked h.row x h.apart)

      -- a mark moved is a row still
      moved_row : Row (set (set ms slot 0) next 1) (set (set xs slot 0) next x)
      moved_row = put-row (out-row h.row x) next x moved-free

      -- as many marks as before
      pub moved-count : sum (set (set ms (slot_from ms xs x) 0) next 1) ≡ sum ms
      moved-count =
          sym (row_count moved_row)
          ∙ ap length moved-marked
          ∙ simp length-append (omega (arith, length-remove x (marked ms xs) h.apart old, row_count h.row))

      -- the same extents as before
      moved-mem : (y : ℕ) → mem y (remove x (marked ms xs) ++ (x ∷ [])) ≡ mem y (marked ms xs)
      unfolding mem
      moved-mem y =
          simp (mem-append, mem-remove)
          (by-test (eqb y x) (λ e. let m : mem y (marked ms xs) ≡ true = rw (eqb-true y x e) old in simp (e, m)) (λ e. simp (e, or-false)))

      -- a read of x again, k extents above it, keeps the rows sound
      pub rows-moved : (k : ℕ) → k < sum ms
          → Rows N M (set (set ms (slot_from ms xs x) 0) next 1) (set (set xs (slot_from ms xs x) 0) next x) first (set hist k (suc (get_or hist k 0))) (suc next) (suc reads)
      rows-moved k inside = record {
        row = moved_row;
        wide = length-set (set ms slot 0) next 1 ∙ length-set ms slot 0 ∙ h.wide;
        low = w;
        free = free_more (set ms slot 0) next 1 moved-free;
        apart = rw moved-marked (distinct_snoc x (remove x (marked ms xs)) ∙ simp (mem-remove, eqb_same, distinct_remove x (marked ms xs) h.apart));
        few = rw moved-count h.few;
        first-wide = h.first-wide;
        first-apart = rw moved-count h.first-apart;
        listed = λ y. rw (moved-count, moved-marked, moved-mem y) (h.listed y);
        first_rest = rw moved-count h.first_rest;
        hist-wide = length-set hist k (suc (get_or hist k 0)) ∙ h.hist-wide;
        hist-rest = rw moved-count (ap sum (drop-set-lt (sum ms) hist k (suc (get_or hist k 0)) inside) ∙ h.hist-rest);
        total = rw moved-count (omega (arith, h.total, sum_more hist k (omega (arith, h.few, h.hist-wide))));
      }
