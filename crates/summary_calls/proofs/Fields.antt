-- The fields of a summary's words, as parts of the slice that holds them.
use mathlib.Core.Path.{◌≡◌, sym, ◌∙◌}
use Prim.Native.Nat.{ℕ, ◌+◌, ◌-◌, ◌*◌, ◌≤◌}
use native.Mathlib.Omega.{arith}
use mathlib.Core.List.{List}
use mathlib.Core.Bool.{true, false, and-false}
use lib.Dec.{eqb}
use lib.ListN.{length, take, drop, get_or}
use lib.Seq.{take-take}
use borrow.Author.Tests.{eqb-true}
use Rattle.reuse.specs.Limits.{max_extents}
use Rattle.reuse.specs.Lists.{sum, distinct, all_in}
use Rattle.reuse.specs.Summary.{well_formed, reads_of, extents_of, first_of, recent_of, counts_of, hits_of, misses_of}
use Rattle.reuse.proofs.Lists.{by-test}
use Rattle.reuse.proofs.Sizes.{in_all}
use Rattle.reuse.proofs.Words.{counts-length, recent-length}
use Rattle.reuse.proofs.Formed.{Formed, formed, well-formed}
use Rattle.reuse.proofs.Misses.{hits-misses}
use Rattle.reuse.proofs.Servable.{hits-whole}
use Rattle.summary_calls.specs.Shapes.{Shaped, Given}

-- words that are not well formed
pub refuse : (w : List ℕ) → (well_formed w ≡ true → ⊥) → false ≡ well_formed w
refuse w h = by-test (well_formed w) (λ e. absurd (h e)) (λ e. sym e)

-- well-formed words have such sizes
pub shaped : (w : List ℕ) → well_formed w ≡ true → Shaped w
unfolding reads_of extents_of
shaped w h = let f : Formed w = formed w h in record { long = f.long; few = f.few; short = f.short }

-- and are fit to be handed on
pub given : (w : List ℕ) → well_formed w ≡ true → Given w
given w h = record { formed = h; shape = shaped w h }

-- a part from the start on
pub front-part : (v : ℕ) (s : List ℕ) → take (v - 0) s ≡ take v s
front-part v s = let n : v - 0 ≡ v = omega arith in rw n

module _ (w : List ℕ) where
  -- F
  pub first_part : take (2 + get_or w 1 0 - 2) (drop 2 w) ≡ first_of w
  unfolding first_of extents_of
  first_part = let n : 2 + get_or w 1 0 - 2 ≡ get_or w 1 0 = omega arith in rw n

  -- R
  pub recent-part : take (2 + get_or w 1 0 + get_or w 1 0 - (2 + get_or w 1 0)) (drop (2 + get_or w 1 0) w) ≡ recent_of w
  unfolding recent_of extents_of
  recent-part = let n : 2 + get_or w 1 0 + get_or w 1 0 - (2 + get_or w 1 0) ≡ get_or w 1 0 = omega arith in rw n

  -- H from its start on
  counts-from : drop (2 + get_or w 1 0 + get_or w 1 0) w ≡ drop (2 + 2 * get_or w 1 0) w
  counts-from = let n : 2 + get_or w 1 0 + get_or w 1 0 ≡ 2 + 2 * get_or w 1 0 = omega arith in rw n

  -- H
  pub counts-part : Shaped w → take (length w - (2 + get_or w 1 0 + get_or w 1 0)) (drop (2 + get_or w 1 0 + get_or w 1 0) w) ≡ counts_of w
  unfolding counts_of extents_of
  counts-part s =
      let n : length w - (2 + get_or w 1 0 + get_or w 1 0) ≡ get_or w 1 0 = omega (arith, s.long) in
      rw (n, counts-from)

  -- the first words of H
  pub counts-front : (k : ℕ) → k ≤ get_or w 1 0
      → take (2 + get_or w 1 0 + get_or w 1 0 + k - (2 + get_or w 1 0 + get_or w 1 0)) (drop (2 + get_or w 1 0 + get_or w 1 0) w) ≡ take k (counts_of w)
  unfolding counts_of extents_of
  counts-front k l =
      let n : 2 + get_or w 1 0 + get_or w 1 0 + k - (2 + get_or w 1 0 + get_or w 1 0) ≡ k = omega arith in
      rw (n, counts-from) (sym (take-take k (get_or w 1 0) (drop (2 + 2 * get_or w 1 0) w) l))

  -- H is no longer than the limit
  pub counts-few : Shaped w → length (counts_of w) ≤ max_extents
  unfolding extents_of
  counts-few s = omega (arith, counts-length w s.long, s.few)

  -- the last test, where the others hold
  pub last-test : Shaped w → distinct (first_of w) ≡ true → all_in (first_of w) (recent_of w) ≡ true
      → well_formed w ≡ eqb (get_or w 1 0 + sum (counts_of w)) (get_or w 0 0)
  unfolding extents_of reads_of
  last-test s d a =
      by-test (eqb (get_or w 1 0 + sum (counts_of w)) (get_or w 0 0))
      (λ e. well-formed w (record {
        long = s.long;
        few = s.few;
        short = s.short;
        once = d;
        held = in_all (first_of w) (recent_of w) a;
        total = eqb-true (get_or w 1 0 + sum (counts_of w)) (get_or w 0 0) e;
      }) ∙ sym e)
      (λ e. let no : well_formed w ≡ false = unfold well_formed in simp (e, and-false) in no ∙ sym e)

module _ (w : List ℕ) (h : well_formed w ≡ true) where
  -- the hits and the misses make up the reads
  pub reads-split : (c : ℕ) → hits_of w c + misses_of w c ≡ get_or w 0 0
  unfolding reads_of
  reads-split c = hits-misses c w (formed w h)

  -- H has v words
  pub counts-size : length (counts_of w) ≡ get_or w 1 0
  unfolding extents_of
  counts-size = counts-length w (formed w h).long

  -- all of H for a size of at least v
  pub hits-all : (c : ℕ) → get_or w 1 0 ≤ c → hits_of w c ≡ sum (counts_of w)
  unfolding extents_of
  hits-all c l = hits-whole w (formed w h) c l

module _ (w : List ℕ) (g : Given w) where
  -- R has v words
  pub recent-size : length (recent_of w) ≡ get_or w 1 0
  unfolding extents_of
  recent-size = recent-length w (formed w g.formed).long

  -- R fits a stack
  pub recent-few : length (recent_of w) ≤ max_extents
  recent-few = omega (arith, recent-size, g.shape.few)
