-- How far the row of a customer's misses has come, from the largest size down.
use Rattle.std.proofs.Common.{◌≡◌, ℕ, suc, ◌+◌, ◌-◌, ◌*◌, ◌%◌, ◌^◌, ◌<◌, ◌≤◌, eqb, ◌≢◌, List, length, get_or, drop, set, replicate, sym, ap, ◌∙◌, arith, length-set, get_or-drop, take_all, get_or-set_other, get_or-take, get_or-set_same, eqb-true}
use lib.ListN.{length-replicate, get_or-replicate}
use borrow.Author.Tests.{eqb-false}
use Rattle.reuse.specs.Summary.{extents_of, counts_of, misses_of}
use Rattle.reuse.proofs.Lists.{by-test}
use Rattle.reuse.proofs.Counts.{take-from}
use Rattle.split_calls.proofs.Fewest.{misses-past}
use Rattle.split_calls.proofs.Steps.{misses-step}
use Rattle.split_rows.specs.Rows.{sizes, misses_row}
use Rattle.split_rows.specs.Steps.{Whole}

-- a word added to a sum in a word of 32 bits
pub word-add : (a b : ℕ) → (a % 2 ^ 32 + b) % 2 ^ 32 ≡ (a + b) % 2 ^ 32
word-add a b = omega arith

-- the misses at the sizes from s on stand in the row
pub record Counted (w row : List ℕ) (s : ℕ) : Type 0 where
  pub long : length row ≡ sizes
  pub inside : s ≤ get_or w 1 0
  pub each : (i : ℕ) → s ≤ i → i < sizes → get_or row i 0 ≡ misses_of w i % 2 ^ 32

module _ (w : List ℕ) (g : Whole w) where
  -- from v on there are v misses
  pub counted_start : Counted w (replicate sizes (get_or w 1 0)) (get_or w 1 0)
  unfolding extents_of
  counted_start = record {
    long = length-replicate sizes (get_or w 1 0);
    inside = omega arith;
    each = λ i h l.
        get_or-replicate sizes i (get_or w 1 0) 0 l
        ∙ (let q : get_or w 1 0 ≡ get_or w 1 0 % 2 ^ 32 = omega (arith, g.few) in q)
        ∙ ap (λ (n : ℕ). n % 2 ^ 32) (sym (misses-past w i h));
  }

  -- a word of H
  count_at_lem : (s : ℕ) → s < get_or w 1 0 → get_or (counts_of w) s 0 ≡ get_or w (2 + 2 * get_or w 1 0 + s) 0
  unfolding counts_of extents_of
  count_at_lem s h = get_or-take (get_or w 1 0) (drop (2 + 2 * get_or w 1 0) w) s 0 h ∙ get_or-drop (2 + 2 * get_or w 1 0) w s 0

  module _ (row : List ℕ) (s : ℕ) (c : Counted w row s) (some : 0 < s) where
    -- v is small
    few : s < sizes
    few = omega (arith, c.inside, g.few)

    -- the misses of one size less
    one_less : (get_or row (s - 1 + 1) 0 + get_or w (2 + 2 * get_or w 1 0 + (s - 1)) 0) % 2 ^ 32 ≡ misses_of w (s - 1) % 2 ^ 32
    one_less =
        let e : s - 1 + 1 ≡ s = omega arith in
        let m : misses_of w (s - 1) ≡ misses_of w s + get_or (counts_of w) (s - 1) 0 =
        (let d : misses_of w (suc (s - 1)) ≡ misses_of w s = ap (misses_of w) (let q : suc (s - 1) ≡ s = omega arith in q) in omega (arith, misses-step w (s - 1))) in
        rw (e, c.each s (omega arith) few, sym (count_at_lem (s - 1) (omega (arith, c.inside))), m) (word-add (misses_of w s) (get_or (counts_of w) (s - 1) 0))

    -- one size less
    pub counted-turn : (x : ℕ) → x ≡ (get_or row (s - 1 + 1) 0 + get_or w (2 + 2 * get_or w 1 0 + (s - 1)) 0) % 2 ^ 32 → Counted w (set row (s - 1) x) (s - 1)
    counted-turn x d = record {
      long = length-set row (s - 1) x ∙ c.long;
      inside = omega (arith, c.inside);
      each = λ i h l.
          by-test (eqb i (s - 1))
          (λ e. let q : i ≡ s - 1 = eqb-true i (s - 1) e in rw q (get_or-set_same row (s - 1) x 0 (omega (arith, c.long, few)) ∙ d ∙ one_less))
          (λ e. let q : i ≢ s - 1 = eqb-false i (s - 1) e in get_or-set_other row (s - 1) i x 0 q ∙ c.each i (omega arith) l);
    }

-- all sizes
pub counted-end : (w row : List ℕ) (s : ℕ) → Counted w row s → s ≡ 0 → row ≡ misses_row w
unfolding misses_row
counted-end w row s c e =
    sym (take_all sizes row (omega (arith, c.long)))
    ∙ take-from (λ i. misses_of w i % 2 ^ 32) row 0 sizes (omega (arith, c.long))
    (λ i h. let z : 0 + i ≡ i = omega arith in rw z (c.each i (omega arith) h))
