-- Different words counted by a table of them: a turn of the loop, and two traces counted one after the other.
use mathlib.Core.Path.{◌≡◌, refl, sym, ap, ◌∙◌}
use Prim.Native.Nat.{ℕ, suc, ◌+◌, ◌≤◌, ◌<◌, min}
use native.Mathlib.Omega.{arith}
use native.Mathlib.Numerals.{add-one}
use mathlib.Core.List.{List, [], ◌∷◌, ◌++◌, append_assoc, append-nil}
use mathlib.Core.Bool.{true, false}
use lib.Dec.{eqb}
use lib.ListN.{length, take, drop, get_or, set, replicate, drop_of_length-le, take-append-drop, length-set, length-append, length-replicate}
use lib.Seq.{take-suc, take_all, take-suc-set, length-take-le}
use borrow.Author.Tests.{eqb-true, eqb-false}
use Rattle.reuse.specs.Limits.{max_extents}
use Rattle.reuse.specs.Lists.{mem, distinct, firsts}
use Rattle.reuse_tables.specs.Tables.{table_places, bucket_of, looked_up, Notes, Held, Counted}
use Rattle.reuse.proofs.Lists.{by-test, mem-firsts, firsts-append, firsts-known, firsts-new, firsts-longer}
use Rattle.reuse.proofs.Distinct.{distinct-firsts, firsts-distinct}
use Rattle.reuse_tables.proofs.Lookups.{notes-start, notes-more, stands-past, stands-any}

-- a word looked up in a table that the words are noted in, where they are within the limit
noted-up : (l table : List ℕ) (x : ℕ) → Notes table l → length l ≤ max_extents → looked_up l table x ≡ mem x l
unfolding looked_up mem
noted-up l table x u f =
    by-test (eqb p 0)
    (λ q. stands-past l p x (eqb-true p 0 q) ∙ rw (drop_of_length-le l {i = max_extents} f) (sym (absent (eqb-true p 0 q))))
    (λ q. stands-any l p x (eqb-false p 0 q))
  where
    -- what the table has at the place of x
    p : ℕ
    p = get_or table (bucket_of x) 0

    -- no word falls to the place
    absent : p ≡ 0 → mem x l ≡ false
    absent z = by-test (mem x l) (λ m. absurd (u.noted x m z)) (λ m. m)

-- the first n words held are the different ones of l and of the first i words
pub record Counting (l words held table : List ℕ) (n i : ℕ) : Type 0 where
  pub within : i ≤ length words
  pub long : length held ≡ max_extents
  pub fits : n ≤ max_extents
  pub front : take n held ≡ firsts (l ++ take i words)
  pub notes : Notes table (take n held)

-- before the first word
pub count-start : (words held table : List ℕ) (n : ℕ) → Held held table n
    → Counting (take n held) words held table n 0
count-start words held table n h = record {
  within = omega arith;
  long = h.long;
  fits = h.fits;
  front = sym (ap firsts (append-nil (take n held)) ∙ firsts-distinct (take n held) h.once);
  notes = h.notes;
}

module _ (l words held table : List ℕ) (n i : ℕ) (h : Counting l words held table n i) where
  -- as many as are held
  held-size : length (take n held) ≡ n
  held-size = length-take-le n held (omega (arith, h.fits, h.long))

  -- no word is left
  pub count-end : length words ≤ i → Counted l words held table n
  count-end e =
      let f : take n held ≡ firsts (l ++ words) = h.front ∙ ap (λ (w : List ℕ). firsts (l ++ w)) (take_all i words e) in
      record {
        count = omega (arith, held-size, ap length f, h.fits);
        front = λ _. f;
        kept = λ _. record { long = h.long; fits = h.fits; once = rw f (distinct-firsts (l ++ words)); notes = h.notes };
      }

  module _ (e : i < length words) where
    -- the next word
    abbrev x : ℕ
    x = get_or words i 0

    -- the words passed with it
    passed : l ++ take (i + 1) words ≡ (l ++ take i words) ++ (x ∷ [])
    passed = rw (add-one i, take-suc words i 0 e) (sym (append_assoc l (take i words) (x ∷ [])))

    -- it stands among those passed where it is held
    same : mem (get_or words i 0) (l ++ take i words) ≡ mem (get_or words i 0) (take n held)
    same = rw h.front (sym (mem-firsts x (l ++ take i words)))

    -- the table tells whether it is held
    pub told : looked_up (take n held) table (get_or words i 0) ≡ mem (get_or words i 0) (take n held)
    told = noted-up (take n held) table x h.notes (omega (arith, held-size, h.fits))

    -- a word that is held
    pub count-known : mem (get_or words i 0) (take n held) ≡ true → Counting l words held table n (i + 1)
    count-known m = record {
      within = omega arith;
      long = h.long;
      fits = h.fits;
      front = h.front ∙ sym (ap firsts passed ∙ firsts-known x (l ++ take i words) (same ∙ m));
      notes = h.notes;
    }

    module _ (m : mem (get_or words i 0) (take n held) ≡ false) where
      -- the different words with it
      more : firsts (l ++ take (i + 1) words) ≡ take n held ++ (x ∷ [])
      more = ap firsts passed ∙ firsts-new x (l ++ take i words) (same ∙ m) ∙ rw h.front

      -- a word that is not held, where there is room
      pub count-new : n < max_extents
          → Counting l words (set held n (get_or words i 0)) (set table (bucket_of (get_or words i 0)) (n + 1)) (n + 1) (i + 1)
      count-new f =
          let s : take (n + 1) (set held n x) ≡ take n held ++ (x ∷ []) =
          rw (add-one n) (take-suc-set held n x (omega (arith, h.long))) in
          record {
            within = omega arith;
            long = length-set held n x ∙ h.long;
            fits = omega arith;
            front = s ∙ sym more;
            notes = rw (s, add-one n) (notes-more table (take n held) x n h.notes);
          }

      -- and where there is none
      pub count-full : n ≡ max_extents → Counted l words held table (suc max_extents)
      count-full f =
          let t : List ℕ = l ++ take (i + 1) words in
          let a : t ++ drop (i + 1) words ≡ l ++ words =
          append_assoc l (take (i + 1) words) (drop (i + 1) words) ∙ ap (λ (w : List ℕ). l ++ w) (take-append-drop (i + 1) words) in
          let k : length (firsts t) ≡ n + 1 = ap length more ∙ length-append (take n held) (x ∷ []) ∙ omega (arith, held-size) in
          record {
            count = omega (arith, k, rw a at (firsts-longer (drop (i + 1) words) t));
            front = λ z. absurd (omega arith);
            kept = λ z. absurd (omega arith);
          }

-- nothing is held
pub held_none : Held (replicate max_extents 0) (replicate table_places 0) 0
unfolding distinct
held_none = record {
  long = length-replicate {A = ℕ} max_extents 0;
  fits = omega arith;
  once = refl;
  notes = notes-start (replicate table_places 0) (length-replicate {A = ℕ} table_places 0);
}

module _ (a b held table : List ℕ) (n : ℕ) (h : Counted [] a held table n) where
  -- the first trace alone has more than the limit
  pub first-over : max_extents < n → n ≡ min (length (firsts (a ++ b))) (suc max_extents)
  first-over l = omega (arith, h.count, firsts-longer b a)

  -- both are counted
  pub both-counted : (held' table' : List ℕ) (r : ℕ) → n ≤ max_extents → Counted (take n held) b held' table' r
      → r ≡ min (length (firsts (a ++ b))) (suc max_extents)
  both-counted held' table' r l k =
      k.count ∙ ap (λ (z : List ℕ). min (length z) (suc max_extents)) (ap (λ (z : List ℕ). firsts (z ++ b)) (h.front l) ∙ once)
    where
      -- repeats dropped in front first
      once : firsts (firsts a ++ b) ≡ firsts (a ++ b)
      once = firsts-append (firsts a) b ∙ rw (firsts-distinct (firsts a) (distinct-firsts a)) (sym (firsts-append a b))
