-- Tables of words: what the table of words tells of them, and a turn of each loop that fills or asks one.
use mathlib.Core.Path.{◌≡◌, refl, sym, ap, ◌∙◌}
use Prim.Native.Nat.{ℕ, suc, ◌+◌, ◌≤◌, ◌<◌, min}
use native.Mathlib.Omega.{arith}
use native.Mathlib.Numerals.{add-one}
use native.Mathlib.Decide.{ℕ_discrete}
use mathlib.Core.List.{List, [], ◌∷◌, ◌++◌, append_assoc, append-nil}
use mathlib.Core.Bool.{Bool, true, false, ◌||◌, or-false}
use lib.Dec.{eqb}
use lib.ListN.{length, take, drop, get_or, set, replicate, drop_of_length-le, take-append-drop, length-take, length-set, length-replicate}
use Rattle.std.specs.Prelude.{IsTrue, EachIndex, ◌↔◌}
use Rattle.std.proofs.lemmas.List.{take_min}
use Rattle.std.proofs.Math.Nat.{min_comm}
use lib.Seq.{take-suc, take_all, get_or-set_same, get_or-set_other}
use borrow.Author.Tests.{eq-eqb, ne_eqb, eqb-true, eqb-false}
use Rattle.reuse.specs.Limits.{max_extents}
use Rattle.reuse.specs.Lists.{mem, distinct, all_in}
use Rattle.reuse_tables.specs.Tables.{table_places, bucket_of, hints_from, hints_of, stands_by, looked_up, Notes}
use Rattle.reuse.proofs.Lists.{by-test, clash, mem-at, mem-append}
use Rattle.reuse.proofs.Sizes.{in_all}
use Rattle.reuse.proofs.Distinct.{distinct_snoc}
use Rattle.reuse.proofs.Cache.{distinct-take}
use Rattle.reuse_rows.proofs.Slices.{next_word}

-- a word falls to a place of the table
pub bucket-below : (x : ℕ) → bucket_of x < table_places
unfolding bucket_of
bucket-below x = omega arith

-- no word is noted
pub notes-start : (table : List ℕ) → length table ≡ table_places → Notes table []
unfolding mem
notes-start table w = record { wide = w; noted = λ y h e. clash h refl }

module _ (table l : List ℕ) (x n : ℕ) (u : Notes table l) where
  -- a word that falls to another place was noted before
  noted-before : (y : ℕ) → mem y (l ++ (x ∷ [])) ≡ true → (bucket_of y ≡ bucket_of x → ⊥) → mem y l ≡ true
  unfolding mem
  noted-before y k q =
      by-test (eqb y x) (λ e. absurd (q (ap bucket_of (eqb-true y x e)))) (λ e. simp (mem-append, e, or-false) at k)

  -- it still is; and one that falls to this place is noted now
  noted-there : (y : ℕ) → mem y (l ++ (x ∷ [])) ≡ true → get_or (set table (bucket_of x) (suc n)) (bucket_of y) 0 ≡ 0
      → Dec (bucket_of y ≡ bucket_of x) → ⊥
  noted-there y k e (yes q) =
      omega (arith, rw q at e, get_or-set_same table (bucket_of x) (suc n) 0 (omega (arith, bucket-below x, u.wide)))
  noted-there y k e (no q) =
      u.noted y (noted-before y k q) (sym (get_or-set_other table (bucket_of x) (bucket_of y) (suc n) 0 q) ∙ e)

  -- one more word is noted
  pub notes-more : Notes (set table (bucket_of x) (suc n)) (l ++ (x ∷ []))
  notes-more = record {
    wide = length-set table (bucket_of x) (suc n) ∙ u.wide;
    noted = λ y k e. noted-there y k e (ℕ_discrete (bucket_of y) (bucket_of x));
  }

-- words noted one after the other
notes-from : (xs l table : List ℕ) (n : ℕ) → Notes table l → Notes (hints_from table (suc n) xs) (l ++ xs)
unfolding hints_from
notes-from [] l table n u = rw append-nil u
notes-from (x ∷ xs) l table n u =
    rw append_assoc at (notes-from xs (l ++ (x ∷ [])) (set table (bucket_of x) (suc n)) (suc n) (notes-more table l x n u))

-- each of the words within the limit is noted in their table
hints-notes : (words : List ℕ) → Notes (hints_of words) (take max_extents words)
unfolding hints_of
hints-notes words =
    notes-from (take max_extents words) [] (replicate table_places 0) 0 (notes-start (replicate table_places 0) (length-replicate {A = ℕ} table_places 0))

module _ (words : List ℕ) (p x : ℕ) where
  -- the table has no word
  pub stands-past : p ≡ 0 → stands_by words p x ≡ mem x (drop max_extents words)
  unfolding stands_by
  stands-past e = rw (eq-eqb p 0 e)

  -- it has one
  pub stands-any : (p ≡ 0 → ⊥) → stands_by words p x ≡ mem x words
  unfolding stands_by
  stands-any e = rw (ne_eqb p 0 e)

-- a word looked up in the table of the words
pub looked-up : (words table : List ℕ) (x : ℕ) → table ≡ hints_of words → looked_up words table x ≡ mem x words
unfolding looked_up
looked-up words table x e =
    by-test (eqb p 0)
    (λ q. stands-past words p x (eqb-true p 0 q) ∙ sym (split ∙ simp (absent (eqb-true p 0 q))))
    (λ q. stands-any words p x (eqb-false p 0 q))
  where
    -- what the table has at the place of x
    p : ℕ
    p = get_or table (bucket_of x) 0

    -- the words within the limit, and those past it
    split : mem x words ≡ mem x (take max_extents words) || mem x (drop max_extents words)
    split = ap (mem x) (sym (take-append-drop max_extents words)) ∙ mem-append x (take max_extents words) (drop max_extents words)

    -- no word falls to the place
    absent : p ≡ 0 → mem x (take max_extents words) ≡ false
    absent z = by-test (mem x (take max_extents words)) (λ m. absurd ((hints-notes words).noted x m (rw e at z))) (λ m. m)

-- the first i of the words within the limit are noted; what is left of them is still to be noted
pub record Noting (words noted table : List ℕ) (i : ℕ) : Type 0 where
  pub few : length noted ≤ max_extents
  pub same : hints_from table (suc i) (drop i noted) ≡ hints_of words

module _ (words noted : List ℕ) where
  -- none is noted
  pub note-start : noted ≡ take (min (length words) max_extents) words → Noting words noted (replicate table_places 0) 0
  unfolding hints_of
  note-start e = record { few = omega (arith, ap length e, length-take (min (length words) max_extents) words); same = rw (e, ap (λ (n : ℕ). take n words) (min_comm (length words) max_extents), take_min max_extents words) refl }

  module _ (table : List ℕ) (i : ℕ) (h : Noting words noted table i) where
    -- the next one
    pub note-turn : i < length noted → Noting words noted (set table (bucket_of (get_or noted i 0)) (i + 1)) (i + 1)
    unfolding hints_from
    note-turn l = record { few = h.few; same = rw add-one (rw (next_word noted i l, add-one) at h.same) }

    -- all are
    pub note-end : length noted ≤ i → table ≡ hints_of words
    unfolding hints_from
    note-end l = rw (drop_of_length-le noted {i = i} l) at h.same

-- the first i words are apart, and each is noted in the table
pub record Apart (s seen : List ℕ) (i : ℕ) : Type 0 where
  pub within : i ≤ length s
  pub notes : Notes seen (take i s)
  pub apart : distinct (take i s) ≡ true

module _ (s : List ℕ) where
  -- before the first word
  pub apart-start : (seen : List ℕ) → length seen ≡ table_places → Apart s seen 0
  unfolding distinct
  apart-start seen w = record { within = omega arith; notes = notes-start seen w; apart = refl }

  module _ (seen : List ℕ) (i : ℕ) (h : Apart s seen i) where
    -- no word before it falls to its place
    pub apart-free : get_or seen (bucket_of (get_or s i 0)) 0 ≡ 0 → mem (get_or s i 0) (take i s) ≡ false
    apart-free e = by-test (mem (get_or s i 0) (take i s)) (λ m. absurd (h.notes.noted (get_or s i 0) m e)) (λ m. m)

    module _ (l : i < length s) where
      -- the words with the next one
      next-taken : take (i + 1) s ≡ take i s ++ (get_or s i 0 ∷ [])
      next-taken = rw add-one (take-suc s i 0 l)

      -- a word that does not stand before
      pub apart-turn : mem (get_or s i 0) (take i s) ≡ false → Apart s (set seen (bucket_of (get_or s i 0)) 1) (i + 1)
      apart-turn m = record {
        within = omega arith;
        notes = rw next-taken (notes-more seen (take i s) (get_or s i 0) 0 h.notes);
        apart = rw (next-taken, distinct_snoc) (simp (m, h.apart));
      }

      -- a word that does
      pub apart-not : mem (get_or s i 0) (take i s) ≡ true → false ≡ distinct s
      apart-not m =
          by-test (distinct s)
          (λ t. clash (distinct-take (i + 1) s t) (rw (next-taken, distinct_snoc) (simp m)))
          (λ f. sym f)

    -- no word is left
    pub apart-end : length s ≤ i → true ≡ distinct s
    apart-end l = sym (rw (take_all i s l) at h.apart)

-- each word of s stands in t
all-in : (s t : List ℕ) → ((k : ℕ) → k < length s → mem (get_or s k 0) t ≡ true) → all_in s t ≡ true
unfolding all_in
all-in [] t h = refl
all-in (x ∷ s) t h = rw (h 0 (omega arith)) (all-in s t (λ k l. h (suc k) (omega arith)))

-- whether each does, by the table of the words of t
pub all-told : (s t table : List ℕ) (r : Bool) → table ≡ hints_of t → IsTrue r ↔ EachIndex s (λ k. IsTrue (looked_up t table (get_or s k 0))) → r ≡ all_in s t
all-told s t table r e h =
    by-test r
    (λ q. q ∙ sym (all-in s t (λ k l. sym (looked-up t table (get_or s k 0) e) ∙ h.0 q k l)))
    (λ q. by-test (all_in s t)
    (λ a. clash (h.1 (λ k l. looked-up t table (get_or s k 0) e ∙ in_all s t a (get_or s k 0) (mem-at s k (get_or s k 0) l refl))) q)
    (λ a. q ∙ sym a))
