-- A session that has read a trace, and what a read makes of it.
use Prim.Native.Nat.{ℕ, suc, ◌+◌, ◌-◌, ◌≤◌, ◌<◌}
use mathlib.Core.Path.{◌≡◌, refl, sym, ap, ◌∙◌}
use mathlib.Core.List.{List, [], ◌∷◌, ◌++◌}
use mathlib.Core.Bool.{true, false, cond}
use native.Mathlib.Omega.{arith}
use native.Mathlib.Decide.{ℕ_discrete, dec_lt}
use lib.Dec.{eqb}
use lib.ListN.{length, take, get_or, set, length-append}
use lib.Seq.{length-take-le, get_or-take, get_or-set_same, get_or-set_other, ext_get_or}
use borrow.Author.Tests.{eq-eqb, ne_eqb}
use Rattle.reuse.specs.Lists.{mem, before, firsts, sum, count}
use Rattle.reuse.specs.Lru.{at, depth, touch, stack, reuses, count_at}
use Rattle.reuse.specs.Summary.{histogram, count_for}
use Rattle.reuse.specs.Limits.{max_reads, max_extents, slot_count}
use Rattle.session_calls.specs.Sessions.{FullSession, FullWide, fresh, marks, extents, stack_of, first_row, sound}
use Rattle.session_marks.specs.Marks.{marked}
use Rattle.session_calls.specs.Reads.{roomed, moved, entered, taken}
use Rattle.reuse.proofs.Lists.{by-test, firsts-known, firsts-new}
use Rattle.reuse.proofs.Stack.{stack_snoc, mem-stack}
use Rattle.reuse.proofs.Depth.{depth-present, depth-absent, length_before}
use Rattle.reuse.proofs.Words.{length-histogram}
use Rattle.reuse.proofs.Join.{count-range, count-more, histogram-at}
use Rattle.reuse.proofs.Sums.{free-at, get_or-blank-row}
use Rattle.session_calls.proofs.Sound.{Kept, true-sound, kept-sound, kept-wide, kept-few, length-first, length-stack, fresh_kept}
use Rattle.session_calls.proofs.Taken.{kept-roomed, entered-row, kept-entered, entered-stack, kept-moved, moved-stack, moved-first}

-- s has read exactly the trace t: it is sound, and its L, F, stack and H are those of t
pub record Stands (s : FullSession) (t : List ℕ) : Type 0 where
  pub wide : FullWide s
  pub is-sound : sound s ≡ true
  pub counted : s.reads ≡ length t
  pub first-known : first_row s ≡ firsts t
  pub stacked : stack_of s ≡ stack t
  pub hist-known : take (extents s) s.hist ≡ histogram t

-- the same by sound rows, with H word by word
pub record Known (s : FullSession) (t : List ℕ) : Type 0 where
  pub kept : Kept s
  pub counted : s.reads ≡ length t
  pub first-known : first_row s ≡ firsts t
  pub stacked : stack_of s ≡ stack t
  pub hist-at : (i : ℕ) → get_or s.hist i 0 ≡ count_at (reuses [] t) (suc i)

-- the marks are as many as the trace's extents
pub known-extents : (s : FullSession) (t : List ℕ) → Known s t → extents s ≡ length (firsts t)
known-extents s t g = sym (length-first s g.kept) ∙ ap length g.first-known

-- what is known stands, within the limit of reads
pub known-stands : (s : FullSession) (t : List ℕ) → Known s t → length t ≤ max_reads → Stands s t
known-stands s t g short = record {
  wide = kept-wide s g.kept;
  is-sound = kept-sound s g.kept (omega (arith, g.counted));
  counted = g.counted;
  first-known = g.first-known;
  stacked = g.stacked;
  hist-known = ext_get_or 0 (take (extents s) s.hist) (histogram t) same
      (λ i l. get_or-take (extents s) s.hist i 0 (omega (arith, size)) ∙ g.hist-at i ∙ unfold count_for in sym (histogram-at t (suc i)));
}
  where
    size : length (take (extents s) s.hist) ≡ extents s
    size = length-take-le (extents s) s.hist (omega (arith, kept-few s g.kept, g.kept.rows.hist-wide))

    same : length (take (extents s) s.hist) ≡ length (histogram t)
    same = size ∙ known-extents s t g ∙ sym (length-histogram t)

-- what stands is known
pub stands-known : (s : FullSession) (t : List ℕ) → Stands s t → Known s t
stands-known s t g = record {
  kept = kept;
  counted = g.counted;
  first-known = g.first-known;
  stacked = g.stacked;
  hist-at = λ i. at_place i (dec_lt i (extents s));
}
  where
    kept : Kept s
    kept = (true-sound s g.wide g.is-sound).kept

    many : extents s ≡ length (firsts t)
    many = sym (length-first s kept) ∙ ap length g.first-known

    at_place : (i : ℕ) → Dec (i < extents s) → get_or s.hist i 0 ≡ count_at (reuses [] t) (suc i)
    at_place i (yes l) =
        sym (get_or-take (extents s) s.hist i 0 l)
        ∙ ap (λ (w : List ℕ). get_or w i 0) g.hist-known
        ∙ unfold count_for in histogram-at t (suc i)
    at_place i (no l) =
        unfold extents in free-at s.hist (extents s) i kept.rows.hist-rest (omega arith)
        ∙ sym (count-range t (suc i) (λ p q. omega (arith, many)))

-- a new session stands for the empty trace
pub fresh-stands : Stands fresh []
unfolding first_row stack_of firsts stack count_at reuses extents sum marks marked count
fresh-stands = known-stands fresh [] (record {
  kept = fresh_kept;
  counted = refl;
  first-known = refl;
  stacked = refl;
  hist-at = λ i. get_or-blank-row max_extents i;
}) (omega arith)

-- room for one more keeps what is known
pub known-roomed : (s : FullSession) (t : List ℕ) → Known s t → Known (roomed s) t
known-roomed s t g =
    let m = kept-roomed s g.kept in
    record {
      kept = m.kept;
      counted = m.reads ∙ g.counted;
      first-known = unfold first_row in rw (m.counted, m.first) g.first-known;
      stacked = m.stacked ∙ g.stacked;
      hist-at = λ i. rw m.hist (g.hist-at i);
    }

module _ (s : FullSession) (t : List ℕ) (g : Known s t) (x : ℕ) (room : s.next < slot_count) where
  -- x is in the stack where it is in the trace
  stack-trace : mem x (stack_of s) ≡ mem x t
  stack-trace = ap (mem x) g.stacked ∙ mem-stack x t

  -- x for the first time
  known-entered : mem x t ≡ false → extents s < max_extents → Known (entered s x) (t ++ (x ∷ []))
  known-entered new few = record {
    kept = kept-entered s g.kept x room (stack-trace ∙ new) few;
    counted = simp length-append (unfold entered in omega (arith, g.counted));
    first-known = entered-row s g.kept x room few ∙ ap (λ (l : List ℕ). l ++ (x ∷ [])) g.first-known ∙ sym (firsts-new x t new);
    stacked = entered-stack s g.kept x room (stack-trace ∙ new) ∙ ap (λ (l : List ℕ). touch l x) g.stacked ∙ sym (stack_snoc t x);
    hist-at = λ i. rw (count-more t x (suc i), depth-absent x (stack t) (mem-stack x t ∙ new)) (unfold entered count_at count in omega (arith, g.hist-at i));
  }

  -- x again, n extents above it
  known-moved : (n : ℕ) → mem x t ≡ true → depth (stack t) x ≡ at (suc n) → n < extents s → Known (moved s x (suc n)) (t ++ (x ∷ []))
  known-moved n old deep inside = record {
    kept = kept-moved s g.kept x room (stack-trace ∙ old) n inside;
    counted = simp length-append (unfold moved in omega (arith, g.counted));
    first-known = moved-first s g.kept x room (stack-trace ∙ old) n ∙ g.first-known ∙ sym (firsts-known x t old);
    stacked = moved-stack s g.kept x room (stack-trace ∙ old) n ∙ ap (λ (l : List ℕ). touch l x) g.stacked ∙ sym (stack_snoc t x);
    hist-at = λ i. rw (count-more t x (suc i), deep) (unfold moved count_at count in rw back (at_place i (ℕ_discrete i n)));
  }
    where
      back : suc n - 1 ≡ n
      back = omega arith

      at_place : (i : ℕ) → Dec (i ≡ n) → get_or (set s.hist n (suc (get_or s.hist n 0))) i 0 ≡ count_at (reuses [] t) (suc i) + cond (eqb (suc i) (suc n)) 1 0
      at_place i (yes e) =
          rw (eq-eqb (suc i) (suc n) (ap suc e), e)
          (get_or-set_same s.hist n (suc (get_or s.hist n 0)) 0 (omega (arith, kept-few s g.kept, g.kept.rows.hist-wide))
          ∙ omega (arith, g.hist-at n))
      at_place i (no e) =
          rw (ne_eqb (suc i) (suc n) (λ q. e (omega arith)))
          (get_or-set_other s.hist n i (suc (get_or s.hist n 0)) 0 e ∙ omega (arith, g.hist-at i))

  -- an accepted read takes t one read on
  pub known-taken : (mem x t ≡ false → extents s < max_extents) → Known (taken s x).session (t ++ (x ∷ []))
  unfolding taken
  known-taken few =
      rw g.stacked
      (by-test (mem x t)
      (λ m. let here = depth-present x (stack t) (mem-stack x t ∙ m) in
      rw here
      (known-moved (length (before x (stack t))) m here
      (omega (arith, length_before x (stack t) (mem-stack x t ∙ m), length-stack s g.kept, ap length g.stacked))))
      (λ m. rw (depth-absent x (stack t) (mem-stack x t ∙ m)) (known-entered m (few m))))
