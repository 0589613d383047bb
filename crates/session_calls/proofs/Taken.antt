-- What gathering and an accepted read make of a session with sound rows, whether or not a trace gave it.
use Prim.Native.Nat.{ℕ, suc, ◌-◌, ◌<◌}
use mathlib.Core.Path.{◌≡◌, refl, sym, ap, subst, ◌∙◌}
use mathlib.Core.List.{List, [], ◌∷◌, ◌++◌, reverse, reverse-append}
use mathlib.Core.Bool.{true, false}
use native.Mathlib.Omega.{arith}
use lib.Dec.{eqb}
use lib.ListN.{length, drop, set, replicate, length-append, length-replicate, length-set}
use borrow.Author.Tests.{eq-eqb, ne_eqb, eqb-true, eqb-false}
use Rattle.reuse.specs.Lists.{mem, remove, before, sum}
use Rattle.reuse.specs.Lru.{at, depth, touch}
use Rattle.reuse.specs.Limits.{max_extents, slot_count}
use Rattle.session_calls.specs.Sessions.{FullSession, marks, extents, stack_of, first_row}
use Rattle.session_marks.specs.Marks.{marked}
use Rattle.session_calls.specs.Reads.{gathered, roomed, slot_of, moved, entered, taken}
use Rattle.reuse.proofs.Lists.{by-test, mem-reverse, remove_absent, remove-reverse}
use Rattle.reuse.proofs.Depth.{depth-present, depth-absent, length_before}
use Rattle.session_marks.proofs.Marks.{out_below, depth-slot}
use Rattle.session_marks.proofs.Rows.{gathered-marked, rows-gathered, entered-marked, entered-count, entered-first, rows-entered, moved-marked, moved-count, rows-moved}
use Rattle.session_calls.proofs.Sound.{Kept, marks-of, kept_of, length-stack}

-- one more at the end of a list turned round comes first
reverse_snoc : (l : List ℕ) (x : ℕ) → reverse (l ++ (x ∷ [])) ≡ x ∷ reverse l
reverse_snoc l x = reverse-append l (x ∷ [])

-- gathering
module _ (s : FullSession) (k : Kept s) where
  -- the marks of a gathered session
  pub gathered-marks : marks (gathered s) ≡ replicate (extents s) 1 ++ replicate (slot_count - extents s) 0
  unfolding gathered extents
  gathered-marks =
      marks-of (gathered s) (replicate (extents s) 1 ++ replicate (slot_count - extents s) 0) refl
      (simp (length-append, length-replicate) (omega (arith, k.rows.few)))

  -- gathering keeps the rows sound
  pub kept-gathered : Kept (gathered s)
  unfolding gathered extents
  kept-gathered =
      kept_of (gathered s) (replicate (extents s) 1 ++ replicate (slot_count - extents s) 0) refl
      (rows-gathered slot_count max_extents (marks s) s.slots s.first s.hist s.next s.reads k.rows (omega (arith, k.rows.few)))

  -- it keeps the stack
  pub gathered-stack : stack_of (gathered s) ≡ stack_of s
  unfolding stack_of
  gathered-stack =
      rw gathered-marks
      (unfold gathered extents in ap reverse (gathered-marked slot_count max_extents (marks s) s.slots s.first s.hist s.next s.reads k.rows))

  -- it keeps the number of extents
  pub gathered-extents : extents (gathered s) ≡ extents s
  gathered-extents = sym (length-stack (gathered s) kept-gathered) ∙ ap length gathered-stack ∙ length-stack s k

-- σ is s with room for one more
pub record Roomed (s σ : FullSession) : Type 0 where
  pub is : σ ≡ roomed s
  pub kept : Kept σ
  pub room : σ.next < slot_count
  pub stacked : stack_of σ ≡ stack_of s
  pub counted : extents σ ≡ extents s
  pub reads : σ.reads ≡ s.reads
  pub first : σ.first ≡ s.first
  pub hist : σ.hist ≡ s.hist

module _ (s : FullSession) (k : Kept s) where
  -- room that was made
  pub room-made : s.next ≡ slot_count → Roomed s (gathered s)
  room-made e = record {
    is = unfold roomed in sym (simp (eq-eqb s.next slot_count e));
    kept = kept-gathered s k;
    room = unfold gathered extents in omega (arith, k.rows.few);
    stacked = gathered-stack s k;
    counted = gathered-extents s k;
    reads = unfold gathered in refl;
    first = unfold gathered in refl;
    hist = unfold gathered in refl;
  }

  -- room that was there
  pub room-there : (s.next ≡ slot_count → ⊥) → Roomed s s
  room-there n = record {
    is = unfold roomed in sym (simp (ne_eqb s.next slot_count n));
    kept = k;
    room = omega (arith, k.rows.low, n);
    stacked = refl;
    counted = refl;
    reads = refl;
    first = refl;
    hist = refl;
  }

  -- either way
  pub kept-roomed : Roomed s (roomed s)
  kept-roomed =
      by-test (eqb s.next slot_count)
      (λ e. let m : Roomed s (gathered s) = room-made (eqb-true s.next slot_count e) in subst (λ (σ : FullSession). Roomed s σ) m.is m)
      (λ e. let m : Roomed s s = room-there (eqb-false s.next slot_count e) in subst (λ (σ : FullSession). Roomed s σ) m.is m)

-- the slot of an extent
module _ (s : FullSession) (k : Kept s) (x : ℕ) where
  -- x is in the stack where it is in a marked slot
  pub stack-mem : mem x (stack_of s) ≡ mem x (marked (marks s) s.slots)
  unfolding stack_of
  stack-mem = mem-reverse x (marked (marks s) s.slots)

  -- the slot of an extent in the stack stands below next
  pub slot-below : mem x (stack_of s) ≡ true → slot_of s x < s.next
  unfolding slot_of
  slot-below old = out_below k.rows.row x s.next (sym stack-mem ∙ old) k.rows.free

  -- its distance is 1 plus the marks behind its slot
  pub slot-depth : mem x (stack_of s) ≡ true → depth (stack_of s) x ≡ at (suc (sum (drop (suc (slot_of s x)) (marks s))))
  unfolding stack_of slot_of
  slot-depth old = depth-slot k.rows.row x k.rows.apart (sym stack-mem ∙ old)

-- a read by a session with room
module _ (s : FullSession) (k : Kept s) (x : ℕ) (room : s.next < slot_count) where
  -- the marks after a first read
  pub entered-marks : marks (entered s x) ≡ set (marks s) s.next 1
  unfolding entered
  entered-marks = marks-of (entered s x) (set (marks s) s.next 1) refl (length-set (marks s) s.next 1 ∙ k.rows.wide)

  -- the number of extents after a first read
  pub entered-extents : extents (entered s x) ≡ suc (extents s)
  unfolding extents
  entered-extents = ap sum entered-marks ∙ entered-count slot_count max_extents (marks s) s.slots s.first s.hist s.next s.reads k.rows x room

  -- F after a first read
  pub entered-row : extents s < max_extents → first_row (entered s x) ≡ first_row s ++ (x ∷ [])
  unfolding first_row
  entered-row few =
      rw entered-extents
      (unfold entered extents in entered-first slot_count max_extents (marks s) s.slots s.first s.hist s.next s.reads k.rows x room few)

  -- a first read keeps the rows sound
  pub kept-entered : mem x (stack_of s) ≡ false → extents s < max_extents → Kept (entered s x)
  unfolding entered extents
  kept-entered new few =
      kept_of (entered s x) (set (marks s) s.next 1) refl
      (rows-entered slot_count max_extents (marks s) s.slots s.first s.hist s.next s.reads k.rows x room (sym (stack-mem s k x) ∙ new) few)

  -- it brings x to the top of the stack
  pub entered-stack : mem x (stack_of s) ≡ false → stack_of (entered s x) ≡ touch (stack_of s) x
  unfolding touch
  entered-stack new =
      rw (remove_absent x (stack_of s) new)
      (unfold stack_of in
      rw entered-marks
      (unfold entered in
      ap reverse (entered-marked slot_count max_extents (marks s) s.slots s.first s.hist s.next s.reads k.rows x room)
      ∙ reverse_snoc (marked (marks s) s.slots) x))

  module _ (old : mem x (stack_of s) ≡ true) (n : ℕ) where
    -- the marks after a read of a known extent
    pub moved_marks : marks (moved s x (suc n)) ≡ set (set (marks s) (slot_of s x) 0) s.next 1
    unfolding moved
    moved_marks =
        marks-of (moved s x (suc n)) (set (set (marks s) (slot_of s x) 0) s.next 1) refl
        (length-set (set (marks s) (slot_of s x) 0) s.next 1 ∙ length-set (marks s) (slot_of s x) 0 ∙ k.rows.wide)

    -- as many extents as before
    pub moved-extents : extents (moved s x (suc n)) ≡ extents s
    unfolding extents
    moved-extents =
        ap sum moved_marks
        ∙ unfold slot_of in moved-count slot_count max_extents (marks s) s.slots s.first s.hist s.next s.reads k.rows x room (sym (stack-mem s k x) ∙ old)

    -- it keeps the rows sound
    pub kept-moved : n < extents s → Kept (moved s x (suc n))
    unfolding moved extents slot_of
    kept-moved inside =
        let back : suc n - 1 ≡ n = omega arith in
        kept_of (moved s x (suc n)) (set (set (marks s) (slot_of s x) 0) s.next 1) refl
        (rw back (rows-moved slot_count max_extents (marks s) s.slots s.first s.hist s.next s.reads k.rows x room (sym (stack-mem s k x) ∙ old) n inside))

    -- it brings x to the top of the stack
    pub moved-stack : stack_of (moved s x (suc n)) ≡ touch (stack_of s) x
    unfolding touch stack_of
    moved-stack =
        rw moved_marks
        (unfold moved slot_of in
        ap reverse (moved-marked slot_count max_extents (marks s) s.slots s.first s.hist s.next s.reads k.rows x room (sym (stack-mem s k x) ∙ old))
        ∙ reverse_snoc (remove x (marked (marks s) s.slots)) x
        ∙ ap {B = List ℕ} (λ l. x ∷ l) (sym (remove-reverse x (marked (marks s) s.slots))))

    -- F stays
    pub moved-first : first_row (moved s x (suc n)) ≡ first_row s
    unfolding first_row
    moved-first = rw moved-extents (unfold moved in refl)

  -- an accepted read keeps the rows sound
  pub kept-taken : (mem x (stack_of s) ≡ false → extents s < max_extents) → Kept (taken s x).session
  unfolding taken
  kept-taken few =
      by-test (mem x (stack_of s))
      (λ m. rw (depth-present x (stack_of s) m) (kept-moved m (length (before x (stack_of s))) (omega (arith, length_before x (stack_of s) m, length-stack s k))))
      (λ m. rw (depth-absent x (stack_of s) m) (kept-entered m (few m)))

  -- it is counted
  pub taken-reads : (taken s x).session.reads ≡ suc s.reads
  unfolding taken
  taken-reads =
      by-test (mem x (stack_of s))
      (λ m. rw (depth-present x (stack_of s) m) (unfold moved in refl))
      (λ m. rw (depth-absent x (stack_of s) m) (unfold entered in refl))
