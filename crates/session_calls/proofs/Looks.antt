-- The slots that a read looks at: of every sound session, and of one that has read a trace.
use Prim.Native.Nat.{ℕ, zero, suc, ◌-◌, ◌≤◌, ◌<◌}
use mathlib.Core.Path.{◌≡◌, refl, sym, ap, subst, ◌∙◌}
use mathlib.Core.Logic.{◌↔◌}
use mathlib.Core.List.{List, [], ◌∷◌, ◌++◌}
use mathlib.Core.Bool.{true, false, or-true}
use native.Mathlib.Omega.{arith}
use native.Mathlib.Decide.{ℕ_discrete}
use lib.Dec.{eqb}
use lib.ListN.{length, drop, get_or, set, replicate, length-set}
use lib.Seq.{get_or-set_same}
use borrow.Author.Tests.{ne_eqb}
use Rattle.reuse.specs.Lists.{mem, remove, before, sum}
use Rattle.reuse.specs.Lru.{at, depth, touch, stack}
use Rattle.reuse.specs.Limits.{max_reads, slot_count}
use Rattle.session_calls.specs.Sessions.{FullSession, marks, extents, stack_of}
use Rattle.session_calls.specs.Reads.{FullStep, gathered, roomed, slot_of, looked_at, moved, entered, taken, read_of, slots_looked}
use Rattle.session_calls.specs.Looks.{Look, Looks}
use Rattle.reuse.proofs.Lists.{by-test, eqb_same, mem-head, mem-append}
use Rattle.reuse.proofs.Stack.{stack_snoc}
use Rattle.reuse.proofs.Depth.{depth-present, depth-absent}
use Rattle.reuse.proofs.Sums.{free-at, at-le-sum}
use Rattle.session_marks.proofs.Marks.{slot-found, slot-marked}
use Rattle.session_calls.proofs.Sound.{Kept, true-sound}
use Rattle.session_calls.proofs.Taken.{Roomed, kept-roomed, gathered-marks, entered-marks, moved_marks, stack-mem, slot-below, slot-depth}
use Rattle.session_calls.proofs.Looked.{looked-old, count-old, looked-absent, count-absent}
use Rattle.session_calls.proofs.Stands.{Stands, stands-known}
use Rattle.session_calls.proofs.Read.{over, read-accepted, read-stands}

-- how many slots a step tells were looked at
abbrev slots_told : FullStep → ℕ
slots_told r = slots_looked r.answer

-- depths are one number
one-depth : {a b : ℕ} → at (suc a) ≡ at (suc b) → a ≡ b
one-depth e = cc

module _ (s : FullSession) (k : Kept s) (x : ℕ) where
  -- an accepted read by a session with room tells how many slots its search looks at
  taken-told : slots_told (taken s x) ≡ length (looked_at s x)
  unfolding taken
  taken-told =
      by-test (mem x (stack_of s))
      (λ m. rw (depth-present x (stack_of s) m) (sym (count-old s k x m)))
      (λ m. rw (depth-absent x (stack_of s) m) (sym (count-absent s k x m)))

  -- no more than next
  looked-most : length (looked_at s x) ≤ s.next
  looked-most = by-test (mem x (stack_of s)) (λ m. omega (arith, count-old s k x m)) (λ m. omega (arith, count-absent s k x m))

-- the slot of a known extent, and no other, is marked and holds it
only-mark : (s : FullSession) → Kept s → (x : ℕ) → mem x (stack_of s) ≡ true → (i : ℕ) → ((get_or (marks s) i 0 ≡ 1) × (get_or s.slots i 0 ≡ x)) ↔ (i ≡ slot_of s x)
unfolding slot_of
only-mark s k x old i =
    let r = k.rows.row in
    (λ p. sym (slot-found r i x k.rows.apart p.0 p.1), λ e. rw e (slot-marked r x (sym (stack-mem s k x) ∙ old)))

-- what an accepted read looks at
accepted-look : (s : FullSession) → Kept s → (x : ℕ) → read_of s x ≡ taken (roomed s) x → Look s x
accepted-look s k x is =
    let m : Roomed s (roomed s) = kept-roomed s k in
    let told : slots_told (read_of s x) ≡ length (looked_at (roomed s) x) = ap slots_told is ∙ taken-told (roomed s) m.kept x in
    record {
      tells = told;
      known = λ old. looked-old (roomed s) m.kept x (ap (mem x) m.stacked ∙ old);
      one-mark = λ old i. only-mark (roomed s) m.kept x (ap (mem x) m.stacked ∙ old) i;
      new = λ absent. looked-absent (roomed s) m.kept x (ap (mem x) m.stacked ∙ absent);
      most = omega (arith, told, looked-most (roomed s) m.kept x);
      room = m.room;
    }

-- of every sound session
pub looks : Looks
looks s w ok x short few =
    accepted-look s (true-sound s w ok).kept x (unfold read_of in rw (ok, ne_eqb s.reads max_reads (λ e. omega arith), few))

-- the newest slot, the one below next, is marked
abbrev NewestMarked : FullSession → Type 0
NewestMarked s = get_or (marks s) (s.next - 1) 0 ≡ 1

-- then it is the slot of the extent on top of the stack, and a search for that looks at one slot
newest-one : (s : FullSession) → Kept s → (x : ℕ) (rest : List ℕ) → NewestMarked s → stack_of s ≡ x ∷ rest → length (looked_at s x) ≡ 1
newest-one s k x rest newest top = count-old s k x old ∙ by (ℕ_discrete s.next (suc (slot_of s x)))
  where
    -- x is in the stack
    old : mem x (stack_of s) ≡ true
    old = rw top (mem-head x rest)

    -- on top of it, so no mark is behind its slot
    behind : sum (drop (suc (slot_of s x)) (marks s)) ≡ 0
    behind = one-depth (sym (slot-depth s k x old) ∙ rw top (unfold depth in simp (eqb_same x)))

    by : Dec (s.next ≡ suc (slot_of s x)) → s.next - slot_of s x ≡ 1
    by (yes e) = omega arith
    by (no n) = absurd (omega (arith, newest, free-at (marks s) (suc (slot_of s x)) (s.next - 1) behind (omega (arith, slot-below s k x old))))

-- a read leaves its mark in the newest slot
taken-newest : (s : FullSession) → Kept s → (x : ℕ) → s.next < slot_count → NewestMarked (taken s x).session
unfolding taken
taken-newest s k x room =
    by-test (mem x (stack_of s))
    (λ m. rw (depth-present x (stack_of s) m)
    (newest-at (moved s x (suc (length (before x (stack_of s))))) (set (marks s) (slot_of s x) 0) s.next (moved_marks s k x room m (length (before x (stack_of s)))) (unfold moved in refl)
    (omega (arith, length-set (marks s) (slot_of s x) 0, k.rows.wide))))
    (λ m. rw (depth-absent x (stack_of s) m)
    (newest-at (entered s x) (marks s) s.next (entered-marks s k x room) (unfold entered in refl) (omega (arith, k.rows.wide))))
  where
    -- the mark set at next, and next one on
    newest-at : (r : FullSession) (ms : List ℕ) (n : ℕ) → marks r ≡ set ms n 1 → r.next ≡ suc n → n < length ms → NewestMarked r
    newest-at r ms n put on l =
        let back : suc n - 1 ≡ n = omega arith in
        rw (put, on, back) (get_or-set_same ms n 1 0 l)

-- marks in the first slots
ones : (v m i : ℕ) → i < v → get_or (replicate {A = ℕ} v 1 ++ replicate m 0) i 0 ≡ 1
ones zero m i l = absurd (omega arith)
ones (suc v) m zero l = refl
ones (suc v) m (suc i) l = ones v m i (omega arith)

-- a move of the marks leaves one in the newest slot
roomed-newest : (s : FullSession) → Kept s → NewestMarked s → NewestMarked (roomed s)
unfolding roomed
roomed-newest s k newest =
    by-test (eqb s.next slot_count)
    (λ e. simp e
    (rw (gathered-marks s k)
    (unfold gathered extents in ones (sum (marks s)) (slot_count - sum (marks s)) (sum (marks s) - 1) (omega (arith, newest, at-le-sum (marks s) (s.next - 1))))))
    (λ e. simp e newest)

module _ (s : FullSession) (t : List ℕ) (g : Stands s t) (x : ℕ) (short : eqb (length t) max_reads ≡ false) (few : over t x ≡ false) where
  -- what a read looks at after a trace
  pub trace-look : Look s x
  trace-look = accepted-look s (stands-known s t g).kept x (read-accepted s t g x short few)

  -- the session after the read, and what it has read
  abbrev once : FullSession
  once = (read_of s x).session

  abbrev longer : List ℕ
  longer = t ++ (x ∷ [])

  -- the read leaves its mark in the newest slot
  read-newest : NewestMarked once
  read-newest =
      let m : Roomed s (roomed s) = kept-roomed s (stands-known s t g).kept in
      subst (λ (r : FullStep). NewestMarked r.session) (sym (read-accepted s t g x short few)) (taken-newest (roomed s) m.kept x m.room)

  -- so one more of the same extent looks at one slot
  pub read_again : eqb (length (t ++ (x ∷ []))) max_reads ≡ false → slots_looked (read_of (read_of s x).session x).answer ≡ 1
  read_again more =
      let h : Stands once longer = read-stands s t g x short few in
      let k : Kept once = (stands-known once longer h).kept in
      let m : Roomed once (roomed once) = kept-roomed once k in
      let old : mem x longer ≡ true = mem-append x t (x ∷ []) ∙ rw (mem-head x []) (or-true (mem x t)) in
      let top : stack_of once ≡ x ∷ remove x (stack t) = h.stacked ∙ stack_snoc t x ∙ unfold touch in refl in
      ap slots_told (read-accepted once longer h x more (rw old))
      ∙ taken-told (roomed once) m.kept x
      ∙ newest-one (roomed once) m.kept x (remove x (stack t)) (roomed-newest once k read-newest) (m.stacked ∙ top)
