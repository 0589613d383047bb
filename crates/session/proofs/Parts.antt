-- The parts of a read: what each makes of the count and the right-hand sums is what the old session's marks give after it.
use Rattle.std.specs.Prelude.{Result, Ok}
use Rattle.reuse.specs.declared.refusals.Refusal.{Refusal}
use Prim.Native.Nat.{ℕ, suc, ◌+◌, ◌-◌, ◌^◌, ◌≤◌, ◌<◌}
use mathlib.Core.Path.{◌≡◌, refl, sym, ap, ◌∙◌}
use mathlib.Core.List.{List, ◌++◌, map}
use native.Mathlib.Omega.{arith}
use native.Mathlib.Numerals.{add-one}
use lib.ListN.{length, drop, get_or, set, replicate, length-append, length-replicate, length-set}
use lib.Seq.{get_or-set_other}
use Rattle.reuse.specs.Lists.{sum}
use Rattle.reuse.specs.Lru.{cold, at}
use Rattle.reuse.specs.Limits.{slot_count, right_count, levels}
use Rattle.session_sums.specs.Sums.{sums_of, filled, zeros, first_marks}
use Rattle.session_rights.specs.Rights.{rights_of, marks_from}
use Rattle.session_rights.specs.Ways.{from_left}
use Rattle.session_points.specs.declared.Walked.{Walked}
use Rattle.session_points.specs.Points.{walked_up, changed_by, Worked, worked_out}
use Rattle.session_marks.specs.Marks.{marked, gathered_row}
use Rattle.session_calls.specs.declared.Answer.{Answer}
use Rattle.session_calls.specs.declared.Answer.TheVariants.{Cold, Distance}
use Rattle.session_calls.specs.Sessions as full
use Rattle.session_calls.specs.Sessions.{FullSession}
use Rattle.session_calls.specs.Reads as full-reads
use Rattle.session_calls.specs.Reads.{step_at}
use Rattle.session.specs.declared.Session.{Session}
use Rattle.session.specs.declared.Step.{Step}
use Rattle.session.specs.Sessions.{old_of}
use Rattle.session.specs.Reads.{new_step, gathered, slot_of}
use Rattle.session.specs.Steps.{Summed, Movable, Enterable, Gatherable}
use Rattle.session_sums.proofs.Filled.{sum-filled, sum_ones, filled-ones, first_marks_lem}
use Rattle.session_rights.proofs.Rights.{rights-length, marks-back}
use Rattle.session_rights.proofs.Changes.{sum-swap}
use Rattle.session_rights.proofs.Trees.{left-count, rights-behind}
use Rattle.session_points.proofs.Ups.{slot-some, walked-some}
use Rattle.session_points.proofs.Changing.{mark_set, mark-cleared}
use Rattle.session_points.proofs.Downs.{worked-some}
use Rattle.session_marks.proofs.Marks.{row_count, tidy-row}
use Rattle.session_marks.proofs.Passes.{gathered-pair}
use Rattle.session_marks.proofs.Search.{pair_of}
use Rattle.session_calls.proofs.Sound.{marks-of}

-- a session with equal fields
same-session : {reads reads' : ℕ} {first first' hist hist' slots slots' : List ℕ} {count count' : ℕ} {rights rights' : List ℕ} {next next' : ℕ}
    → reads ≡ reads' → first ≡ first' → hist ≡ hist' → slots ≡ slots' → count ≡ count' → rights ≡ rights' → next ≡ next'
    → ◌≡◌ {A = Session}
    (record { reads = reads; first = first; hist = hist; slots = slots; count = count; rights = rights; next = next })
    (record { reads = reads'; first = first'; hist = hist'; slots = slots'; count = count'; rights = rights'; next = next' })
same-session reads first hist slots count rights next = cc

-- a step with equal fields
same_step : {a a' : Result Answer Refusal} {reads reads' : ℕ} {first first' hist hist' slots slots' : List ℕ} {count count' : ℕ} {rights rights' : List ℕ} {next next' : ℕ}
    → a ≡ a' → reads ≡ reads' → first ≡ first' → hist ≡ hist' → slots ≡ slots' → count ≡ count' → rights ≡ rights' → next ≡ next'
    → ◌≡◌ {A = Step}
    (record { answer = a; session = record { reads = reads; first = first; hist = hist; slots = slots; count = count; rights = rights; next = next } })
    (record { answer = a'; session = record { reads = reads'; first = first'; hist = hist'; slots = slots'; count = count'; rights = rights'; next = next' } })
same_step a reads first hist slots count rights next = cc

-- answers with equal numbers
same-cold : {n n' k k' : ℕ} → n ≡ n' → k ≡ k' → ◌≡◌ {A = Result Answer Refusal} (Ok (Cold n k)) (Ok (Cold n' k'))
same-cold n k = cc

pub same-distance : {d d' n n' k k' : ℕ} → d ≡ d' → n ≡ n' → k ≡ k' → ◌≡◌ {A = Result Answer Refusal} (Ok (Distance d n k)) (Ok (Distance d' n' k'))
same-distance d n k = cc

-- ways up that read the same
same-walk : {t t' n n' : ℕ} → t ≡ t' → n ≡ n' → ◌≡◌ {A = Walked} (record { total = t; count = n }) (record { total = t'; count = n' })
same-walk t n = cc

-- the new session of one whose sums were made over these marks
module _ (o : FullSession) (ms : List ℕ) (e : o.sums ≡ sums_of levels ms) (w : length ms ≡ slot_count) where
  -- has their count
  made-count : full.extents o ≡ sum ms
  unfolding full.extents
  made-count = ap sum (marks-of o ms e w)

  -- and their right-hand sums
  made-rights : rights_of levels (full.marks o) ≡ rights_of levels ms
  made-rights = ap (rights_of levels) (marks-of o ms e w)

module _ (s : Session) (p : Summed s) where
  -- the old session's marks
  abbrev ms : List ℕ
  ms = full.marks (old_of s)

  -- the count is their number
  pub count-is : s.count ≡ full.extents (old_of s)
  count-is = ap (λ (r : Session). r.count) (sym p.new)

  -- the right-hand sums are theirs
  rights-is : s.rights ≡ rights_of levels ms
  rights-is = ap (λ (r : Session). r.rights) (sym p.new)

  -- there are no more than slots
  few : sum ms ≤ slot_count
  few = unfold full.extents in omega (arith, p.few)

  -- as many right-hand sums as branching points
  rights-wide : length s.rights ≡ right_count
  rights-wide = ap length rights-is ∙ omega (arith, rights-length levels ms p.wide)

  -- the way up from slot k reads the marks behind it, and as many sums as its number has zeros
  pub walked : (k : ℕ) → k < slot_count → walked_up s.rights k ≡ record { total = sum (drop (suc k) (full.marks (old_of s))); count = zeros levels k }
  walked k h =
      walked-some s.rights k (slot-some s.rights k rights-wide h)
      ∙ same-walk (ap (λ (l : List ℕ). sum (map (λ p. get_or l p 0) (from_left levels 0 k))) rights-is ∙ rights-behind levels k h ms p.wide few) (left-count levels k h)

  -- the marks worked out are the old session's
  pub worked : (row : List ℕ) → length row ≡ slot_count → (worked_out s.count s.rights row).marks ≡ full.marks (old_of s)
  worked row v =
      ap (λ (w : Worked). w.marks) (worked-some s.count s.rights row rights-wide v)
      ∙ ap (λ (n : ℕ). marks_from levels n s.rights) count-is
      ∙ ap (marks_from levels (full.extents (old_of s))) rights-is
      ∙ unfold full.extents in marks-back levels ms p.wide

-- a first read: the sums and the count with a mark at next
module _ (s : Session) (looked : ℕ) (p : Enterable s looked) where
  -- the marks with one more
  abbrev more : List ℕ
  more = set (full.marks (old_of s)) s.next 1

  -- as many as the slots
  more-wide : length more ≡ slot_count
  more-wide = length-set (full.marks (old_of s)) s.next 1 ∙ p.summed.wide

  -- one more in the count
  more-count : sum more ≡ s.count + 1
  more-count =
      unfold full.extents in
      omega (arith, sum-swap (full.marks (old_of s)) s.next 1 (omega (arith, p.summed.wide, p.room)), p.free, count-is s p.summed)

  pub entered-step : (x : ℕ) (rights : List ℕ) → rights ≡ changed_by 1 s.rights s.next
      → ◌≡◌ {A = Step}
      (record {
        session = record {
          reads = s.reads + 1;
          first = set s.first s.count x;
          hist = s.hist;
          slots = set s.slots s.next x;
          count = s.count + 1;
          rights = rights;
          next = s.next + 1;
        };
        answer = Ok (Cold (s.count + 1) looked);
      })
      (new_step (step_at (old_of s) x (cold (suc (full.extents (old_of s))))))
  unfolding full-reads.entered
  entered-step x rights put =
      let q = p.summed in
      let up : rights ≡ rights_of levels more = put ∙ ap (λ (l : List ℕ). changed_by 1 l s.next) (rights-is s q) ∙ mark_set (full.marks (old_of s)) s.next q.wide p.room (few s q) p.free in
      let o = full-reads.entered (old_of s) x in
      let n = count-is s q in
      same_step
      (same-cold (omega arith) p.seen)
      (add-one s.reads)
      (ap (λ (v : ℕ). set s.first v x) n)
      refl
      refl
      (sym more-count ∙ sym (made-count o more refl more-wide))
      (up ∙ sym (made-rights o more refl more-wide))
      (add-one s.next)

-- a read of a known extent: its mark moves from slot k to next
module _ (s : Session) (x k looked : ℕ) (p : Movable s x k looked) where
  -- the marks without its old one
  abbrev less : List ℕ
  less = set (full.marks (old_of s)) k 0

  -- and with its new one
  abbrev moved : List ℕ
  moved = set less s.next 1

  -- as many as the slots
  less-wide : length less ≡ slot_count
  less-wide = length-set (full.marks (old_of s)) k 0 ∙ p.summed.wide

  moved-wide : length moved ≡ slot_count
  moved-wide = length-set less s.next 1 ∙ less-wide

  -- slot k is one of them
  inside : k < slot_count
  inside = omega (arith, p.below, p.room)

  -- one less, for a while
  less-count : sum less + 1 ≡ sum (full.marks (old_of s))
  less-count = omega (arith, sum-swap (full.marks (old_of s)) k 0 (omega (arith, p.summed.wide, inside)), p.held)

  -- next is free
  less-free : get_or less s.next 0 ≡ 0
  less-free = get_or-set_other (full.marks (old_of s)) k s.next 0 0 (λ e. omega (arith, p.below)) ∙ p.free

  -- the count stays
  moved-count : sum moved ≡ s.count
  moved-count =
      unfold full.extents in
      omega (arith, sum-swap less s.next 1 (omega (arith, less-wide, p.room)), less-free, less-count, count-is s p.summed)

  -- the sums of the old session after it are made over them
  same-tree : k ≡ slot_of s x → sums_of levels (set (set (full.marks (old_of s)) (slot_of s x) 0) s.next 1) ≡ sums_of levels moved
  same-tree e = ap (λ (v : ℕ). sums_of levels (set (set (full.marks (old_of s)) v 0) s.next 1)) (sym e)

  pub moved-step : (w : Walked) (rights : List ℕ) → w ≡ record { total = sum (drop (suc k) (full.marks (old_of s))); count = zeros levels k }
      → rights ≡ changed_by 1 (changed_by (2 ^ 32 - 1) s.rights k) s.next
      → ◌≡◌ {A = Step}
      (record {
        session = record {
          reads = s.reads + 1;
          first = s.first;
          hist = set s.hist w.total (get_or s.hist w.total 0 + 1);
          slots = set (set s.slots k 0) s.next x;
          count = s.count;
          rights = rights;
          next = s.next + 1;
        };
        answer = Ok (Distance (w.total + 1) w.count looked);
      })
      (new_step (step_at (old_of s) x (at (suc (sum (drop (suc k) (full.marks (old_of s))))))))
  unfolding full-reads.moved
  moved-step w rights read put =
      let q = p.summed in
      let n = sum (drop (suc k) (full.marks (old_of s))) in
      let back : suc n - 1 ≡ n = omega arith in
      let up : rights ≡ rights_of levels moved =
      put
      ∙ ap (λ (l : List ℕ). changed_by 1 (changed_by (2 ^ 32 - 1) l k) s.next) (rights-is s q)
      ∙ ap (λ (l : List ℕ). changed_by 1 l s.next) (mark-cleared (full.marks (old_of s)) k q.wide inside (few s q) p.held)
      ∙ mark_set less s.next less-wide p.room (omega (arith, less-count, few s q)) less-free in
      let o = full-reads.moved (old_of s) x (suc n) in
      let t : w.total ≡ n = ap (λ (v : Walked). v.total) read in
      let z : w.count ≡ zeros levels k = ap (λ (v : Walked). v.count) read in
      let at-k = p.here in
      same_step
      (same-distance (ap (λ (v : ℕ). v + 1) t ∙ add-one n) (z ∙ ap (zeros levels) at-k) (p.seen ∙ ap (λ (v : ℕ). s.next - v) at-k))
      (add-one s.reads)
      refl
      (ap (λ (v : ℕ). set s.hist v (get_or s.hist v 0 + 1)) (t ∙ sym back) ∙ ap (set s.hist (suc n - 1)) (add-one (get_or s.hist (suc n - 1) 0)))
      (ap (λ (v : ℕ). set (set s.slots v 0) s.next x) at-k)
      (sym moved-count ∙ sym (made-count o moved (same-tree at-k) moved-wide))
      (up ∙ sym (made-rights o moved (same-tree at-k) moved-wide))
      (add-one s.next)

-- the marks moved to the first slots
module _ (s : Session) (p : Gatherable s) where
  -- how many they are
  abbrev v : ℕ
  v = full.extents (old_of s)

  -- the marks after it
  abbrev front : List ℕ
  front = replicate v 1 ++ replicate (slot_count - v) 0

  -- as many as the slots
  front-wide : length front ≡ slot_count
  front-wide = simp (length-append, length-replicate) (omega (arith, p.summed.few))

  -- v of them
  front-count : sum front ≡ v
  front-count = ap sum (sym (filled-ones slot_count v)) ∙ sum-filled slot_count (replicate v 1) ∙ sum_ones v

  -- what is gathered are the marked slots
  gathered-slots : gathered_row s.slots (full.marks (old_of s)) ≡ marked (full.marks (old_of s)) s.slots ++ replicate (slot_count - v) 0
  unfolding filled full.extents
  gathered-slots =
      let q = p.summed in
      let n = row_count (tidy-row (full.marks (old_of s)) s.slots (p.slots-wide ∙ sym q.wide) p.neat) in
      gathered-pair s.slots (full.marks (old_of s)) (pair_of s.slots (full.marks (old_of s)) p.slots-wide q.wide)
      ∙ ap (λ (k : ℕ). marked (full.marks (old_of s)) s.slots ++ replicate (slot_count - k) 0) n

  pub gathered-new : (slots rights : List ℕ) → slots ≡ gathered_row s.slots (full.marks (old_of s)) → rights ≡ rights_of levels (first_marks s.count)
      → ◌≡◌ {A = Session}
      (record { reads = s.reads; first = s.first; hist = s.hist; slots = slots; count = s.count; rights = rights; next = s.count })
      (gathered s)
  unfolding gathered full-reads.gathered
  gathered-new slots rights put made =
      let q = p.summed in
      let o = full-reads.gathered (old_of s) in
      let up : rights ≡ rights_of levels front = made ∙ ap (λ (n : ℕ). rights_of levels (first_marks n)) (count-is s q) ∙ ap (rights_of levels) (first_marks_lem v (omega (arith, q.few))) in
      same-session refl refl refl
      (put ∙ gathered-slots)
      (count-is s q ∙ sym front-count ∙ sym (made-count o front refl front-wide))
      (up ∙ sym (made-rights o front refl front-wide))
      (count-is s q)
