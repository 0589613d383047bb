-- A trace taken from an empty stack through the engine: its first reads listed, its distances counted, and the words of its summary.
use mathlib.Core.Path.{◌≡◌, refl, sym, ap, ◌∙◌}
use Prim.Native.Nat.{ℕ, suc, ◌+◌, ◌-◌, ◌≤◌, ◌<◌, min}
use native.Mathlib.Omega.{arith}
use native.Mathlib.Numerals.{add-one}
use mathlib.Core.List.{List, [], ◌∷◌, ◌++◌, map, reverse}
use lib.ListN.{length, take, get_or, set, length-set}
use lib.Seq.{take-suc, take_all, take-suc-set}
use Rattle.reuse_engine.specs.declared.Place.{Place}
use Rattle.reuse_engine.specs.declared.Place.TheVariants.{Cold, Depth, Full}
use Rattle.reuse.specs.Limits.{max_reads, max_extents}
use Rattle.reuse.specs.Lists.{mem, firsts, cleanup, distinct, from}
use Rattle.reuse.specs.Lru.{at, depth, stack as lru_stack, reuses, count_at}
use Rattle.reuse_engine.specs.Engine.{place_of, left_by}
use Rattle.reuse.specs.Summary.{words, histogram, summary_of}
use Rattle.reuse.proofs.Lists.{by-test, firsts-known, firsts-new}
use Rattle.reuse.proofs.Stack.{stack-law, mem-stack}
use Rattle.reuse.proofs.Depth.{depth-absent}
use Rattle.reuse.proofs.Counts.{take-from}
use Rattle.reuse_engine.proofs.Engine.{place-depth, place-new, place-room}
use Rattle.reuse_engine.proofs.Runs.{held_fits}
use Rattle.reuse_engine.proofs.Traces.{held-count, full-count}
use Rattle.reuse_engine.specs.Counting.{Counted}
use Rattle.summary_calls.specs.Calls.{words_call, trace_call}
use Rattle.summary_calls.proofs.Calls.{trace-wrote}
use Rattle.reuse.proofs.Traces.{extents-within}
use borrow.Author.Tests.{le-leb}
use Rattle.summary_trace.specs.Tracing.{Blank, Taken}
use Rattle.reuse_engine.proofs.Crossing.{Crossing, cross-start, cross-cold, cross-known, cross-end}

-- the first i reads are taken, their distances counted and their extents listed
pub record Taking (trace stack first hist row listed counts : List ℕ) (held i : ℕ) : Type 0 where
  pub given : Blank trace stack first hist
  pub cross : Crossing stack 0 trace hist row counts held i
  pub long : length listed ≡ length first
  pub list : take held listed ≡ firsts (take i trace)

module _ (trace stack first hist : List ℕ) where
  -- none is taken
  pub trace-start : Blank trace stack first hist → Taking trace stack first hist stack first hist 0 0
  unfolding distinct firsts
  trace-start g = record {
    given = g;
    cross = cross-start stack 0 trace hist (omega arith) refl (g.hist-wide ∙ sym g.stack-wide) (λ j. omega (arith, g.none j, g.short));
    long = refl;
    list = refl;
  }

  module _ (row listed counts : List ℕ) (held i : ℕ) (h : Taking trace stack first hist row listed counts held i) where
    module _ (l : length trace ≤ i) where
      -- what is held is the count of extents
      count : held ≡ min (length (firsts trace)) (suc max_extents)
      count = held-count stack trace row held i h.cross.run h.given.stack-wide l

      -- R
      recent : take held row ≡ reverse (cleanup trace)
      unfolding lru_stack
      recent = (rw (take_all i trace l) at h.cross.run.front) ∙ stack-law trace

      -- F
      firsts-listed : take held listed ≡ firsts trace
      firsts-listed = rw (take_all i trace l) at h.list

      -- H
      counted : held ≤ max_extents → take held counts ≡ histogram trace
      unfolding histogram
      counted few =
          let c : Counted hist (reuses [] trace) counts = cross-end stack 0 trace hist row counts held i h.cross l in
          let v : held ≡ length (firsts trace) = omega (arith, count) in
          take-from (count_at (reuses [] trace)) counts 1 held (omega (arith, c.size, h.given.hist-wide))
          (λ j k. let s : 1 + j ≡ suc j = omega arith in rw s (omega (arith, c.each j (omega (arith, h.given.hist-wide)), h.given.none j)))
          ∙ ap (λ (n : ℕ). map (count_at (reuses [] trace)) (from 1 n)) v

      -- all are taken
      pub trace-end : Taken trace row listed counts held
      trace-end = record {
        extents = count;
        fronts = λ few. record { recent = recent; listed = firsts-listed; counted = counted few };
      }

    module _ (l : i < length trace) where
      -- the extents with the next read
      next-listed : firsts (take (i + 1) trace) ≡ firsts (take i trace ++ (get_or trace i 0 ∷ []))
      next-listed = rw (add-one i, take-suc trace i 0 l)

      -- the next read was taken before, or was not, as the stack has it
      next_known : mem (get_or trace i 0) (take held row) ≡ mem (get_or trace i 0) (take i trace)
      unfolding lru_stack
      next_known = rw h.cross.run.front (mem-stack (get_or trace i 0) (take i trace))

      -- what is held is within the row
      fits : held ≤ length row
      fits = held_fits stack 0 trace row held i h.cross.run

      -- a cold read is of a new extent
      new : place_of row held (get_or trace i 0) ≡ Cold → firsts (take (i + 1) trace) ≡ firsts (take i trace) ++ (get_or trace i 0 ∷ [])
      new p =
          next-listed ∙ firsts-new (get_or trace i 0) (take i trace)
          (sym next_known ∙ place-new row held (get_or trace i 0) fits p)

      -- a read at a distance is of a known one
      known : (d : ℕ) → place_of row held (get_or trace i 0) ≡ Depth d → firsts (take (i + 1) trace) ≡ firsts (take i trace)
      known d p =
          let x : ℕ = get_or trace i 0 in
          let e : depth (take held row) x ≡ at d = place-depth row held x fits d p in
          next-listed ∙ firsts-known x (take i trace)
          (sym next_known ∙ by-test (mem x (take held row)) (λ m. m)
          (λ m. let z : ◌≡◌ {A = ℕ} 0 1 = cc (depth-absent x (take held row) m) in absurd (omega arith)))

      -- a new extent has a place in the list
      pub list-room : place_of row held (get_or trace i 0) ≡ Cold → held < length listed
      list-room p =
          omega (arith, place-room row held (get_or trace i 0) fits p, h.cross.run.long, h.given.stack-wide, h.long, h.given.first-wide)

      -- there is no room: the extents are over the limit
      pub trace-full : (r : Place) (left : List ℕ) → r ≡ place_of row held (get_or trace i 0) → r ≡ Full → Taken trace left listed counts (suc max_extents)
      trace-full r left p e = record {
        extents = full-count stack trace row held i h.cross.run h.given.stack-wide l r p e;
        fronts = λ few. absurd (omega arith);
      }

      -- the turn as the code makes it, by the engine's answer r and the words that it left
      module _ (r : Place) (left others counts' : List ℕ) (held' : ℕ) (p : r ≡ place_of row held (get_or trace i 0)) (q : left ≡ left_by r held (get_or trace i 0) row) where
        -- a cold read
        pub trace-cold : r ≡ Cold → others ≡ set listed held (get_or trace i 0) → counts' ≡ counts → held' ≡ held + 1
            → Taking trace stack first hist left others counts' held' (i + 1)
        trace-cold e f k g = record {
          given = h.given;
          cross = cross-cold stack 0 trace hist row counts held i h.cross l r left counts' held' p q e k g;
          long = rw f (simp length-set h.long);
          list =
              rw (f, g, add-one held, take-suc-set listed held (get_or trace i 0) (list-room (sym p ∙ e)), h.list)
              (sym (new (sym p ∙ e)));
        }

        -- a read at a distance
        pub trace-known : (d : ℕ) → r ≡ Depth d → others ≡ listed → counts' ≡ set counts (d - 1) (get_or counts (d - 1) 0 + 1) → held' ≡ held
            → Taking trace stack first hist left others counts' held' (i + 1)
        trace-known d e f k g = record {
          given = h.given;
          cross = cross-known stack 0 trace hist row counts held i h.cross l r left counts' held' p q d e k g;
          long = rw f h.long;
          list = rw (f, g) (h.list ∙ sym (known d (sym p ∙ e)));
        }

-- the fronts of the rows make the words of the trace's summary
pub taken-words : (trace stack first hist : List ℕ) (v : ℕ) → Taken trace stack first hist v → v ≤ max_extents
    → words (length trace) (take v first) (take v stack) (take v hist) ≡ summary_of trace
unfolding summary_of
taken-words trace stack first hist v k few =
    let f = k.fronts few in
    rw (f.listed, f.recent, f.counted)

-- writing them out is the call on the trace
pub taken-call : (trace stack first hist out : List ℕ) (v : ℕ) → Taken trace stack first hist v → v ≤ max_extents → length trace ≤ max_reads
    → words_call (length trace) (take v first) (take v stack) (take v hist) out ≡ trace_call trace out
unfolding words_call
taken-call trace stack first hist out v k few short =
    let f = k.fronts few in
    let n : length (firsts trace) ≤ max_extents = extents-within trace v k.extents few in
    rw (taken-words trace stack first hist v k few, f.listed, le-leb (length (firsts trace)) max_extents n)
    (sym (trace-wrote trace out short n))
