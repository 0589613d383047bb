-- Evaluation, step by step: a seg, the begin of a join, each part joined to those before it, and the end of the join.
use mathlib.Core.Path.{◌≡◌, refl, sym, ap, subst, ◌∙◌}
use Prim.Native.Nat.{ℕ, suc, ◌+◌, ◌-◌, ◌*◌, ◌≤◌, ◌<◌}
use native.Mathlib.Omega.{arith}
use mathlib.Core.List.{List, [], ◌++◌}
use mathlib.Core.Logic.{◌⊎◌, inl, inr}
use lib.ListN.{length, take, drop}
use lib.Seq.{drop-drop, length-take-le}
use borrow.Rule.Slice.PartMut.{mid_of, put_mid}
use Rattle.reuse.specs.Lists.{firsts}
use Rattle.reuse.specs.Summary.{summary_of}
use Rattle.reuse.specs.Traces.{Within}
use Rattle.reuse.proofs.Words.{length-summary}
use Rattle.reuse_rows.specs.Rows.{put_at}
use Rattle.summary_calls.specs.Calls.{Wrote, wrote, join_call, trace_call}
use Rattle.summary_calls.proofs.Traces.{join-trace, trace-within}
use Rattle.texts.specs.Plans.{Plan, reads, depth}
use Rattle.plan_calls.specs.Calls.{summary_words, level_words, count_of, fronted}
use Rattle.plan_calls.specs.Standing.{span}
use Rattle.reuse_rows.proofs.Parts.{back-before, back-length}
use Rattle.reuse_copies.proofs.Puts.{put-there, put-after}
use Rattle.plan_calls.proofs.Spans.{back-words, front-words, span-within, span-append, span-words}
use Rattle.plan_calls.proofs.Levels.{front-there, front-again, wrote-front, levels-more, level-kept}
use Rattle.plan_calls.proofs.Standing.{Opened, Pending, NextPart, no_part}
use Rattle.plan_joins.specs.Calls.{Joined, joined_held, join_held}
use Rattle.plan_joins.proofs.Joins.{Holdable, none-held, one-held, behind-kept}
use Rattle.plan.specs.Evaluation.{Evaluated}
use Rattle.plan.specs.declared.evaluation.Done.{Done}

-- the words held when n reads from a place on are taken: none before the first part, then their summary
abbrev pub Begun : List ℕ → ℕ → ℕ → ℕ → List ℕ → Type 0
Begun log from n closes held = ((held ≡ []) × (n ≡ 0) × (closes ≡ 0)) ⊎ (held ≡ summary_of (span from n log))

-- a join halfway: its parts up to the last read taken are joined at the front of the output
pub record Halfway (s : List ℕ) (at d : ℕ) (log : List ℕ) (from left : ℕ) (work out : List ℕ) (t : Plan) (c : ℕ) (rest : List ℕ) (done : Done) (work' out' : List ℕ) : Type 0 where
  pub forward : at < done.next
  pub inside : done.next ≤ length s
  pub pending : Pending s (suc d) c rest (from + reads t) (left - 1) done.closes done.next done.taken
  pub so_far : ℕ
  pub taken : done.taken ≡ from + so_far
  pub held : List ℕ
  pub begun : Begun log from so_far done.closes held
  pub counted : done.words ≡ length held
  pub written : out' ≡ fronted held out
  pub kept : drop (level_words * left) work' ≡ drop (level_words * left) work

module _ (s : List ℕ) (at d : ℕ) (log : List ℕ) (from left : ℕ) (work out : List ℕ) (t : Plan) (c : ℕ) (rest : List ℕ) where
  -- the begin of a join
  pub begin : (next : ℕ) → at < next → next ≤ length s → Opened s next d t c rest → depth t ≤ left → (r : Done) → r ≡ record { next = next; closes = 0; taken = from; words = 0 }
      → Halfway s at d log from left work out t c rest r work out
  unfolding fronted
  begin next f i o deep r p =
      let done : Done = record { next = next; closes = 0; taken = from; words = 0 } in
      let q : Halfway s at d log from left work out t c rest done work out = record {
        forward = f;
        inside = i;
        pending = inl (o.parts, refl, o.printed, o.ruled, omega (arith, o.deepens), omega (arith, o.covers));
        so_far = 0;
        taken = omega arith;
        held = [];
        begun = inl (refl, refl, refl);
        counted = refl;
        written = refl;
        kept = refl;
      } in
      subst (λ (v : Done). Halfway s at d log from left work out t c rest v work out) (sym p) q

  module _ (positive : 0 < left) (levels : level_words * left ≤ length work) (within : Within log) (room : 2 + 3 * length (firsts log) ≤ length out)
      (done : Done) (w o : List ℕ) (h : Halfway s at d log from left work out t c rest done w o) (long : length w ≡ length work) (wide : length o ≡ length out) where
    -- the words held are no more than those of the log's summary
    held-words : length h.held ≤ 2 + 3 * length (firsts log)
    held-words = by h.begun
      where
        by : Begun log from h.so_far done.closes h.held → length h.held ≤ 2 + 3 * length (firsts log)
        by (inl p) = omega (arith, ap length p.0)
        by (inr p) = omega (arith, ap length p, span-words log from h.so_far)

    -- they stand at the front of the output, and fit a half of the level
    pub held-there : (done.words ≤ summary_words) × (done.words ≤ length o) × (take done.words o ≡ h.held)
    held-there = (
      omega (arith, h.counted, held-words, within.extents),
      omega (arith, h.counted, held-words),
      ap (λ (n : ℕ). take n o) h.counted ∙ ap (take (length h.held)) h.written ∙ front-there h.held out,
    )

    module _ (n : NextPart s (suc d) c rest (from + reads t) (left - 1) done.next done.taken) (w1 : List ℕ) (copied : w1 ≡ put_at w 0 (take done.words o)) (long1 : length w1 ≡ length w)
        (part : Done) (y o2 : List ℕ) (same : length y ≡ length w1 - level_words) (wide2 : length o2 ≡ length o)
        (e : Evaluated s done.next log done.taken (left - 1) (mid_of level_words (length w1 - level_words) w1) o n.part n.closes n.after part y o2) where
      -- the part's words
      abbrev fresh : List ℕ
      fresh = summary_of (span done.taken (reads n.part) log)

      -- the level's words when the part is evaluated
      abbrev w2 : List ℕ
      w2 = put_mid level_words (length w1 - level_words) w1 y

      -- they are no more than the log's
      fresh-words : length fresh ≤ 2 + 3 * length (firsts log)
      fresh-words = span-words log done.taken (reads n.part)

      -- the held words still stand in the first half
      still-held : take done.words w2 ≡ h.held
      still-held =
          let k : length (take done.words o) ≡ done.words = length-take-le done.words o held-there.1 in
          back-before level_words w1 y (omega arith) same done.words (omega (arith, held-there.0))
          ∙ ap (take done.words) copied
          ∙ ap (λ (m : ℕ). take m (put_at w 0 (take done.words o))) (sym k)
          ∙ put-there w 0 (take done.words o) (omega (arith, k, held-there.0))
          ∙ held-there.2

      -- the part's words stand at the front of the output
      fresh-there : take part.words o2 ≡ fresh
      fresh-there = ap (λ (m : ℕ). take m o2) e.counted ∙ ap (take (length fresh)) e.written ∙ front-there fresh o

      -- both can be joined
      holdable : Holdable w2 done.words o2 part.words
      holdable = record {
        level = omega (arith, back-length level_words w1 y (omega arith) same);
        first = held-there.0;
        second = omega (arith, e.counted, fresh-words, within.extents);
        fits = omega (arith, e.counted, fresh-words);
      }

      -- the reads of both
      abbrev both : List ℕ
      both = span from (h.so_far + reads n.part) log

      -- end to end
      ends : span from h.so_far log ++ span done.taken (reads n.part) log ≡ both
      ends = span-append log from h.so_far (reads n.part) done.taken (sym h.taken)

      -- there is room for their summary
      both-fits : length (summary_of both) ≤ length o2
      both-fits = omega (arith, span-words log from (h.so_far + reads n.part))

      -- over the part's words, and over those held before
      over : length h.held ≤ length (summary_of both) → fronted (summary_of both) o2 ≡ fronted (summary_of both) out
      over l =
          let m = back-words (span from h.so_far log) (span done.taken (reads n.part) log) in
          let z : length (summary_of (span from h.so_far log ++ span done.taken (reads n.part) log)) ≡ length (summary_of both) = ap (λ (v : List ℕ). length (summary_of v)) ends in
          ap (fronted (summary_of both)) e.written
          ∙ front-again fresh (summary_of both) o (omega arith) (omega (arith, both-fits))
          ∙ ap (fronted (summary_of both)) h.written
          ∙ front-again h.held (summary_of both) out l (omega (arith, both-fits))

      -- what a level's join leaves: the summary of both
      abbrev Leaves : Joined → Type 0
      Leaves j = (j.words ≡ length (summary_of both)) × (j.out ≡ fronted (summary_of both) out) × (drop level_words j.work ≡ drop level_words w2)

      -- it does
      leaves : Leaves (join_held w2 done.words o2 part.words)
      unfolding joined_held fronted
      leaves = by h.begun
        where
          by : Begun log from h.so_far done.closes h.held → Leaves (join_held w2 done.words o2 part.words)
          by (inl p) =
              let z : done.words ≡ 0 = h.counted ∙ ap length p.0 in
              let k : done.taken ≡ from = omega (arith, h.taken, p.1) in
              let m : reads n.part ≡ h.so_far + reads n.part = omega (arith, p.1) in
              let f : fresh ≡ summary_of both = ap (λ (i : ℕ). summary_of (span i (reads n.part) log)) k ∙ ap (λ (i : ℕ). summary_of (span from i log)) m in
              let g : o ≡ out = h.written ∙ ap (λ (v : List ℕ). v ++ drop (length v) out) p.0 in
              subst Leaves (sym (none-held w2 done.words o2 part.words holdable z))
              (e.counted ∙ ap length f, e.written ∙ ap (λ (v : List ℕ). fronted v o) f ∙ ap (fronted (summary_of both)) g, refl)
          by (inr p) =
              let q : join_call (take done.words w2) (take part.words o2) o2 ≡ wrote (summary_of both) o2 =
              ap (λ (v : List ℕ). join_call v (take part.words o2) o2) (still-held ∙ p)
              ∙ ap (λ (v : List ℕ). join_call (summary_of (span from h.so_far log)) v o2) fresh-there
              ∙ join-trace (span from h.so_far log) (span done.taken (reads n.part) log) o2 (subst Within (sym ends) (span-within log from (h.so_far + reads n.part) within))
              ∙ ap (λ (v : List ℕ). wrote (summary_of v) o2) ends in
              let f = wrote-front (summary_of both) o2 both-fits in
              let l = front-words (span from h.so_far log) (span done.taken (reads n.part) log) in
              let z : length (summary_of (span from h.so_far log ++ span done.taken (reads n.part) log)) ≡ length (summary_of both) = ap (λ (v : List ℕ). length (summary_of v)) ends in
              subst Leaves (sym (one-held w2 done.words o2 part.words holdable (λ x. omega (arith, x, h.counted, ap length p, length-summary (span from h.so_far log))))) (
                ap (λ (v : Wrote). count_of v.answer) q ∙ f.1,
                ap (λ (v : Wrote). v.buffer) q ∙ f.0 ∙ over (omega (arith, ap length p)),
                behind-kept w2 done.words o2 part.words holdable,
              )

      -- what stands behind the levels
      behind : (w3 : List ℕ) → drop level_words w3 ≡ drop level_words w2 → drop (level_words * left) w3 ≡ drop (level_words * left) work
      behind w3 k =
          let m : length (take done.words o) ≡ done.words = length-take-le done.words o held-there.1 in
          ap (λ (i : ℕ). drop i w3) (sym (levels-more left positive))
          ∙ sym (drop-drop (level_words * (left - 1)) level_words w3)
          ∙ ap (drop (level_words * (left - 1))) k
          ∙ drop-drop (level_words * (left - 1)) level_words w2
          ∙ ap (λ (i : ℕ). drop i w2) (levels-more left positive)
          ∙ level-kept left w1 y positive (omega arith) same e.kept
          ∙ ap (drop (level_words * left)) copied
          ∙ put-after w 0 (take done.words o) (omega (arith, m, held-there.0)) (level_words * left) (omega (arith, m, held-there.0))
          ∙ h.kept

      -- the part is joined to those before it
      pub part-done : (words : ℕ) (w3 o3 : List ℕ)
          → words ≡ (join_held w2 done.words o2 part.words).words
          → w3 ≡ (join_held w2 done.words o2 part.words).work
          → o3 ≡ (join_held w2 done.words o2 part.words).out
          → (r : Done) → r ≡ record { next = part.next; closes = part.closes; taken = part.taken; words = words }
          → Halfway s at d log from left work out t c rest r w3 o3
      part-done words w3 o3 a k b r p =
          let done' : Done = record { next = part.next; closes = part.closes; taken = part.taken; words = words } in
          let q : Halfway s at d log from left work out t c rest done' w3 o3 = record {
            forward = omega (arith, h.forward, e.forward);
            inside = e.inside;
            pending = n.then part.closes part.next part.taken e.brackets e.goes_on e.taken;
            so_far = h.so_far + reads n.part;
            taken = omega (arith, e.taken, h.taken);
            held = summary_of both;
            begun = inr refl;
            counted = a ∙ leaves.0;
            written = b ∙ leaves.1;
            kept = behind w3 (ap (drop level_words) k ∙ leaves.2);
          } in
          subst (λ (v : Done). Halfway s at d log from left work out t c rest v w3 o3) (sym p) q

    -- the end of the join
    pub join-done : (done.closes ≡ 0 → ⊥) → (r : Done) → r ≡ record { next = done.next; closes = done.closes - 1; taken = done.taken; words = done.words }
        → Evaluated s at log from left work out t c rest r w o
    join-done z r p =
        let l = no_part s (suc d) c rest (from + reads t) (left - 1) done.next done.taken done.closes h.pending z in
        let m : h.so_far ≡ reads t = omega (arith, l.2, h.taken) in
        let f : h.held ≡ summary_of (span from (reads t) log) = by h.begun ∙ ap (λ (v : ℕ). summary_of (span from v log)) m in
        let done' : Done = record { next = done.next; closes = done.closes - 1; taken = done.taken; words = done.words } in
        let q : Evaluated s at log from left work out t c rest done' w o = record {
          forward = h.forward;
          inside = h.inside;
          goes_on = l.1;
          brackets = omega (arith, l.0);
          taken = l.2;
          counted = h.counted ∙ ap length f;
          written = h.written ∙ ap (λ (v : List ℕ). fronted v out) f;
          kept = h.kept;
        } in
        subst (λ (v : Done). Evaluated s at log from left work out t c rest v w o) (sym p) q
      where
        by : Begun log from h.so_far done.closes h.held → h.held ≡ summary_of (span from h.so_far log)
        by (inl b) = absurd (z b.2)
        by (inr b) = b

-- a seg is evaluated
pub seg-done : (s : List ℕ) (at next : ℕ) (log : List ℕ) (from left : ℕ) (work out : List ℕ) (t : Plan) (c : ℕ) (rest : List ℕ) → Within log → 2 + 3 * length (firsts log) ≤ length out
    → at < next → next ≤ length s → (n k : ℕ) → (reads t ≡ n) × (k ≡ c) × (drop next s ≡ rest)
    → (words : ℕ) (o : List ℕ) → words ≡ count_of (trace_call (span from n log) out).answer → o ≡ (trace_call (span from n log) out).buffer
    → (r : Done) → r ≡ record { next = next; closes = k; taken = from + n; words = words } → Evaluated s at log from left work out t c rest r work o
seg-done s at next log from left work out t c rest within room f i n k is words o a b r p =
    let m : n ≡ reads t = sym is.0 in
    let w = trace-within (span from n log) out (span-within log from n within) in
    let h = wrote-front (summary_of (span from n log)) out (omega (arith, span-words log from n)) in
    let done : Done = record { next = next; closes = k; taken = from + n; words = words } in
    let q : Evaluated s at log from left work out t c rest done work o = record {
      forward = f;
      inside = i;
      goes_on = is.2;
      brackets = is.1;
      taken = ap (λ (v : ℕ). from + v) m;
      counted = a ∙ ap (λ (v : Wrote). count_of v.answer) w ∙ h.1 ∙ ap (λ (v : ℕ). length (summary_of (span from v log))) m;
      written = b ∙ ap (λ (v : Wrote). v.buffer) w ∙ h.0 ∙ ap (λ (v : ℕ). fronted (summary_of (span from v log)) out) m;
      kept = refl;
    } in
    subst (λ (v : Done). Evaluated s at log from left work out t c rest v work o) (sym p) q
