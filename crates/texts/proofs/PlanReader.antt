-- The definition's answer from inside a text, line by line: what the two readers' laws are made of.
use mathlib.Core.Path.{◌≡◌, refl, ap, ◌∙◌}
use Prim.Native.Nat.{ℕ, zero, suc, ◌+◌, ◌≤◌, ◌<◌, max}
use native.Mathlib.Omega.{arith}
use mathlib.Core.List.{List, [], ◌∷◌, ◌++◌}
use mathlib.Core.Bool.{true}
use lib.ListN.{length, length-append}
use borrow.Author.Tests.{le-ltb}
use Rattle.texts.specs.Limits.{max_bytes}
use Rattle.texts.specs.Lines.{to, no, at, stopped, got, refused, line_done, feed_by, finish_by, line_count}
use Rattle.texts.specs.Plans.{Plan, join, last, reads, parts_reads, depth, parts_depth}
use Rattle.texts.specs.PlanTexts.{Line, line_of, Reading, inside, whole, add_parts, put, line_by, plan_step, any_room, plan_feed, plan_done, plan_lines, plan_of}
use Rattle.texts.specs.PlanOwed.{plan_from, plan_after, closable, done_reads, done_depth}
use Rattle.texts.proofs.Tests.{never}
use Rattle.texts.proofs.Feeding.{feed-rest, absorb, by_byte}
use Rattle.texts.proofs.PlanRuns.{plan-line}

-- a text that is not too long is read from the start
pub from_start : (text : List ℕ) → length text ≤ max_bytes → plan_of text ≡ plan_from 0 [] text
unfolding plan_of plan_lines plan_from
from_start text h = rw (le-ltb max_bytes (length text) h)

module _ (k : ℕ) (joins : List (List Plan)) where
  -- no line ends any more
  pub from_end : (l : List ℕ) → line_count l ≡ 0 → plan_from k joins l ≡ refused (suc k) 1
  unfolding plan_from plan_feed finish_by feed_by
  from_end [] h = refl
  from_end (x ∷ l) h = ap (finish_by plan_done) (feed-rest (plan_step true) any_room (x ∷ l) k [] (inside joins) h (λ n g. refl))

  -- the next line, by what it is
  pub from-line : (line rest : List ℕ) → line_count line ≡ 0 → (l : Line) → line_of (length joins) line ≡ l → plan_from k joins (line ++ (10 ∷ rest)) ≡ plan_after k (line_by true joins l) rest
  unfolding plan_from plan_after
  from-line line rest one l e = ap (finish_by plan_done) (plan-line true joins k line rest one) ∙ ap (λ (l : Line). plan_after k (line_by true joins l) rest) e

-- after a refused line
pub after-no : (k n : ℕ) (rest : List ℕ) → plan_after k (no n) rest ≡ refused (suc k) n
unfolding plan_after line_done finish_by plan_feed
after-no k n rest = ap (finish_by plan_done) (absorb (plan_step true) any_room (suc k) n rest)

-- after a line that leaves joins open
pub after-inside : (k : ℕ) (joins : List (List Plan)) (rest : List ℕ) → plan_after k (to (inside joins)) rest ≡ plan_from (suc k) joins rest
unfolding plan_after plan_from line_done
after-inside k joins rest = refl

-- the text ends after the whole plan
pub after-whole : (k : ℕ) (t : Plan) → plan_after k (to (whole t)) [] ≡ got t
unfolding plan_after line_done finish_by plan_feed feed_by
after-whole k t = refl

-- a line after the whole plan, ended or not
whole-on : (l : List ℕ) (k : ℕ) (held : List ℕ) (t : Plan) → 0 < length held + length l
    → finish_by plan_done (feed_by (plan_step true) any_room (at k held (whole t)) l) ≡ refused (suc k) 1
unfolding finish_by feed_by plan_step
whole-on [] k [] t h = absurd (omega arith)
whole-on [] k (y ∷ held) t h = refl
whole-on (x ∷ l) k held t h =
    by_byte (plan_step true) any_room k held (whole t) x
    (λ s₁ e q f. never (cc))
    (λ n e q f. let z : n ≡ 1 = cc in ap (finish_by plan_done) (f l ∙ ap (λ (m : ℕ). stopped (suc k) m) z))
    (λ e r f. ap (finish_by plan_done) (f l) ∙ whole-on l k (held ++ (x ∷ [])) t (rw length-append (omega arith)))
    (λ e r f. ap (finish_by plan_done) (f l))

-- bytes after the whole plan
pub after_more : (k : ℕ) (t : Plan) (x : ℕ) (l : List ℕ) → plan_after k (to (whole t)) (x ∷ l) ≡ refused (suc (suc k)) 1
unfolding plan_after line_done plan_feed
after_more k t x l = whole-on (x ∷ l) (suc k) [] t (omega arith)

-- more brackets than may close
pub put-many : (joins : List (List Plan)) (t : Plan) (c : ℕ) → closable joins < c → put t c joins ≡ no 1
unfolding put closable
put-many [] t zero h = absurd (omega arith)
put-many [] t (suc c) h = refl
put-many (f ∷ joins) t zero h = absurd (omega arith)
put-many ([] ∷ joins) t (suc c) h = refl
put-many ((p ∷ f) ∷ joins) t (suc c) h = put-many joins (join p (add_parts f (last t))) c (omega arith)

-- as many brackets as may close
pub put_some : (joins : List (List Plan)) (t : Plan) (c : ℕ) → c ≤ closable joins → (s : Reading) × (put t c joins ≡ to s)
unfolding put closable
put_some [] t zero h = (whole t, refl)
put_some [] t (suc c) h = absurd (omega arith)
put_some (f ∷ joins) t zero h = (inside ((f ++ (t ∷ [])) ∷ joins), refl)
put_some ([] ∷ joins) t (suc c) h = absurd (omega arith)
put_some ((p ∷ f) ∷ joins) t (suc c) h = put_some joins (join p (add_parts f (last t))) c (omega arith)

-- a part that closes nothing is one part more
pub put-part : (k : ℕ) (f : List Plan) (joins : List (List Plan)) (t : Plan) (rest : List ℕ) → plan_after k (put t 0 (f ∷ joins)) rest ≡ plan_from (suc k) ((f ++ (t ∷ [])) ∷ joins) rest
unfolding put plan_after plan_from line_done
put-part k f joins t rest = refl

-- a part that closes its join makes it
pub put_last : (k c : ℕ) (p : Plan) (f : List Plan) (joins : List (List Plan)) (t : Plan) (rest : List ℕ)
    → plan_after k (put t (suc c) ((p ∷ f) ∷ joins)) rest ≡ plan_after k (put (join p (add_parts f (last t))) c joins) rest
unfolding put
put_last k c p f joins t rest = refl

-- the reads of a join's other parts
add_reads : (f : List Plan) (t : Plan) → parts_reads (add_parts f (last t)) ≡ done_reads f + reads t
unfolding reads add_parts done_reads
add_reads [] t = omega arith
add_reads (p ∷ f) t = rw (add_reads f t) (omega arith)

-- the reads of a join that closes
pub closed-reads : (p : Plan) (f : List Plan) (t : Plan) → reads (join p (add_parts f (last t))) ≡ done_reads (p ∷ f) + reads t
unfolding reads done_reads
closed-reads p f t = rw (add_reads f t) (omega arith)

-- the depth of a join's other parts
add-depth : (f : List Plan) (t : Plan) → parts_depth (add_parts f (last t)) ≡ max (done_depth f) (depth t)
unfolding depth add_parts done_depth
add-depth [] t = omega arith
add-depth (p ∷ f) t = rw (add-depth f t) (omega arith)

-- the depth of a join that closes
pub closed-depth : (p : Plan) (f : List Plan) (t : Plan) → depth (join p (add_parts f (last t))) ≡ suc (max (done_depth (p ∷ f)) (depth t))
unfolding depth done_depth
closed-depth p f t = rw (add-depth f t) (omega arith)

-- the reads of one part more
pub done-reads : (f : List Plan) (t : Plan) → done_reads (f ++ (t ∷ [])) ≡ done_reads f + reads t
unfolding done_reads
done-reads [] t = omega arith
done-reads (p ∷ f) t = rw (done-reads f t) (omega arith)

-- the depth of one part more
pub done-depth : (f : List Plan) (t : Plan) → done_depth (f ++ (t ∷ [])) ≡ max (done_depth f) (depth t)
unfolding done_depth
done-depth [] t = omega arith
done-depth (p ∷ f) t = rw (done-depth f t) (omega arith)
