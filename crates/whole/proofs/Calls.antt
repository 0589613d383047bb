-- Lists of read calls, refused ones included: what they answer, and what the session then stands for.
use Rattle.std.specs.Prelude.{Result, Ok, Err}
use Rattle.reuse.specs.declared.refusals.Refusal.{Refusal}
use Rattle.reuse.specs.declared.refusals.Refusal.TheVariants.{TooManyReads, TooManyExtents}
use Rattle.reuse.specs.Refusals.{refusal_with}
use Prim.Native.Nat.{ℕ, suc, ◌≤◌}
use mathlib.Core.Path.{◌≡◌, refl, sym, ap, ◌∙◌}
use mathlib.Core.List.{List, [], ◌∷◌, ◌++◌, map, map-map, append_assoc, append-nil}
use mathlib.Core.Bool.{Bool, true, false, cond, not, ◌&&◌}
use native.Mathlib.Omega.{arith}
use lib.Dec.{eqb, ltb}
use lib.ListN.{length, length-append}
use borrow.Author.Tests.{ne_eqb, eqb-true, eqb-false, lt-ltb, le-ltb}
use Rattle.reuse.specs.Limits.{max_reads, max_extents}
use Rattle.reuse.specs.Lists.{mem, firsts}
use Rattle.reuse.specs.Lru.{Reuse, cold, at, depth, touch, stack, reuses, distance}
use Rattle.reuse.specs.Written.{word_of}
use Rattle.reuse.specs.Traces.{Within}
use Rattle.reuse.proofs.Lists.{by-test, firsts-known, firsts-new, firsts-longer}
use Rattle.reuse.proofs.Stack.{stack_snoc}
use Rattle.reuse.proofs.Traces.{within-front}
use Rattle.reuse.proofs.Depth.{distance-law}
use Rattle.session.specs.declared.Session.{Session}
use Rattle.session.specs.declared.Step.{Step}
use Rattle.session_calls.specs.declared.Answer.{Answer}
use Rattle.session_calls.specs.declared.Answer.TheVariants.{Cold, Distance}
use Rattle.session.specs.Sessions.{old_of, fresh}
use Rattle.session.specs.Reads.{roomed, step_at, refused as read_refused, read_of}
use Rattle.session_calls.proofs.Sound.{kept-few}
use Rattle.session_calls.proofs.Stands.{stands-known, known-extents}
use Rattle.session_traces.proofs.Stands.{Stands, stands-facts, fresh-stands}
use Rattle.session_traces.proofs.Read.{over, read_is, read-full, read-many, read-stands}
use Rattle.whole.specs.Runs.{gives, refused, session_after, answers_of, written, keep, accepted}
use Rattle.whole.specs.Owed.{Seen, seen_of, read_owed, grown, owed}

-- a log that a session stands for is within the limits
pub stands-within : (s : Session) (t : List ℕ) → Stands s t → Within t
stands-within s t g =
    let h = stands-known (old_of s) t g.full-stands in
    record {
      reads = omega (arith, g.full-stands.counted, (stands-facts s t g).sound.short);
      extents = omega (arith, known-extents (old_of s) t h, kept-few (old_of s) h.kept);
    }

-- a test that is one number past the limit
past : (limit n : ℕ) → n ≤ limit → ltb limit (suc n) ≡ eqb n limit
past limit n h =
    by-test (eqb n limit)
    (λ e. lt-ltb limit (suc n) (omega (arith, eqb-true n limit e)) ∙ sym e)
    (λ e. le-ltb limit (suc n) (omega (arith, eqb-false n limit e)) ∙ sym e)

-- the condition of 8
past-reads : (t : List ℕ) (x : ℕ) → Within t → ltb max_reads (length (t ++ (x ∷ []))) ≡ eqb (length t) max_reads
past-reads t x w =
    let n : length (t ++ (x ∷ [])) ≡ suc (length t) = simp length-append (omega arith) in
    ap (ltb max_reads) n ∙ past max_reads (length t) w.reads

-- the condition of 9
past-extents : (t : List ℕ) (x : ℕ) → Within t → ltb max_extents (length (firsts (t ++ (x ∷ [])))) ≡ over t x
past-extents t x w =
    by-test (mem x t)
    (λ m. rw (m, firsts-known x t m) (le-ltb max_extents (length (firsts t)) w.extents))
    (λ m. let n : length (firsts (t ++ (x ∷ []))) ≡ suc (length (firsts t)) = rw (firsts-new x t m) (simp length-append (omega arith)) in
    rw (m, n) (past max_extents (length (firsts t)) w.extents))

-- a read by what is owed
abbrev pub step_for : Session → ℕ → Seen → Step
step_for s x (gives r) = step_at (roomed s) x r
step_for s x (refused n) = read_refused s (refusal_with n)

-- it shows what is owed
step-seen : (s : Session) (x : ℕ) (c d : Bool) (r : Reuse)
    → seen_of (step_for s x (cond c (refused 8) (cond d (refused 9) (gives r)))).answer ≡ cond c (refused 8) (cond d (refused 9) (gives r))
step-seen s x true d r = refl
step-seen s x false true r = refl
step-seen s x false false (cold n) = refl
step-seen s x false false (at d) = refl

-- a read's answer decides how the log grows
kept-grown : (a : Result Answer Refusal) (t l : List ℕ) (x : ℕ) → t ++ keep a x l ≡ grown (seen_of a) t x ++ l
kept-grown (Ok (Cold n k)) t l x = sym (append_assoc t (x ∷ []) l)
kept-grown (Ok (Distance d n k)) t l x = sym (append_assoc t (x ∷ []) l)
kept-grown (Err why) t l x = refl

module _ (s : Session) (t : List ℕ) (g : Stands s t) (x : ℕ) where
  -- a read is the one owed
  pub read_step : read_of s x ≡ step_for s x (read_owed t x)
  unfolding read_owed
  read_step =
      read_is s t g x
      ∙ rw (← past-reads t x (stands-within s t g), ← past-extents t x (stands-within s t g), distance-law t x)
      (by (ltb max_reads (length (t ++ (x ∷ [])))) (ltb max_extents (length (firsts (t ++ (x ∷ []))))))
    where
      -- by the two conditions
      by : (c d : Bool) → cond c (read_refused s TooManyReads) (cond d (read_refused s TooManyExtents) (step_at (roomed s) x (distance t x)))
          ≡ step_for s x (cond c (refused 8) (cond d (refused 9) (gives (distance t x))))
      by true d = refl
      by false true = refl
      by false false = refl

  -- its answer is the one owed
  pub read-owed : seen_of (read_of s x).answer ≡ read_owed t x
  unfolding read_owed
  read-owed =
      ap (λ (r : Step). seen_of r.answer) read_step
      ∙ step-seen s x (ltb max_reads (length (t ++ (x ∷ [])))) (ltb max_extents (length (firsts (t ++ (x ∷ []))))) (distance t x)

  -- the session after it stands for the log as it grows
  pub read-grown : Stands (read_of s x).session (grown (read_owed t x) t x)
  unfolding read_owed
  read-grown =
      rw (past-reads t x (stands-within s t g), past-extents t x (stands-within s t g)) (by (eqb (length t) max_reads) refl (over t x) refl)
    where
      -- by the two conditions
      by : (c : Bool) → eqb (length t) max_reads ≡ c → (d : Bool) → over t x ≡ d
          → Stands (read_of s x).session (grown (cond c (refused 8) (cond d (refused 9) (gives (distance t x)))) t x)
      by true e d f = rw (read-full s t g x e) g
      by false e true f = rw (read-many s t g x e f) g
      by false e false f = read-stands s t g x e f

  -- the log after it, and further reads
  pub read_kept : (l : List ℕ) → t ++ keep (read_of s x).answer x l ≡ grown (read_owed t x) t x ++ l
  read_kept l = kept-grown (read_of s x).answer t l x ∙ ap (λ (o : Seen). grown o t x ++ l) read-owed

  -- a refused read leaves no trace
  kept-after : (l : List ℕ) → session_after s (keep (read_of s x).answer x l) ≡ session_after (read_of s x).session l
  unfolding session_after
  kept-after l = by (read_owed t x) read_step
    where
      -- by what is owed
      by : (o : Seen) → read_of s x ≡ step_for s x o → session_after s (keep (read_of s x).answer x l) ≡ session_after (read_of s x).session l
      by (gives (cold n)) e = ap (λ (r : Step). session_after s (keep r.answer x l)) e
      by (gives (at d)) e = ap (λ (r : Step). session_after s (keep r.answer x l)) e
      by (refused n) e = ap (λ (r : Step). session_after s (keep r.answer x l)) e ∙ sym (ap (λ (r : Step). session_after r.session l) e)

-- what each of a list of calls answers
calls-answer : (calls : List ℕ) (s : Session) (t : List ℕ) → Stands s t → map seen_of (answers_of s calls) ≡ owed t calls
unfolding answers_of owed
calls-answer [] s t g = refl
calls-answer (x ∷ xs) s t g = rw (read-owed s t g x, calls-answer xs (read_of s x).session (grown (read_owed t x) t x) (read-grown s t g x))

-- a read call is refused exactly under the condition of 8, or else of 9
pub calls-owed : (reads : List ℕ) → map seen_of (answers_of fresh reads) ≡ owed [] reads
calls-owed reads = calls-answer reads fresh [] fresh-stands

-- after a list of calls the session stands for the reads accepted
calls-stand : (calls : List ℕ) (s : Session) (t : List ℕ) → Stands s t → Stands (session_after s calls) (t ++ accepted s calls)
unfolding session_after accepted
calls-stand [] s t g = rw append-nil g
calls-stand (x ∷ xs) s t g =
    rw (read_kept s t g x (accepted (read_of s x).session xs)) (calls-stand xs (read_of s x).session (grown (read_owed t x) t x) (read-grown s t g x))

-- a refused read leaves no trace: the session is the one that the accepted reads alone leave
no-trace-from : (calls : List ℕ) (s : Session) (t : List ℕ) → Stands s t → session_after s calls ≡ session_after s (accepted s calls)
unfolding session_after accepted
no-trace-from [] s t g = refl
no-trace-from (x ∷ xs) s t g =
    no-trace-from xs (read_of s x).session (grown (read_owed t x) t x) (read-grown s t g x)
    ∙ sym (kept-after s t g x (accepted (read_of s x).session xs))

-- reads one after the other
after-append : (a b : List ℕ) (s : Session) → session_after s (a ++ b) ≡ session_after (session_after s a) b
unfolding session_after
after-append [] b s = refl
after-append (x ∷ a) b s = after-append a b (read_of s x).session

-- a read of the session that reading t leaves: the session is the one that reading the log as it grows leaves
pub read-after : (s : Session) (t : List ℕ) → Stands s t → (x : ℕ) → s ≡ session_after fresh t
    → (read_of s x).session ≡ session_after fresh (grown (read_owed t x) t x)
unfolding session_after
read-after s t g x e =
    sym (kept-after s t g x [])
    ∙ ap (λ (r : Session). session_after r (keep (read_of s x).answer x [])) e
    ∙ sym (after-append t (keep (read_of s x).answer x []) fresh)
    ∙ ap (session_after fresh) (read_kept s t g x [] ∙ append-nil (grown (read_owed t x) t x))

-- so from a new session
pub no-trace : (calls : List ℕ) → session_after fresh calls ≡ session_after fresh (accepted fresh calls)
no-trace calls = no-trace-from calls fresh [] fresh-stands

-- within the limits no read is one too many
pub within-reads : (t u : List ℕ) (x : ℕ) → Within (t ++ (x ∷ u)) → eqb (length t) max_reads ≡ false
within-reads t u x w = ne_eqb (length t) max_reads (λ e. omega (arith, w.reads, length-append t (x ∷ u)))

-- nor an extent
pub within-extents : (t u : List ℕ) (x : ℕ) → Within (t ++ (x ∷ u)) → over t x ≡ false
within-extents t u x w = by (mem x t) refl
  where
    -- by whether x was read
    by : (m : Bool) → mem x t ≡ m → (not m && eqb (length (firsts t)) max_extents) ≡ false
    by true e = refl
    by false e =
        let g : length (firsts (t ++ (x ∷ []))) ≤ length (firsts (t ++ (x ∷ u))) = rw append_assoc at (firsts-longer u (t ++ (x ∷ []))) in
        let k : length (firsts (t ++ (x ∷ []))) ≡ suc (length (firsts t)) = rw (firsts-new x t e, length-append) (omega arith) in
        ne_eqb (length (firsts t)) max_extents (λ q. omega (arith, w.extents))

-- so a read is owed its distance
within-owed : (t u : List ℕ) (x : ℕ) → Within (t ++ (x ∷ u)) → read_owed t x ≡ gives (distance t x)
unfolding read_owed
within-owed t u x w =
    let f = within-front t (x ∷ u) w in
    rw (past-reads t x f, past-extents t x f, within-reads t u x w, within-extents t u x w)

-- and every read is accepted
pub all-accepted : (u : List ℕ) (s : Session) (t : List ℕ) → Stands s t → Within (t ++ u) → accepted s u ≡ u
unfolding accepted
all-accepted [] s t g w = refl
all-accepted (x ∷ u) s t g w =
    by (read_of s x).answer (read-owed s t g x ∙ within-owed t u x w)
    ∙ ap {B = List ℕ} (λ l. x ∷ l) (all-accepted u (read_of s x).session (t ++ (x ∷ [])) stands (rw append_assoc w))
  where
    -- an answer that is no refusal is kept
    by : (a : Result Answer Refusal) → seen_of a ≡ gives (distance t x) → keep a x (accepted (read_of s x).session u) ≡ x ∷ accepted (read_of s x).session u
    by (Ok (Cold n k)) e = refl
    by (Ok (Distance d n k)) e = refl
    by (Err why) e = let z : ◌≡◌ {A = ℕ} 0 1 = cc in absurd (omega arith)

    -- the log grows by the read
    stands : Stands (read_of s x).session (t ++ (x ∷ []))
    stands = rw (within-owed t u x w) at (read-grown s t g x)

-- a trace within the limits is read whole
pub trace-stands : (t : List ℕ) → Within t → Stands (session_after fresh t) t
trace-stands t w = rw (all-accepted t fresh [] fresh-stands w) at (calls-stand t fresh [] fresh-stands)

-- within the limits the calls are owed the LRU stack's distances
owed-within : (u t : List ℕ) → Within (t ++ u) → owed t u ≡ map gives (reuses (stack t) u)
unfolding owed reuses touch
owed-within [] t w = refl
owed-within (x ∷ u) t w =
    let h = owed-within u (t ++ (x ∷ [])) (rw append_assoc w) in
    rw (within-owed t u x w)
    (ap {B = List Seen} (λ a. a ∷ owed (t ++ (x ∷ [])) u) (ap gives (sym (distance-law t x)))
    ∙ ap {B = List Seen} (λ l. gives (depth (stack t) x) ∷ l) (h ∙ ap (λ (l : List ℕ). map gives (reuses l u)) (stack_snoc t x)))

-- so the uncut reading answers them
pub uncut : (t : List ℕ) → Within t → map seen_of (answers_of fresh t) ≡ map gives (reuses [] t)
unfolding stack
uncut t w = calls-owed t ∙ owed-within t [] w

-- what was seen, as the buffer writes it
abbrev seen_word : Seen → ℕ
seen_word (gives r) = word_of r
seen_word (refused n) = 0

-- so of a list of answers
seen-words : (l : List (Result Answer Refusal)) → map seen_word (map seen_of l) ≡ map written l
seen-words [] = refl
seen-words (Ok (Cold n k) ∷ l) = ap {B = List ℕ} (λ r. word_of (cold n) ∷ r) (seen-words l)
seen-words (Ok (Distance d n k) ∷ l) = ap {B = List ℕ} (λ r. word_of (at d) ∷ r) (seen-words l)
seen-words (Err why ∷ l) = ap {B = List ℕ} (λ r. 0 ∷ r) (seen-words l)

-- the uncut reading's answers as the buffer writes them
pub uncut-words : (t : List ℕ) → Within t → map written (answers_of fresh t) ≡ map word_of (reuses [] t)
uncut-words t w = sym (seen-words (answers_of fresh t)) ∙ ap (map seen_word) (uncut t w) ∙ map-map seen_word gives (reuses [] t)
