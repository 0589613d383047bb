-- What the refusals of a log text mean: 1 as the paper says, 2, 8 and 9 from a broken limit only, at the earliest faulty line.
use mathlib.Core.Path.{◌≡◌, refl, sym, ap, subst, ◌∙◌}
use Prim.Native.Nat.{ℕ, suc, pred}
use native.Mathlib.Omega.{arith}
use mathlib.Core.List.{List, [], ◌∷◌, ◌++◌, append-nil}
use mathlib.Core.Bool.{Bool, true, false}
use Rattle.texts.specs.Digits.{too_long}
use Rattle.texts.specs.Lines.{to, no, refused, unless, first_lines, line_count, Faulty}
use Rattle.texts.specs.Logs.{row_text, reads_text, log_text, Row, row, bad_row, row_of, Logged, empty, inside, whole, over_read, read, row_by, log_row, log_step, step_by, log_room, log_feed, feed, log_done, finish, log_of, Ruled}
use Rattle.texts.specs.LogFaults.{so_far, Kept, Broken, big_extent, many_reads, many_extents, LogOver}
use Rattle.texts.proofs.Tests.{never}
use Rattle.texts.proofs.Faults.{Reads, unless-to, unless-one, unless-no, faulty, before, over}
use Rattle.texts.proofs.LogLines.{row-sound}
use Rattle.texts.proofs.LogRuns.{rule-runs}
use Rattle.texts.proofs.LogSound.{by-head, by_row, whole-ends, whole-text, log-adds, below_more, by_over, by_read, log-keeps}

-- a line that goes on within the limits goes on without them
same : (s : Logged (List ℕ)) (line : List ℕ) (s' : Logged (List ℕ)) → log_step true s line ≡ to s' → log_step false s line ≡ to s'
unfolding step_by row_by unless
same empty line s' e = e
same (whole t) line s' e = e
same (inside t) line s' e = by-line (row_of line) e
  where
    by-line : (r : Row) → log_row true t r ≡ to s' → log_row false t r ≡ to s'
    by-line bad_row p = p
    by-line (row x ends) p = (unless-to (over_read t x) (to (read ends (t ++ (x ∷ [])))) s' p).1

-- no limit has the number 1
read-not-one : (t : List ℕ) (x : ℕ) → over_read t x ≡ 1 → ⊥
read-not-one t x e =
    by_over t x
    (λ a q. let z : 2 ≡ 1 = sym q ∙ e in omega arith)
    (λ a b q. let z : 8 ≡ 1 = sym q ∙ e in omega arith)
    (λ a b c d q. let z : 9 ≡ 1 = sym q ∙ e in omega arith)
    (λ a b c q. let z : 0 ≡ 1 = sym q ∙ e in omega arith)

-- a line refused with 1 is so without the limits
one : (s : Logged (List ℕ)) (line : List ℕ) → log_step true s line ≡ no 1 → log_step false s line ≡ no 1
unfolding step_by row_by unless
one empty line e = e
one (whole t) line e = e
one (inside t) line e = by-line (row_of line) e
  where
    by-line : (r : Row) → log_row true t r ≡ no 1 → log_row false t r ≡ no 1
    by-line bad_row p = p
    by-line (row x ends) p = unless-one (over_read t x) (to (read ends (t ++ (x ∷ [])))) (read-not-one t x) p

-- what a state has read is of the rule
abbrev RuledState : Logged (List ℕ) → Type 0
RuledState empty = Unit
RuledState (inside t) = Ruled t
RuledState (whole t) = Ruled t

-- each line keeps the rule
rule-keeps : (limits : Bool) (s : Logged (List ℕ)) (line : List ℕ) (s' : Logged (List ℕ)) → RuledState s → log_step limits s line ≡ to s' → RuledState s'
rule-keeps limits (whole t) line s' h e = whole-ends limits t line s' e
rule-keeps limits empty line s' h e =
    by-head limits line (to s') e
    (λ l r. let z : inside [] ≡ s' = cc in subst RuledState z tt)
    (λ l r. let z : whole [] ≡ s' = cc in subst RuledState z tt)
    (λ r. never (cc))
rule-keeps limits (inside t) line s' h e =
    by_row limits t line s' e
    (λ x ends l b o z. let w = below_more too_long t x h b in subst RuledState z (by_read RuledState (t ++ (x ∷ [])) ends w w))

-- every state goes on to a text of the rule
viable : (s : Logged (List ℕ)) → RuledState s → (t : List ℕ) × (b : List ℕ) × Ruled t × (log_text t ≡ so_far s ++ b)
viable empty h = ([], log_text [], tt, refl)
viable (inside t) h = (t ++ (0 ∷ []), reads_text 0 [], below_more too_long t 0 h (omega arith), whole-text t 0)
viable (whole t) h = (t, [], h, sym (append-nil (log_text t)))

-- a state keeps the limits and the rule
abbrev Both : Logged (List ℕ) → Type 0
Both s = Kept s × RuledState s

-- the text so far, the limits and the rule
both-reads : Reads (log_step true) empty so_far Both
both-reads =
    record {
      adds = log-adds true;
      keeps = λ s line s' h q. (log-keeps s line s' h.0 q, rule-keeps true s line s' h.1 q);
      nothing = refl;
      kept = (tt, tt);
    }

-- refusal 1 is given where the paper says
pub log-faulty : (text : List ℕ) (k : ℕ) → log_of text ≡ refused k 1 → Faulty Ruled log_text text k
unfolding log_of finish feed log_feed
log-faulty text k e =
    faulty log_room log_done both-reads (log_step false) Ruled log_text same one
    (λ t r. let a = rule-runs t r in (a.0, whole t, a.1, refl))
    (λ s b. viable s b.1) text k e

-- whatever the refusal, the lines before it were read and keep the limits
pub log-before : (text : List ℕ) (k n : ℕ) → log_of text ≡ refused k n → (s : Logged (List ℕ)) × Kept s × (first_lines (pred k) text ≡ so_far s)
unfolding log_of finish feed log_feed
log-before text k n e = let b = before log_room log_done both-reads text k n e in (b.1, b.2.0, b.3)

module _ (t line : List ℕ) (m : ℕ) where
  -- the limit that a read broke
  broken-row : (x : ℕ) (ends : Bool) → line ≡ row_text x ends → over_read t x ≡ m → (m ≡ 0 → ⊥) → Broken t line m
  broken-row x ends l e z =
      by_over t x
      (λ a q. let u : 2 ≡ m = sym q ∙ e in subst (Broken t line) u (big_extent x ends l a))
      (λ a b q. let u : 8 ≡ m = sym q ∙ e in subst (Broken t line) u (many_reads x ends l a b))
      (λ a b c d q. let u : 9 ≡ m = sym q ∙ e in subst (Broken t line) u (many_extents x ends l a b c d))
      (λ a b c q. let u : 0 ≡ m = sym q ∙ e in absurd (z (sym u)))

  -- a line refused by a limit broke one, and goes on without it
  passes : (m ≡ 1 → ⊥) → log_step true (inside t) line ≡ no m → Broken t line m × (s : Logged (List ℕ)) × (log_step false (inside t) line ≡ to s)
  unfolding step_by row_by unless
  passes other e = by-line (row_of line) refl e
    where
      by-line : (r : Row) → row_of line ≡ r → log_row true t r ≡ no m → Broken t line m × (s : Logged (List ℕ)) × (log_row false t r ≡ to s)
      by-line bad_row q p = let u : 1 ≡ m = cc in absurd (other (sym u))
      by-line (row x ends) q p =
          let u = unless-no (over_read t x) (to (read ends (t ++ (x ∷ [])))) m (λ z. never (cc)) p in
          (broken-row x ends (row-sound line x ends q).0 u.0 u.1, u.2, u.3)

-- a refusal other than 1 is a broken limit's
pub log-over : (text : List ℕ) (k n : ℕ) → log_of text ≡ refused k n → (n ≡ 1 → ⊥) → LogOver text k n
unfolding log_of finish feed log_feed step_by
log-over text k n e other =
    let r = over log_room log_done both-reads text k n other e in
    by_state r.state r.line r.rest r.earlier r.refuses r.one_line r.place r.text-is
  where
    by_state : (s : Logged (List ℕ)) (line rest : List ℕ) → Both s → log_step true s line ≡ no n → line_count line ≡ 0 → suc (line_count (so_far s)) ≡ k → text ≡ so_far s ++ (line ++ (10 ∷ rest)) → LogOver text k n
    by_state empty line rest h q c p x =
        by-head true line (no n) q (λ l r. never (cc)) (λ l r. never (cc)) (λ r. let u : 1 ≡ n = cc in absurd (other (sym u)))
    by_state (whole t) line rest h q c p x = let u : 1 ≡ n = cc in absurd (other (sym u))
    by_state (inside t) line rest h q c p x =
        let b = passes t line n other q in
        let v = viable b.1 (rule-keeps false (inside t) line b.1 h.1 b.2) in
        record {
          reads = t;
          line = line;
          rest = rest;
          text-is = x;
          one_line = c;
          place = p;
          earlier = h.0;
          goes_on = (v.0, v.1, v.2, v.3 ∙ ap (λ (z : List ℕ). z ++ v.1) (sym (log-adds false (inside t) line b.1 b.2)));
          broken = b.0;
        }
