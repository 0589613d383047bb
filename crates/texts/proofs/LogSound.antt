-- What has been read is the text so far, and keeps the limits: the accepted texts are those of traces within the limits.
use mathlib.Core.Path.{◌≡◌, refl, sym, ap, subst, ◌∙◌}
use Prim.Native.Nat.{ℕ, suc, ◌≤◌, ◌<◌}
use native.Mathlib.Omega.{arith}
use mathlib.Core.List.{List, [], ◌∷◌, ◌++◌, append_assoc}
use mathlib.Core.Bool.{Bool, true, false}
use mathlib.Core.Option.{Option, none, some}
use mathlib.Core.Logic.{◌↔◌}
use lib.Dec.{eqb, ltb, leb}
use lib.ListN.{length, length-append}
use borrow.Author.Tests.{eqb-true, ltb-true, ltb-false, leb-true, leb-false}
use Rattle.reuse.specs.Limits.{max_reads, max_extents}
use Rattle.texts.specs.Limits.{max_extent}
use Rattle.texts.specs.Digits.{too_long}
use Rattle.texts.specs.Words.{after}
use Rattle.texts.specs.Lines.{Answer, to, no, got, counting}
use Rattle.reuse.specs.Lists.{mem, firsts}
use Rattle.texts.specs.Logs.{trace_word, row_text, reads_text, log_text, Row, row, bad_row, row_of, Logged, empty, inside, whole, over_read, read, row_by, log_row, head_by, log_step, step_by, log_room, log_feed, feed, log_done, finish, log_of, Below, Within}
use Rattle.texts.specs.LogFaults.{rows, so_far, Kept}
use Rattle.texts.proofs.Tests.{never}
use Rattle.texts.proofs.Faults.{Reads, unless-to, content}
use Rattle.texts.proofs.Words.{after-sound}
use Rattle.reuse.proofs.Lists.{by-test, firsts-new, firsts-known}
use Rattle.texts.proofs.LogLines.{row-sound}
use Rattle.texts.proofs.LogRuns.{round_trip}

-- a proof by what the first line is: `(trace`, `(trace)`, or refused with 1
pub by-head : {G : Type 0} (limits : Bool) (line : List ℕ) (a : Answer (Logged (List ℕ))) → log_step limits empty line ≡ a
    → (line ≡ trace_word → to (inside []) ≡ a → G) → (line ≡ trace_word ++ (41 ∷ []) → to (whole []) ≡ a → G) → (no 1 ≡ a → G) → G
unfolding step_by head_by
by-head {G} limits line a e opens empties bads = by_word (after trace_word line) refl e
  where
    by_word : (o : Option (List ℕ)) → after trace_word line ≡ o → head_by [] o ≡ a → G
    by_word none q p = bads p
    by_word (some []) q p = opens (after-sound trace_word line [] q) p
    by_word (some (x ∷ [])) q p =
        by-test (eqb x 41)
        (λ t. empties (after-sound trace_word line (x ∷ []) q ∙ ap (λ (y : ℕ). trace_word ++ (y ∷ [])) (eqb-true x 41 t)) (sym (rw t) ∙ p))
        (λ t. bads (sym (rw t) ∙ p))
    by_word (some (x ∷ y ∷ l)) q p = bads p

-- a line that goes on after reads is a read's
pub by_row : {G : Type 0} (limits : Bool) (t line : List ℕ) (s' : Logged (List ℕ)) → log_step limits (inside t) line ≡ to s'
    → ((x : ℕ) (ends : Bool) → line ≡ row_text x ends → x < too_long → counting limits (over_read t x) ≡ 0 → read ends (t ++ (x ∷ [])) ≡ s' → G) → G
unfolding step_by row_by
by_row {G} limits t line s' e a = by-line (row_of line) refl e
  where
    by-line : (r : Row) → row_of line ≡ r → log_row limits t r ≡ to s' → G
    by-line bad_row q p = never (cc)
    by-line (row x ends) q p =
        let u = unless-to (counting limits (over_read t x)) (to (read ends (t ++ (x ∷ [])))) s' p in
        let s = row-sound line x ends q in
        let r = u.1 in
        a x ends s.0 s.1 u.0 (cc)

-- nothing goes on after the whole trace
pub whole-ends : {G : Type 0} (limits : Bool) (t line : List ℕ) (s' : Logged (List ℕ)) → log_step limits (whole t) line ≡ to s' → G
unfolding step_by
whole-ends limits t line s' e = never (cc)

-- one read more
rows_more : (t : List ℕ) (x : ℕ) → rows (t ++ (x ∷ [])) ≡ rows t ++ (row_text x false ++ (10 ∷ []))
rows_more [] x = refl
rows_more (y ∷ t) x =
    ap (λ (l : List ℕ). row_text y false ++ (10 ∷ l)) (rows_more t x)
    ∙ sym (append_assoc (row_text y false) (10 ∷ rows t) (row_text x false ++ (10 ∷ [])))

-- the last read
rows_last : (t : List ℕ) (y x : ℕ) → reads_text y (t ++ (x ∷ [])) ≡ rows (y ∷ t) ++ reads_text x []
unfolding reads_text
rows_last [] y x = sym (append_assoc (row_text y false) (10 ∷ []) (reads_text x []))
rows_last (z ∷ t) y x =
    ap (λ (l : List ℕ). row_text y false ++ (10 ∷ l)) (rows_last t z x)
    ∙ sym (append_assoc (row_text y false) (10 ∷ rows (z ∷ t)) (reads_text x []))

-- the whole text, from the reads so far and the last
pub whole-text : (t : List ℕ) (x : ℕ) → log_text (t ++ (x ∷ [])) ≡ so_far (inside t) ++ reads_text x []
unfolding log_text
whole-text [] x = refl
whole-text (y ∷ t) x = ap (λ (l : List ℕ). trace_word ++ (10 ∷ l)) (rows_last t y x)

-- a read's line adds itself
read-adds : (t : List ℕ) (x : ℕ) (ends : Bool) → so_far (inside t) ++ (row_text x ends ++ (10 ∷ [])) ≡ so_far (read ends (t ++ (x ∷ [])))
unfolding reads_text
read-adds t x false = rw (rows_more t x)
read-adds t x true = sym (whole-text t x)

-- each line adds itself
pub log-adds : (limits : Bool) (s : Logged (List ℕ)) (line : List ℕ) (s' : Logged (List ℕ)) → log_step limits s line ≡ to s' → so_far s ++ (line ++ (10 ∷ [])) ≡ so_far s'
unfolding log_text
log-adds limits (whole t) line s' e = whole-ends limits t line s' e
log-adds limits empty line s' e =
    by-head limits line (to s') e
    (λ l r. let z : inside [] ≡ s' = cc in ap (λ (x : List ℕ). x ++ (10 ∷ [])) l ∙ ap so_far z)
    (λ l r. let z : whole [] ≡ s' = cc in ap (λ (x : List ℕ). x ++ (10 ∷ [])) l ∙ ap so_far z)
    (λ r. never (cc))
log-adds limits (inside t) line s' e =
    by_row limits t line s' e
    (λ x ends l h o z. ap (λ (r : List ℕ). so_far (inside t) ++ (r ++ (10 ∷ []))) l ∙ read-adds t x ends ∙ ap so_far z)

-- one number more
pub below_more : (m : ℕ) (t : List ℕ) (x : ℕ) → Below m t → x < m → Below m (t ++ (x ∷ []))
below_more m [] x h g = (g, tt)
below_more m (y ∷ t) x h g = (h.0, below_more m t x h.1 g)

-- a proof by the limit that a read breaks
pub by_over : {G : Type 0} (t : List ℕ) (x : ℕ)
    → (max_extent < x → over_read t x ≡ 2 → G)
    → (x ≤ max_extent → max_reads ≤ length t → over_read t x ≡ 8 → G)
    → (x ≤ max_extent → length t < max_reads → mem x t ≡ false → max_extents ≤ length (firsts t) → over_read t x ≡ 9 → G)
    → (x ≤ max_extent → length t < max_reads → (mem x t ≡ false → length (firsts t) < max_extents) → over_read t x ≡ 0 → G)
    → G
by_over t x big many kinds fits =
    by-test (ltb max_extent x)
    (λ a. big (ltb-true max_extent x a) (rw a))
    (λ a. by-test (leb max_reads (length t))
    (λ b. many (ltb-false max_extent x a) (leb-true max_reads (length t) b) (rw (a, b)))
    (λ b. by-test (mem x t)
    (λ c. fits (ltb-false max_extent x a) (leb-false max_reads (length t) b) (λ m. never (cc)) (rw (a, b, c)))
    (λ c. by-test (leb max_extents (length (firsts t)))
    (λ d. kinds (ltb-false max_extent x a) (leb-false max_reads (length t) b) c (leb-true max_extents (length (firsts t)) d) (rw (a, b, c, d)))
    (λ d. fits (ltb-false max_extent x a) (leb-false max_reads (length t) b) (λ m. leb-false max_extents (length (firsts t)) d) (rw (a, b, c, d))))))

-- one read more has at most one different extent more
kinds-more : (t : List ℕ) (x : ℕ) → length (firsts t) ≤ max_extents → (mem x t ≡ false → length (firsts t) < max_extents) → length (firsts (t ++ (x ∷ []))) ≤ max_extents
kinds-more t x h g =
    by-test (mem x t)
    (λ m. rw (firsts-known x t m) h)
    (λ m. rw (firsts-new x t m, length-append) (let l = g m in omega arith))

-- one read more that breaks no limit keeps them
within_more : (t : List ℕ) (x : ℕ) → Within t → over_read t x ≡ 0 → Within (t ++ (x ∷ []))
within_more t x w e =
    by_over t x
    (λ a q. let z : 2 ≡ 0 = sym q ∙ e in absurd (omega arith))
    (λ a b q. let z : 8 ≡ 0 = sym q ∙ e in absurd (omega arith))
    (λ a b c d q. let z : 9 ≡ 0 = sym q ∙ e in absurd (omega arith))
    (λ a b c q. record {
      extents = below_more (suc max_extent) t x w.extents (omega arith);
      reads = rw length-append (omega arith);
      kinds = kinds-more t x w.kinds c;
    })

-- a property of reads so far and of a whole trace, by whether the text ends
pub by_read : (P : Logged (List ℕ) → Type 0) (t : List ℕ) (ends : Bool) → P (inside t) → P (whole t) → P (read ends t)
by_read P t false a b = a
by_read P t true a b = b

-- the empty trace is within the limits
none_within : Within []
unfolding firsts
none_within = record { extents = tt; reads = omega arith; kinds = omega arith }

-- each line keeps the limits
pub log-keeps : (s : Logged (List ℕ)) (line : List ℕ) (s' : Logged (List ℕ)) → Kept s → log_step true s line ≡ to s' → Kept s'
log-keeps (whole t) line s' h e = whole-ends true t line s' e
log-keeps empty line s' h e =
    by-head true line (to s') e
    (λ l r. let z : inside [] ≡ s' = cc in subst Kept z none_within)
    (λ l r. let z : whole [] ≡ s' = cc in subst Kept z none_within)
    (λ r. never (cc))
log-keeps (inside t) line s' h e =
    by_row true t line s' e
    (λ x ends l b o z. let w = within_more t x h o in subst Kept z (by_read Kept (t ++ (x ∷ [])) ends w w))

-- the text so far, and the limits
log-reads : Reads (log_step true) empty so_far Kept
log-reads = record { adds = log-adds true; keeps = log-keeps; nothing = refl; kept = tt }

-- an accepted text is the text of its trace, which is within the limits
pub sound : (text t : List ℕ) → log_of text ≡ got t → (text ≡ log_text t) × Within t
unfolding log_of finish feed log_feed
sound text t e = let c = content log_room log_done log-reads text t e in by_state c.0 c.1 c.2 c.3
  where
    by_state : (s : Logged (List ℕ)) → Kept s → text ≡ so_far s → log_done s ≡ some t → (text ≡ log_text t) × Within t
    by_state empty k q d = never (cc)
    by_state (inside u) k q d = never (cc)
    by_state (whole u) k q d = let z : u ≡ t = cc in (q ∙ ap log_text z, subst Within z k)

-- exactly the texts of traces within the limits are accepted
pub accepted : (text t : List ℕ) → (log_of text ≡ got t) ↔ ((text ≡ log_text t) × Within t)
accepted text t = (sound text t, λ p. ap log_of p.0 ∙ round_trip t p.1)
