-- The text of a trace, read: the trace comes back, in whatever pieces the text is fed.
use mathlib.Core.Path.{◌≡◌, refl, ap, ◌∙◌}
use Prim.Native.Nat.{ℕ, suc, ◌≤◌, ◌<◌}
use native.Mathlib.Omega.{arith}
use mathlib.Core.List.{List, [], ◌∷◌, ◌++◌, append_assoc}
use mathlib.Core.Bool.{Bool, true, false}
use lib.ListN.{length, length-append}
use borrow.Author.Tests.{le-ltb, lt-leb, lt-ltb, ltb-true}
use Rattle.reuse.specs.Limits.{max_reads, max_extents}
use Rattle.texts.specs.Limits.{max_extent}
use Rattle.texts.specs.Digits.{too_long}
use Rattle.texts.specs.Words.{word_at, after}
use Rattle.texts.specs.Lines.{Answer, to, at, got, counting, unless, line_done, byte, feed_by, finish_by, line_count}
use Rattle.reuse.specs.Lists.{mem, firsts}
use Rattle.texts.specs.Logs.{trace_word, row_text, reads_text, log_text, Logged, empty, inside, whole, over_read, read, row_by, log_row, head_by, log_step, step_by, longest_line, log_room, log_feed, State, start, feed, log_done, finish, log_of, Below, Ruled, Within}
use Rattle.texts.proofs.Feeding.{feed-append, by_bytes, feed-line}
use Rattle.reuse.proofs.Lists.{by-test, firsts-new, firsts-longer}
use Rattle.texts.proofs.LogLines.{row_reads, row_count, row-length}

-- a text fed in pieces: a, then b, is a and b end to end
pub feed-pieces : (s : State) (a b : List ℕ) → feed s (a ++ b) ≡ feed (feed s a) b
unfolding feed log_feed
feed-pieces s a b = feed-append (log_step true) log_room s a b

-- one byte is one step
pub feed-byte : (s : State) (x : ℕ) → feed s (x ∷ []) ≡ byte (log_step true) log_room s x
unfolding feed log_feed feed_by
feed-byte s x = refl

-- what is held of a line stays short
pub held-short : (l : List ℕ) (k : ℕ) (held : List ℕ) (s : Logged (List ℕ)) (j : ℕ) (rest : List ℕ) (s' : Logged (List ℕ)) → length held ≤ longest_line → feed (at k held s) l ≡ at j rest s' → length rest ≤ longest_line
unfolding feed log_feed
held-short l k held s j rest s' h e =
    by_bytes (log_step true) log_room (λ l k held s. length held ≤ longest_line → length rest ≤ longest_line) j rest s' (λ b. b)
    (λ x l k held s s₁ t q g b. g (omega arith))
    (λ x l k held s t r g b. g (rw length-append (let c = ltb-true (length held) longest_line r in omega arith)))
    l k held s e h

-- reads that break no limit that counts, after the reads t
abbrev Fits : Bool → List ℕ → List ℕ → Type 0
Fits limits t [] = Unit
Fits limits t (x ∷ xs) = (x < too_long) × (counting limits (over_read t x) ≡ 0) × Fits limits (t ++ (x ∷ [])) xs

module _ (limits : Bool) where
  -- a line that is ended, then the rest
  log-line : (s : Logged (List ℕ)) (k : ℕ) (line rest : List ℕ) → line_count line ≡ 0 → length line ≤ longest_line
      → log_feed limits (at k [] s) (line ++ (10 ∷ rest)) ≡ log_feed limits (line_done k (log_step limits s line)) rest
  unfolding log_feed
  log-line s k line rest h l = feed-line (log_step limits) log_room line k s rest h (λ n g. lt-ltb n longest_line (omega arith))

  -- a read's line
  row_line : (t : List ℕ) (k x : ℕ) (ends : Bool) (rest : List ℕ) → x < too_long → counting limits (over_read t x) ≡ 0
      → log_feed limits (at k [] (inside t)) (row_text x ends ++ (10 ∷ rest)) ≡ log_feed limits (at (suc k) [] (read ends (t ++ (x ∷ [])))) rest
  unfolding step_by row_by unless line_done
  row_line t k x ends rest h g =
      log-line (inside t) k (row_text x ends) rest (row_count x ends) (row-length x ends h)
      ∙ ap (λ (w : Answer (Logged (List ℕ))). log_feed limits (line_done k w) rest)
      (ap (log_row limits t) (row_reads x ends h) ∙ ap (λ (z : ℕ). unless z (to (read ends (t ++ (x ∷ []))))) g)

  -- the reads' lines
  rows_run : (xs : List ℕ) (x : ℕ) (t : List ℕ) (k : ℕ) → Fits limits t (x ∷ xs) → (j : ℕ) × (log_feed limits (at k [] (inside t)) (reads_text x xs) ≡ at j [] (whole (t ++ (x ∷ xs))))
  unfolding log_feed feed_by reads_text
  rows_run [] x t k h = (suc k, row_line t k x true [] h.0 h.1)
  rows_run (y ∷ xs) x t k h =
      let r = rows_run xs y (t ++ (x ∷ [])) (suc k) h.2 in (
        r.0,
        row_line t k x false (reads_text y xs) h.0 h.1
            ∙ r.1
            ∙ ap (λ (z : List ℕ). at r.0 [] (whole z)) (append_assoc t (x ∷ []) (y ∷ xs)),
      )

  -- the whole text
  text-runs : (t : List ℕ) → Fits limits [] t → (j : ℕ) × (log_feed limits start (log_text t) ≡ at j [] (whole t))
  unfolding log_text line_done step_by head_by after word_at line_count log_feed feed_by
  text-runs [] h = (1, log-line empty 0 (trace_word ++ (41 ∷ [])) [] refl (omega arith))
  text-runs (x ∷ t) h = let r = rows_run t x [] 1 h in (r.0, log-line empty 0 trace_word (reads_text x t) refl (omega arith) ∙ r.1)

-- a new extent leaves room for itself
fewer : (t : List ℕ) (x : ℕ) (xs : List ℕ) → mem x t ≡ false → length (firsts (t ++ (x ∷ xs))) ≤ max_extents → length (firsts t) < max_extents
fewer t x xs m c =
    let h : length (firsts (t ++ (x ∷ []))) ≤ length (firsts (t ++ (x ∷ xs))) = rw append_assoc at (firsts-longer xs (t ++ (x ∷ []))) in
    omega (arith, simp (firsts-new x t m, length-append) at h)

-- a read that breaks no limit
over-read : (t : List ℕ) (x : ℕ) → x ≤ max_extent → length t < max_reads → (mem x t ≡ false → length (firsts t) < max_extents) → over_read t x ≡ 0
over-read t x a b c =
    rw (le-ltb max_extent x a, lt-leb max_reads (length t) b)
    (by-test (mem x t) (λ m. rw m) (λ m. rw (m, lt-leb max_extents (length (firsts t)) (c m))))

-- within the limits no read breaks one
fits-limits : (xs t : List ℕ) → Below (suc max_extent) xs → length (t ++ xs) ≤ max_reads → length (firsts (t ++ xs)) ≤ max_extents → Fits true t xs
fits-limits [] t a b c = tt
fits-limits (x ∷ xs) t a b c =
    let h = a.0 in (
      omega arith,
      over-read t x (omega arith) (omega (arith, simp length-append at b)) (λ m. fewer t x xs m c),
      fits-limits xs (t ++ (x ∷ [])) a.1 (rw append_assoc b) (rw append_assoc c),
    )

-- without limits, a trace of the rule breaks none
fits-rule : (xs t : List ℕ) → Ruled xs → Fits false t xs
fits-rule [] t h = tt
fits-rule (x ∷ xs) t h = (h.0, refl, fits-rule xs (t ++ (x ∷ [])) h.1)

-- the text of a trace of the rule is read as that trace, without limits
pub rule-runs : (t : List ℕ) → Ruled t → (j : ℕ) × (log_feed false start (log_text t) ≡ at j [] (whole t))
rule-runs t r = text-runs false t (fits-rule t [] r)

-- the text of a trace within the limits is read as that trace
pub round_trip : (t : List ℕ) → Within t → log_of (log_text t) ≡ got t
unfolding log_of finish feed finish_by
round_trip t w = ap (finish_by log_done) (text-runs true t (fits-limits t [] w.extents w.reads w.kinds)).1
