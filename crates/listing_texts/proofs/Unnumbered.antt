-- A piece taken without counting lines: line by line, and at the end of the text.
use mathlib.Core.Path.{◌≡◌, refl, sym, ap, ◌∙◌}
use Prim.Native.Nat.{ℕ, suc, ◌+◌, ◌≤◌, ◌<◌}
use native.Mathlib.Omega.{arith}
use mathlib.Core.List.{List, [], ◌∷◌, ◌++◌}
use mathlib.Core.Bool.{true, false}
use lib.Dec.{eqb}
use lib.ListN.{length, length-append}
use borrow.Author.Tests.{lt-ltb, le-ltb}
use Rattle.texts.specs.Lines.{Answer, to, no, at, stopped, Read, refused, byte, feed_by, finish_by, line_done, line_count}
use Rattle.texts.specs.Logs.{longest_line, log_room, empty, inside, whole}
use Rattle.texts.proofs.Tests.{never}
use Rattle.texts.proofs.Feeding.{count-end, count-append, feed-append, absorb, feed-rest, by_byte}
use Rattle.listing_texts.specs.Tallies.{Tally}
use Rattle.listing_texts.specs.Feeding.{Taken, take_line, State, take_piece, state_by, unnumbered, taken_whole, printed_by, printed_at, verdict_by, verdict_at}

-- the lines before do not matter
pub shift : (l : List ℕ) (k j : ℕ) (held : List ℕ) (s : Taken) → unnumbered (take_piece (at k held s) l) ≡ unnumbered (take_piece (at j held s) l)
unfolding take_piece feed_by
shift [] k j held s = refl
shift (x ∷ l) k j held s =
    by_byte take_line log_room k held s x
    (λ s₁ e q f. by_byte take_line log_room j held s x
    (λ s₂ d r g. let z : s₁ ≡ s₂ = cc in ap unnumbered (f l) ∙ shift l (suc k) (suc j) [] s₁ ∙ ap (λ (v : Taken). unnumbered (take_piece (at (suc j) [] v) l)) z ∙ sym (ap unnumbered (g l)))
    (λ n d r g. never (cc))
    (λ d r g. never (cc))
    (λ d r g. never (cc)))
    (λ n e q f. by_byte take_line log_room j held s x
    (λ s₂ d r g. never (cc))
    (λ m d r g. let z : n ≡ m = cc in ap unnumbered (f l) ∙ ap (λ (v : ℕ). stopped 0 v) z ∙ sym (ap unnumbered (g l)))
    (λ d r g. never (cc))
    (λ d r g. never (cc)))
    (λ e r f. by_byte take_line log_room j held s x
    (λ s₂ d q g. never (cc))
    (λ m d q g. never (cc))
    (λ d q g. ap unnumbered (f l) ∙ shift l k j (held ++ (x ∷ [])) s ∙ sym (ap unnumbered (g l)))
    (λ d q g. never (cc)))
    (λ e r f. by_byte take_line log_room j held s x
    (λ s₂ d q g. never (cc))
    (λ m d q g. never (cc))
    (λ d q g. never (cc))
    (λ d q g. ap unnumbered (f l) ∙ sym (ap unnumbered (g l))))

-- after a line, likewise
after_line : (k : ℕ) (a : Answer Taken) (l : List ℕ) → unnumbered (take_piece (line_done k a) l) ≡ unnumbered (take_piece (state_by a []) l)
unfolding line_done take_piece
after_line k (to s) l = shift l (suc k) 0 [] s
after_line k (no n) l = ap unnumbered (absorb take_line log_room (suc k) n l) ∙ sym (ap unnumbered (absorb take_line log_room 0 n l))

-- nothing more is taken
pub take_none : (s : State) → take_piece s [] ≡ s
unfolding take_piece feed_by
take_none s = refl

-- a refused text stays refused
pub stay : (n : ℕ) (l : List ℕ) → take_piece (stopped 0 n) l ≡ stopped 0 n
unfolding take_piece
stay n l = absorb take_line log_room 0 n l

module _ (s : Taken) (held l : List ℕ) (fits : length held ≤ longest_line) where
  -- there is room for a line's bytes
  roomy : (a : List ℕ) → length held + length a ≤ longest_line → (n : ℕ) → n < length held + length a → log_room n ≡ true
  roomy a h n g = lt-ltb n longest_line (omega arith)

  -- a line that does not end is held
  pub kept : line_count l ≡ 0 → length held + length l ≤ longest_line → take_piece (at 0 held s) l ≡ at 0 (held ++ l) s
  unfolding take_piece
  kept c h = feed-rest take_line log_room l 0 held s c (roomy l h)

  -- a line that ends
  pub ended : (a rest : List ℕ) → l ≡ a ++ (10 ∷ rest) → line_count a ≡ 0 → length held + length a ≤ longest_line
      → unnumbered (take_piece (at 0 held s) l) ≡ unnumbered (take_piece (state_by (take_line s (held ++ a)) []) rest)
  unfolding take_piece feed_by byte
  ended a rest e c h =
      ap (λ (v : List ℕ). unnumbered (take_piece (at 0 held s) v)) e
      ∙ ap unnumbered (feed-append take_line log_room (at 0 held s) a (10 ∷ rest))
      ∙ ap (λ (v : State). unnumbered (feed_by take_line log_room v (10 ∷ rest))) (feed-rest take_line log_room a 0 held s c (roomy a h))
      ∙ after_line 0 (take_line s (held ++ a)) rest

  -- a line that is too long
  pub too_long_lem : (a : List ℕ) (x : ℕ) (rest : List ℕ) → l ≡ a ++ (x ∷ rest) → line_count (a ++ (x ∷ [])) ≡ 0 → length held + length a ≡ longest_line
      → unnumbered (take_piece (at 0 held s) l) ≡ stopped 0 1
  unfolding take_piece
  too_long_lem a x rest e c h =
      let n : line_count a + line_count (x ∷ []) ≡ 0 = sym (count-append a (x ∷ [])) ∙ c in
      let o : line_count a ≡ 0 = omega arith in
      let w : length (held ++ a) ≡ longest_line = length-append held a ∙ h in
      ap (λ (v : List ℕ). unnumbered (take_piece (at 0 held s) v)) e
      ∙ ap unnumbered (feed-append take_line log_room (at 0 held s) a (x ∷ rest))
      ∙ ap (λ (v : State). unnumbered (feed_by take_line log_room v (x ∷ rest))) (feed-rest take_line log_room a 0 held s o (roomy a (omega arith)))
      ∙ by_byte take_line log_room 0 (held ++ a) s x
      (λ s₁ d q f. absurd (not_end d n))
      (λ m d q f. absurd (not_end d n))
      (λ d q f. let z : false ≡ true = sym (le-ltb (length (held ++ a)) longest_line (omega (arith, w))) ∙ q in never (cc))
      (λ d q f. ap unnumbered (f rest))
    where
      not_end : eqb x 10 ≡ true → line_count a + line_count (x ∷ []) ≡ 0 → ⊥
      not_end d n = let z = count-end x [] d in omega (arith, z, n)

-- lines were not counted in the state after an answer
pub unnumbered-same : (a : Answer Taken) (held : List ℕ) → unnumbered (state_by a held) ≡ state_by a held
unnumbered-same (to s) held = refl
unnumbered-same (no n) held = refl

-- what comes after does not depend on how many lines stand before
pub uncounted : (s : State) (l : List ℕ) → unnumbered (take_piece (unnumbered s) l) ≡ unnumbered (take_piece s l)
unfolding take_piece
uncounted (at k held s) l = shift l 0 k held s
uncounted (stopped k n) l = ap unnumbered (absorb take_line log_room 0 n l) ∙ sym (ap unnumbered (absorb take_line log_room k n l))

-- nor does what the answer at the end gives, where that is the same for every line
answer-uncounted : {A : Type 0} (give : Read Tally → A) → ((j k n : ℕ) → give (refused j n) ≡ give (refused k n))
    → (s : State) → give (finish_by taken_whole (unnumbered s)) ≡ give (finish_by taken_whole s)
unfolding finish_by
answer-uncounted give same (at k [] empty) = same 1 (suc k) 1
answer-uncounted give same (at k [] (inside t)) = same 1 (suc k) 1
answer-uncounted give same (at k [] (whole t)) = refl
answer-uncounted give same (at k (x ∷ held) s) = same 1 (suc k) 1
answer-uncounted give same (stopped k n) = same 0 k n

-- nor does the output
pub printed-uncounted : (s : State) → printed_at (unnumbered s) ≡ printed_at s
unfolding printed_at
printed-uncounted s = answer-uncounted printed_by (λ j k n. refl) s

-- nor does the verdict
pub verdict-uncounted : (s : State) → verdict_at (unnumbered s) ≡ verdict_at s
unfolding verdict_at
verdict-uncounted s = answer-uncounted verdict_by (λ j k n. refl) s
