-- The line found from the front of a text is the line that the definition cuts out.
use mathlib.Core.Path.{◌≡◌, refl, sym, ap, ◌∙◌}
use Prim.Native.Nat.{ℕ, zero, suc, ◌<◌}
use native.Mathlib.Omega.{arith}
use mathlib.Core.List.{List, [], ◌∷◌, ◌++◌, append_assoc}
use mathlib.Core.Bool.{false}
use mathlib.Core.Logic.{◌⊎◌, inl, inr}
use lib.Dec.{eqb}
use lib.ListN.{length, drop, length-append, length-replicate}
use lib.Seq.{drop_at}
use borrow.Author.Tests.{eqb-true}
use Rattle.texts.specs.Digits.{decimal, too_long, Number, value, bad, number_of}
use Rattle.texts.specs.Words.{spaces, close, word_at, run_of}
use Rattle.texts.specs.Lines.{line_count}
use Rattle.texts.specs.Plans.{join_word, seg_word, join_text, seg_text}
use Rattle.texts.specs.PlanTexts.{Line, seg_line, join_line, bad_line, line_of}
use Rattle.texts.specs.PlanPlaces.{Place, seg_at, join_at, bad_at, join_ends, seg_ends, brackets_at, number_at, form_at, line_at}
use Rattle.reuse.proofs.Lists.{by-test, eqb_same}
use Rattle.texts.proofs.Tests.{never}
use Rattle.texts.proofs.Numbers.{number-sound, number-reads}
use Rattle.texts.proofs.Feeding.{count-other}
use Rattle.texts.proofs.Words.{word_split, run-all, run-stop, run-back}
use Rattle.texts.proofs.PlanLines.{join-count, seg-count, join-reads, seg-reads, join-sound, seg-sound}

-- after the leading spaces
start-at : (d : ℕ) (l : List ℕ) → line_at d (spaces d ++ l) ≡ form_at l
unfolding line_at
start-at d l = rw (run-all d 32 l, eqb_same d, drop_at (spaces d) l d (length-replicate d 32))

-- an opened join is found
pub join-at : (d : ℕ) (rest : List ℕ) → line_at d (join_text d ++ (10 ∷ rest)) ≡ join_at rest
unfolding word_at
join-at d rest = ap (line_at d) (append_assoc (spaces d) join_word (10 ∷ rest)) ∙ start-at d (join_word ++ (10 ∷ rest))

-- a seg is found
pub seg-at : (d n c : ℕ) (rest : List ℕ) → n < too_long → line_at d (seg_text d n c ++ (10 ∷ rest)) ≡ seg_at n c rest
unfolding word_at run_of
seg-at d n c rest h =
    ap (line_at d) (simp append_assoc)
    ∙ start-at d (seg_word ++ (decimal n ++ (41 ∷ (close c ++ (10 ∷ rest)))))
    ∙ rw (number-reads n (close c ++ (10 ∷ rest)) h)
    (rw (run-stop c (length (close c ++ (10 ∷ rest))) 41 10 rest refl (rw (length-append, length-replicate) (omega arith)), drop_at (close c) (10 ∷ rest) c (length-replicate c 41)))

-- every text ends a line, or none
pub split : (l : List ℕ) → (line_count l ≡ 0) ⊎ ((line : List ℕ) × (rest : List ℕ) × (l ≡ line ++ (10 ∷ rest)) × (line_count line ≡ 0))
unfolding line_count
split [] = inl refl
split (x ∷ l) = by-test (eqb x 10) (λ e. inr ([], l, ap (λ (z : ℕ). z ∷ l) (eqb-true x 10 e), refl)) (λ e. on (split l) e)
  where
    on : (line_count l ≡ 0) ⊎ ((line : List ℕ) × (rest : List ℕ) × (l ≡ line ++ (10 ∷ rest)) × (line_count line ≡ 0)) → eqb x 10 ≡ false
        → (line_count (x ∷ l) ≡ 0) ⊎ ((line : List ℕ) × (rest : List ℕ) × (x ∷ l ≡ line ++ (10 ∷ rest)) × (line_count line ≡ 0))
    on (inl h) e = inl (count-other x l e ∙ h)
    on (inr r) e = inr (x ∷ r.0, r.1, ap (λ (z : List ℕ). x ∷ z) r.2, count-other x r.0 e ∙ r.3)

-- no line is found only where the definition finds none
pub bad-line : (d : ℕ) (line rest : List ℕ) → line_at d (line ++ (10 ∷ rest)) ≡ bad_at → line_of d line ≡ bad_line
bad-line d line rest h = by-line (line_of d line) refl
  where
    by-line : (x : Line) → line_of d line ≡ x → line_of d line ≡ bad_line
    by-line bad_line q = q
    by-line join_line q =
        let p = sym (join-at d rest) ∙ ap (λ (z : List ℕ). line_at d (z ++ (10 ∷ rest))) (sym (join-sound d line q)) ∙ h in
        never (cc)
    by-line (seg_line n c) q =
        let s = seg-sound d line n c q in
        let p = sym (seg-at d n c rest s.1) ∙ ap (λ (z : List ℕ). line_at d (z ++ (10 ∷ rest))) (sym s.0) ∙ h in
        never (cc)

-- where no line is found, none is ended, or the one that is is bad
pub place-bad : (d : ℕ) (l : List ℕ) → line_at d l ≡ bad_at
    → (line_count l ≡ 0) ⊎ ((line : List ℕ) × (rest : List ℕ) × (l ≡ line ++ (10 ∷ rest)) × (line_count line ≡ 0) × (line_of d line ≡ bad_line))
place-bad d l h = on (split l)
  where
    on : (line_count l ≡ 0) ⊎ ((line : List ℕ) × (rest : List ℕ) × (l ≡ line ++ (10 ∷ rest)) × (line_count line ≡ 0))
        → (line_count l ≡ 0) ⊎ ((line : List ℕ) × (rest : List ℕ) × (l ≡ line ++ (10 ∷ rest)) × (line_count line ≡ 0) × (line_of d line ≡ bad_line))
    on (inl z) = inl z
    on (inr r) = inr (r.0, r.1, r.2, r.3, bad-line d r.0 r.1 (ap (line_at d) (sym r.2) ∙ h))

-- a line that is found has its leading spaces
start_back : (d : ℕ) (l : List ℕ) (p : Place) → (p ≡ bad_at → ⊥) → line_at d l ≡ p → (l ≡ spaces d ++ drop d l) × (form_at (drop d l) ≡ p)
unfolding line_at
start_back d l p h e =
    by-test (eqb (run_of d 32 l) d)
    (λ t. let r : run_of d 32 l ≡ d = eqb-true (run_of d 32 l) d t in (run-back d 32 l ∙ rw r, sym (rw t) ∙ e))
    (λ t. let q : bad_at ≡ p = sym (rw t) ∙ e in absurd (h (sym q)))

-- only an opened join is found as one, after the spaces
form-join : (l rest : List ℕ) → form_at l ≡ join_at rest → l ≡ join_word ++ (10 ∷ rest)
form-join l rest e =
    by-test (word_at join_word l)
    (λ t. let q : join_ends (drop 5 l) ≡ join_at rest = sym (rw t) ∙ e in word_split join_word l t ∙ ap (λ (z : List ℕ). join_word ++ z) (by_end (drop 5 l) q))
    (λ t. by-test (word_at seg_word l)
    (λ u. let q : number_at (number_of (drop 5 l)) ≡ join_at rest = sym (rw (t, u)) ∙ e in by_number (number_of (drop 5 l)) q)
    (λ u. let q : bad_at ≡ join_at rest = sym (rw (t, u)) ∙ e in never (cc)))
  where
    by_end : (m : List ℕ) → join_ends m ≡ join_at rest → m ≡ 10 ∷ rest
    by_end [] p = never (cc)
    by_end (x ∷ m) p =
        by-test (eqb x 10)
        (λ t. let q : join_at m ≡ join_at rest = sym (rw t) ∙ p in let z : m ≡ rest = cc in ap (λ (y : ℕ). y ∷ m) (eqb-true x 10 t) ∙ rw z)
        (λ t. let q : bad_at ≡ join_at rest = sym (rw t) ∙ p in never (cc))

    no-seg : {G : Type 0} (n c : ℕ) (m : List ℕ) → seg_ends n c m ≡ join_at rest → G
    no-seg n c [] p = never (cc)
    no-seg n c (x ∷ m) p =
        by-test (eqb x 10)
        (λ t. let q : seg_at n c m ≡ join_at rest = sym (rw t) ∙ p in never (cc))
        (λ t. let q : bad_at ≡ join_at rest = sym (rw t) ∙ p in never (cc))

    by-run : {G : Type 0} (n k : ℕ) (m : List ℕ) → brackets_at n k m ≡ join_at rest → G
    by-run n zero m p = never (cc)
    by-run n (suc c) m p = no-seg n c (drop (suc c) m) p

    by_number : {G : Type 0} (v : Number) → number_at v ≡ join_at rest → G
    by_number bad p = never (cc)
    by_number (value n m) p = by-run n (run_of (length m) 41 m) m p

-- only an opened join is found as one
pub place-join : (d : ℕ) (l rest : List ℕ) → line_at d l ≡ join_at rest → l ≡ join_text d ++ (10 ∷ rest)
place-join d l rest e =
    let s = start_back d l (join_at rest) (λ p. never (cc)) e in
    s.0 ∙ ap (λ (z : List ℕ). spaces d ++ z) (form-join (drop d l) rest s.1) ∙ sym (append_assoc (spaces d) join_word (10 ∷ rest))

module _ (n c : ℕ) (rest : List ℕ) where
  -- only a seg is found as one, after the spaces
  form-seg : (l : List ℕ) → form_at l ≡ seg_at n c rest → (l ≡ seg_word ++ (decimal n ++ (close (suc c) ++ (10 ∷ rest)))) × (n < too_long)
  form-seg l e =
      by-test (word_at join_word l)
      (λ t. let q : join_ends (drop 5 l) ≡ seg_at n c rest = sym (rw t) ∙ e in no_join (drop 5 l) q)
      (λ t. by-test (word_at seg_word l)
      (λ u. let q : number_at (number_of (drop 5 l)) ≡ seg_at n c rest = sym (rw (t, u)) ∙ e in
      let r = by_number (drop 5 l) (number_of (drop 5 l)) refl q in
      (word_split seg_word l u ∙ ap (λ (z : List ℕ). seg_word ++ z) r.0, r.1))
      (λ u. let q : bad_at ≡ seg_at n c rest = sym (rw (t, u)) ∙ e in never (cc)))
    where
      no_join : {G : Type 0} (m : List ℕ) → join_ends m ≡ seg_at n c rest → G
      no_join [] p = never (cc)
      no_join (x ∷ m) p =
          by-test (eqb x 10)
          (λ t. let q : join_at m ≡ seg_at n c rest = sym (rw t) ∙ p in never (cc))
          (λ t. let q : bad_at ≡ seg_at n c rest = sym (rw t) ∙ p in never (cc))

      by_end : (a b : ℕ) (m : List ℕ) → seg_ends a b m ≡ seg_at n c rest → (a ≡ n) × (b ≡ c) × (m ≡ 10 ∷ rest)
      by_end a b [] p = never (cc)
      by_end a b (x ∷ m) p =
          by-test (eqb x 10)
          (λ t. let q : seg_at a b m ≡ seg_at n c rest = sym (rw t) ∙ p in let z : m ≡ rest = cc in ((cc), (cc), ap (λ (y : ℕ). y ∷ m) (eqb-true x 10 t) ∙ rw z))
          (λ t. let q : bad_at ≡ seg_at n c rest = sym (rw t) ∙ p in never (cc))

      by-run : (m : List ℕ) (a : ℕ) (r : List ℕ) → number_of m ≡ value a r → (k : ℕ) → run_of (length r) 41 r ≡ k → brackets_at a k r ≡ seg_at n c rest
          → (m ≡ decimal n ++ (close (suc c) ++ (10 ∷ rest))) × (n < too_long)
      by-run m a r v zero u p = never (cc)
      by-run m a r v (suc b) u p =
          let s = number-sound a r m v in
          let f = by_end a b (drop (suc b) r) p in
          let g : r ≡ close (suc b) ++ drop (suc b) r = run-back (length r) 41 r ∙ rw u in
          (s.0 ∙ ap (λ (z : List ℕ). decimal a ++ z) (g ∙ ap (λ (z : List ℕ). close (suc b) ++ z) f.2) ∙ rw (f.0, f.1), rw f.0 at s.1)

      by_number : (m : List ℕ) (v : Number) → number_of m ≡ v → number_at v ≡ seg_at n c rest → (m ≡ decimal n ++ (close (suc c) ++ (10 ∷ rest))) × (n < too_long)
      by_number m bad q p = never (cc)
      by_number m (value a r) q p = by-run m a r q (run_of (length r) 41 r) refl p

  -- only a seg is found as one
  pub place-seg : (d : ℕ) (l : List ℕ) → line_at d l ≡ seg_at n c rest → (l ≡ seg_text d n c ++ (10 ∷ rest)) × (n < too_long)
  place-seg d l e =
      let s = start_back d l (seg_at n c rest) (λ p. never (cc)) e in
      let f = form-seg (drop d l) s.1 in
      (s.0 ∙ ap (λ (z : List ℕ). spaces d ++ z) f.0 ∙ simp append_assoc, f.1)

-- the seg found, cut out
pub cut-seg : (d : ℕ) (l : List ℕ) (n c : ℕ) (rest : List ℕ) → line_at d l ≡ seg_at n c rest → (line : List ℕ) × (l ≡ line ++ (10 ∷ rest)) × (line_count line ≡ 0) × (line_of d line ≡ seg_line n c)
cut-seg d l n c rest e = let s = place-seg n c rest d l e in (seg_text d n c, s.0, seg-count d n c, seg-reads d n c s.1)

-- the opened join found, cut out
pub cut-join : (d : ℕ) (l rest : List ℕ) → line_at d l ≡ join_at rest → (line : List ℕ) × (l ≡ line ++ (10 ∷ rest)) × (line_count line ≡ 0) × (line_of d line ≡ join_line)
cut-join d l rest e = (join_text d, place-join d l rest e, join-count d, join-reads d)
