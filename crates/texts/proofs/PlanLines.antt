-- The lines of a plan text: what is printed is read, and only that.
use mathlib.Core.Path.{◌≡◌, refl, ap, ◌∙◌}
use Prim.Native.Nat.{ℕ, zero, suc, ◌<◌}
use mathlib.Core.List.{List, [], ◌∷◌, ◌++◌}
use mathlib.Core.Option.{Option, none, some}
use Rattle.texts.specs.Digits.{decimal, too_long}
use Rattle.texts.specs.Words.{word_at, after, spaces, close, Ending, ending, bad_ending, ending_of}
use Rattle.texts.specs.Lines.{line_count}
use Rattle.texts.specs.Plans.{join_word, seg_word, join_text, seg_text}
use Rattle.texts.specs.PlanTexts.{seg_line, join_line, ending_by, seg_by, join_by, indent_by, line_of}
use Rattle.texts.proofs.Tests.{never}
use Rattle.texts.proofs.Feeding.{count-append}
use Rattle.texts.proofs.Words.{after-word, after-sound, ending-reads, ending-sound, count-run, count-decimal}

-- an opened join is read
pub join-reads : (d : ℕ) → line_of d (join_text d) ≡ join_line
unfolding line_of after word_at
join-reads d = ap indent_by (after-word (spaces d) join_word)

-- a seg is read
pub seg-reads : (d n c : ℕ) → n < too_long → line_of d (seg_text d n c) ≡ seg_line n c
unfolding line_of after word_at
seg-reads d n c h =
    ap indent_by (after-word (spaces d) (seg_word ++ (decimal n ++ close (suc c)))) ∙ ap ending_by (ending-reads n c h)

-- an opened join is one line
pub join-count : (d : ℕ) → line_count (join_text d) ≡ 0
unfolding line_count
join-count d = rw (count-append (spaces d) join_word, count-run d 32 refl)

-- a seg is one line
pub seg-count : (d n c : ℕ) → line_count (seg_text d n c) ≡ 0
unfolding line_count
seg-count d n c =
    rw (count-append (spaces d) (seg_word ++ (decimal n ++ close (suc c))), count-run d 32 refl)
    (rw (count-append (decimal n) (close (suc c)), count-decimal n, count-run (suc c) 41 refl))

module _ (d : ℕ) (line : List ℕ) where
  -- only an opened join is read as one
  pub join-sound : line_of d line ≡ join_line → line ≡ join_text d
  unfolding line_of
  join-sound e = by-indent (after (spaces d) line) refl e
    where
      by-ending : {G : Type 0} (x : Ending) → ending_by x ≡ join_line → G
      by-ending bad_ending p = never (cc)
      by-ending (ending n zero) p = never (cc)
      by-ending (ending n (suc c)) p = never (cc)

      by-seg : {G : Type 0} (o : Option (List ℕ)) → seg_by o ≡ join_line → G
      by-seg none p = never (cc)
      by-seg (some l) p = by-ending (ending_of l) p

      by-join : (l : List ℕ) → after (spaces d) line ≡ some l → (o : Option (List ℕ)) → after join_word l ≡ o → join_by o l ≡ join_line → line ≡ join_text d
      by-join l q none r p = by-seg (after seg_word l) p
      by-join l q (some []) r p = after-sound (spaces d) line l q ∙ ap (λ (z : List ℕ). spaces d ++ z) (after-sound join_word l [] r)
      by-join l q (some (x ∷ m)) r p = never (cc)

      by-indent : (o : Option (List ℕ)) → after (spaces d) line ≡ o → indent_by o ≡ join_line → line ≡ join_text d
      by-indent none q p = never (cc)
      by-indent (some l) q p = by-join l q (after join_word l) refl p

  -- only a seg is read as one
  pub seg-sound : (n c : ℕ) → line_of d line ≡ seg_line n c → (line ≡ seg_text d n c) × (n < too_long)
  unfolding line_of
  seg-sound n c e = by-indent (after (spaces d) line) refl e
    where
      by-ending : (l m : List ℕ) → after (spaces d) line ≡ some l → after seg_word l ≡ some m → (x : Ending) → ending_of m ≡ x → ending_by x ≡ seg_line n c → (line ≡ seg_text d n c) × (n < too_long)
      by-ending l m q r bad_ending t p = never (cc)
      by-ending l m q r (ending a zero) t p = never (cc)
      by-ending l m q r (ending a (suc b)) t p =
          let u : a ≡ n = cc in
          let v : b ≡ c = cc in
          let s = ending-sound m a (suc b) t in
          (after-sound (spaces d) line l q ∙ ap (λ (z : List ℕ). spaces d ++ z) (after-sound seg_word l m r ∙ ap (λ (z : List ℕ). seg_word ++ z) s.0) ∙ rw (u, v), rw u at s.1)

      by-seg : (l : List ℕ) → after (spaces d) line ≡ some l → (o : Option (List ℕ)) → after seg_word l ≡ o → seg_by o ≡ seg_line n c → (line ≡ seg_text d n c) × (n < too_long)
      by-seg l q none r p = never (cc)
      by-seg l q (some m) r p = by-ending l m q r (ending_of m) refl p

      by-join : (l : List ℕ) → after (spaces d) line ≡ some l → (o : Option (List ℕ)) → join_by o l ≡ seg_line n c → (line ≡ seg_text d n c) × (n < too_long)
      by-join l q none p = by-seg l q (after seg_word l) refl p
      by-join l q (some []) p = never (cc)
      by-join l q (some (x ∷ m)) p = never (cc)

      by-indent : (o : Option (List ℕ)) → after (spaces d) line ≡ o → indent_by o ≡ seg_line n c → (line ≡ seg_text d n c) × (n < too_long)
      by-indent none q p = never (cc)
      by-indent (some l) q p = by-join l q (after join_word l) p
