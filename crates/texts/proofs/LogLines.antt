-- The lines of a log text: what is printed is read, and only that.
use mathlib.Core.Path.{◌≡◌, refl, ap, ◌∙◌}
use Prim.Native.Nat.{ℕ, zero, suc, ◌≤◌, ◌<◌}
use native.Mathlib.Omega.{arith}
use mathlib.Core.List.{List, ◌++◌}
use mathlib.Core.Bool.{Bool, true, false}
use mathlib.Core.Option.{Option, none, some}
use lib.ListN.{length, length-append}
use Rattle.texts.specs.Digits.{decimal, too_long}
use Rattle.texts.specs.Words.{after, close, Ending, ending, bad_ending, ending_of}
use Rattle.texts.specs.Lines.{line_count}
use Rattle.texts.specs.Logs.{read_word, closing, row_text, row, ending_by, read_by, row_of, longest_line}
use Rattle.texts.proofs.Tests.{never}
use Rattle.texts.proofs.Numbers.{decimal-length}
use Rattle.texts.proofs.Feeding.{count-append}
use Rattle.texts.proofs.Words.{after-word, after-sound, ending-reads, ending-sound, count-run, count-decimal}

-- a read's line is read
pub row_reads : (n : ℕ) (ends : Bool) → n < too_long → row_of (row_text n ends) ≡ row n ends
unfolding row_of
row_reads n false h = ap read_by (after-word read_word (decimal n ++ close 1)) ∙ ap ending_by (ending-reads n 0 h)
row_reads n true h = ap read_by (after-word read_word (decimal n ++ close 2)) ∙ ap ending_by (ending-reads n 1 h)

-- it is one line
pub row_count : (n : ℕ) (ends : Bool) → line_count (row_text n ends) ≡ 0
unfolding line_count
row_count n ends = rw (count-append (decimal n) (close (closing ends)), count-decimal n, count-run (closing ends) 41 refl)

-- and not too long
pub row-length : (n : ℕ) (ends : Bool) → n < too_long → length (row_text n ends) ≤ longest_line
row-length n false h = simp length-append (let g = decimal-length n h in omega arith)
row-length n true h = simp length-append (let g = decimal-length n h in omega arith)

-- only a read's line is read as one
pub row-sound : (line : List ℕ) (n : ℕ) (ends : Bool) → row_of line ≡ row n ends → (line ≡ row_text n ends) × (n < too_long)
unfolding row_of
row-sound line n ends e = by_word (after read_word line) refl e
  where
    found : (l : List ℕ) (m : ℕ) (b : Bool) → after read_word line ≡ some l → ending_of l ≡ ending m (closing b) → row m b ≡ row n ends → (line ≡ row_text n ends) × (n < too_long)
    found l m b q t p =
        let u : m ≡ n = cc in
        let v : b ≡ ends = cc in
        let s = ending-sound l m (closing b) t in
        (after-sound read_word line l q ∙ ap (λ (z : List ℕ). read_word ++ z) s.0 ∙ rw (u, v), rw u at s.1)

    by-ending : (l : List ℕ) → after read_word line ≡ some l → (x : Ending) → ending_of l ≡ x → ending_by x ≡ row n ends → (line ≡ row_text n ends) × (n < too_long)
    by-ending l q bad_ending t p = never (cc)
    by-ending l q (ending m zero) t p = never (cc)
    by-ending l q (ending m (suc zero)) t p = found l m false q t p
    by-ending l q (ending m (suc (suc zero))) t p = found l m true q t p
    by-ending l q (ending m (suc (suc (suc c)))) t p = never (cc)

    by_word : (o : Option (List ℕ)) → after read_word line ≡ o → read_by o ≡ row n ends → (line ≡ row_text n ends) × (n < too_long)
    by_word none q p = never (cc)
    by_word (some l) q p = by-ending l q (ending_of l) refl p
