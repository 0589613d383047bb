-- The words at the front of a buffer, and those of one level and of the levels below.
use mathlib.Core.Path.{◌≡◌, refl, sym, ap, ◌∙◌}
use Prim.Native.Nat.{ℕ, ◌+◌, ◌-◌, ◌*◌, ◌≤◌, ◌<◌}
use native.Mathlib.Omega.{arith}
use mathlib.Core.List.{List, ◌++◌}
use lib.ListN.{length, take, drop, length-drop}
use lib.Seq.{length-take-le, take_at, drop_at, drop-drop}
use borrow.Author.Tests.{le-leb}
use borrow.Rule.Slice.PartMut.{mid_of, put_mid}
use Rattle.reuse_rows.proofs.Parts.{back-kept}
use Rattle.summary_calls.specs.Calls.{wrote}
use Rattle.plan_calls.specs.Calls.{level_words, count_of, fronted}

-- words at the front of a buffer
pub front-there : (l buffer : List ℕ) → take (length l) (fronted l buffer) ≡ l
unfolding fronted
front-there l buffer = take_at l (drop (length l) buffer) (length l) refl

-- longer words, or as many, put over them
pub front-again : (l m buffer : List ℕ) → length l ≤ length m → length m ≤ length buffer → fronted m (fronted l buffer) ≡ fronted m buffer
unfolding fronted
front-again l m buffer h k =
    let e : length l + (length m - length l) ≡ length m = omega arith in
    ap (λ (v : List ℕ). m ++ v)
    (ap (λ (n : ℕ). drop n (l ++ drop (length l) buffer)) (sym e)
    ∙ sym (drop-drop (length m - length l) (length l) (l ++ drop (length l) buffer))
    ∙ ap (drop (length m - length l)) (drop_at l (drop (length l) buffer) (length l) refl)
    ∙ drop-drop (length m - length l) (length l) buffer
    ∙ ap (λ (n : ℕ). drop n buffer) e)

-- words written where there is room
pub wrote-front : (w buffer : List ℕ) → length w ≤ length buffer → ((wrote w buffer).buffer ≡ fronted w buffer) × (count_of (wrote w buffer).answer ≡ length w)
unfolding wrote fronted
wrote-front w buffer h = (rw (le-leb (length w) (length buffer) h), rw (le-leb (length w) (length buffer) h))

-- one level and those below it
pub levels-more : (left : ℕ) → 0 < left → level_words + level_words * (left - 1) ≡ level_words * left
levels-more left h = omega arith

-- a part lent from one level on has the words of the levels below
pub below-long : (work : List ℕ) (left : ℕ) → 0 < left → level_words * left ≤ length work → length (mid_of level_words (length work - level_words) work) ≡ length work - level_words
below-long work left h k = length-take-le (length work - level_words) (drop level_words work) (omega (arith, length-drop level_words work))

-- words kept below a level are kept
pub level-kept : (left : ℕ) (w y : List ℕ) → 0 < left → level_words * left ≤ length w → length y ≡ length w - level_words
    → drop (level_words * (left - 1)) y ≡ drop (level_words * (left - 1)) (mid_of level_words (length w - level_words) w)
    → drop (level_words * left) (put_mid level_words (length w - level_words) w y) ≡ drop (level_words * left) w
level-kept left w y h k same e =
    ap (λ (n : ℕ). drop n (put_mid level_words (length w - level_words) w y)) (sym (levels-more left h))
    ∙ back-kept level_words w y (omega arith) same (level_words * (left - 1)) e
    ∙ ap (λ (n : ℕ). drop n w) (levels-more left h)
