-- A watch in words takes the words of the distance buffer as a watch takes the answers.
use Rattle.std.specs.Prelude.{Result, Ok, Err}
use Rattle.reuse.specs.declared.refusals.Refusal.{Refusal}
use mathlib.Core.Path.{◌≡◌, refl, ap, ◌∙◌}
use Prim.Native.Nat.{ℕ, ◌+◌, ◌-◌, ◌≤◌, ◌<◌}
use native.Mathlib.Omega.{arith}
use mathlib.Core.List.{List, [], ◌∷◌, map}
use mathlib.Core.Bool.{true, false}
use lib.Dec.{leb, ltb}
use lib.ListN.{length}
use borrow.Author.Tests.{leb-true, ltb-true, le-leb, lt-ltb}
use Rattle.reuse.specs.Limits.{max_extents}
use Rattle.reuse.specs.Lru.{Reuse, cold, at}
use Rattle.reuse.specs.Written.{cold_base, word_of, UpTo}
use Rattle.reuse.proofs.Lists.{by-test, both}
use Rattle.reuse.proofs.Newcomers.{AllUpTo}
use Rattle.reuse_rows.specs.Rows.{put_at}
use Rattle.watch.specs.declared.Watch.{Watch}
use Rattle.watch.specs.declared.Reading.{Reading}
use Rattle.watch.specs.declared.Change.{Change}
use Rattle.watch.specs.Watching.{sound_of, in_range, takes, noted_of, reading_of, watch_after}
use Rattle.watch.proofs.Refusals.{unchanged}
use Rattle.watch_words.specs.Layout.{watch_length, watch_in, watch_laid}
use Rattle.watch_words.specs.Calls.{is_cold_word, reading_at, note_in, watch_left, words_after}
use Rattle.watch_words.specs.Taking.{Taking}
use Rattle.watch_words.proofs.Kept.{note-all, note-kept, reading-is, not-above}

-- the word of an answer within the limit is taken as the answer: a cold one without its number
pub word-reading : (r : Reuse) → UpTo max_extents r → reading_at (word_of r) ≡ reading_of r
word-reading (cold n) l =
    reading-is (cold_base + n) true (simp (lt-ltb cold_base (cold_base + n) (omega (arith, l.0)), le-leb (cold_base + n) (cold_base + max_extents) (omega (arith, l.1))))
word-reading (at d) l = reading-is d false (not-above d (omega (arith, l.1)))

-- a word that no answer within the limit is written as is no cold read's, nor a distance
untaken : (d : ℕ) → ((r : Reuse) → UpTo max_extents r → word_of r ≡ d → ⊥) → takes (reading_at d) ≡ false
untaken d h =
    by-test (is_cold_word d)
    (λ c. let p = both (ltb cold_base d) (leb d (cold_base + max_extents)) c in
    let a : cold_base < d = ltb-true cold_base d p.0 in
    let b : d ≤ cold_base + max_extents = leb-true d (cold_base + max_extents) p.1 in
    absurd (h (cold (d - cold_base)) (omega arith, omega arith) (omega arith)))
    (λ c. ap takes (reading-is d false c)
    ∙ by-test (in_range d)
    (λ i. let p = both (leb 1 d) (leb d max_extents) i in absurd (h (at d) (leb-true 1 d p.0, leb-true d max_extents p.1) refl))
    (λ i. i))

-- what words that hold a sound watch take
pub taking : (w : List ℕ) → watch_length ≤ length w → sound_of (watch_in w) ≡ true → Taking w
unfolding noted_of
taking w l s = record {
  cold-read = λ n u. note-all w l (word_of (cold n)) ∙ ap (noted_of (watch_in w)) (word-reading (cold n) u) ∙ simp s;
  distance_read = λ d u. note-all w l (word_of (at d)) ∙ ap (noted_of (watch_in w)) (word-reading (at d) u) ∙ simp (s, le-leb 1 d u.0, le-leb d max_extents u.1);
  no_answer = λ d h. note-all w l d ∙ simp (s, untaken d h);
}

-- words that held a watch hold another
put-again : (v u : Watch) (w : List ℕ) → put_at (put_at w 0 (watch_laid v)) 0 (watch_laid u) ≡ put_at w 0 (watch_laid u)
unfolding put_at watch_laid
put-again v u w = refl

-- the words after one update
left-put : (v : Watch) (q : Reading) (w : List ℕ)
    → watch_left (noted_of v q).outcome (noted_of v q).watch (put_at w 0 (watch_laid v)) ≡ put_at w 0 (watch_laid (noted_of v q).watch)
left-put v q w = by (noted_of v q).outcome refl
  where
    by : (o : Result Unit Refusal) → (noted_of v q).outcome ≡ o → watch_left o (noted_of v q).watch (put_at w 0 (watch_laid v)) ≡ put_at w 0 (watch_laid (noted_of v q).watch)
    by (Ok tt) e = put-again v (noted_of v q).watch w
    by (Err n) e = rw (unchanged v q n e)

-- the words after a list of answers as the distance buffer writes them
pub fed-words : (v : Watch) (w : List ℕ) → watch_length ≤ length w → (rs : List Reuse) → AllUpTo max_extents rs
    → words_after (put_at w 0 (watch_laid v)) (map word_of rs) ≡ put_at w 0 (watch_laid (watch_after v rs))
unfolding words_after watch_after AllUpTo
fed-words v w l [] h = refl
fed-words v w l (r ∷ rs) h =
    let e : note_in (put_at w 0 (watch_laid v)) (word_of r) ≡ noted_of v (reading_of r) = note-kept v w l (word_of r) ∙ ap (noted_of v) (word-reading r h.0) in
    ap (λ (u : List ℕ). words_after u (map word_of rs))
    (ap (λ (c : Change). watch_left c.outcome c.watch (put_at w 0 (watch_laid v))) e ∙ left-put v (reading_of r) w)
    ∙ fed-words (noted_of v (reading_of r)).watch w l rs h.1
