-- The pieces of a line: what is printed is read back, and only that.
use mathlib.Core.Path.{◌≡◌, refl, sym, ap, ◌∙◌}
use Prim.Native.Nat.{ℕ, zero, suc, ◌+◌, ◌<◌}
use native.Mathlib.Omega.{arith}
use mathlib.Core.List.{List, [], ◌∷◌, ◌++◌}
use mathlib.Core.Bool.{true, false}
use mathlib.Core.Option.{Option, none, some}
use lib.Dec.{eqb}
use lib.ListN.{length, drop, replicate}
use lib.Seq.{drop-append_seam}
use borrow.Author.Tests.{eqb-true, ne_eqb}
use Rattle.texts.specs.Digits.{decimal, too_long, Number, value, bad, number_of}
use Rattle.texts.specs.Words.{word_at, after, close, run_of, one_more, closes_of, ending, closes_by, number_by, ending_of}
use Rattle.texts.specs.Lines.{line_count}
use Rattle.reuse.proofs.Lists.{by-test, clash, both, eqb_same}
use Rattle.texts.proofs.Tests.{never}
use Rattle.texts.proofs.Numbers.{by_digits, number-sound, number-reads}
use Rattle.texts.proofs.Feeding.{count-append, count-other}

-- a word that was put there stands there
pub word-front : (w l : List ℕ) → word_at w (w ++ l) ≡ true
unfolding word_at
word-front [] l = refl
word-front (c ∷ w) l = rw (eqb_same c, word-front w l)

-- bytes with a word at the front are the word and the rest
pub word_split : (w l : List ℕ) → word_at w l ≡ true → l ≡ w ++ drop (length w) l
unfolding word_at
word_split [] l h = refl
word_split (c ∷ w) [] h = clash h refl
word_split (c ∷ w) (x ∷ l) h =
    let p = both (eqb x c) (word_at w l) h in
    let e : x ≡ c = eqb-true x c p.0 in
    let r : l ≡ w ++ drop (length w) l = word_split w l p.1 in
    cc

-- after a word that was put there
pub after-word : (w l : List ℕ) → after w (w ++ l) ≡ some l
unfolding after
after-word w l = rw (word-front w l, drop-append_seam w l)

-- only what the word stands before is after it
pub after-sound : (w l r : List ℕ) → after w l ≡ some r → l ≡ w ++ r
unfolding after
after-sound w l r e =
    by-test (word_at w l)
    (λ t. let p : some (drop (length w) l) ≡ some r = sym (rw t) ∙ e in let q : drop (length w) l ≡ r = cc in word_split w l t ∙ rw q)
    (λ t. let p : none ≡ some r = sym (rw t) ∙ e in never (cc))

-- closing brackets are counted
pub closes-close : (c : ℕ) → closes_of (close c) ≡ some c
unfolding closes_of
closes-close zero = refl
closes-close (suc c) = rw (closes-close c)

-- only closing brackets are
closes-sound : (l : List ℕ) (c : ℕ) → closes_of l ≡ some c → l ≡ close c
unfolding closes_of
closes-sound [] c e = let z : 0 ≡ c = cc in rw (← z)
closes-sound (x ∷ l) c e = by-test (eqb x 41) (λ t. on (λ m q. closes-sound l m q) (closes_of l) refl (simp t at e) t) (λ t. never (cc (simp t at e)))
  where
    on : ((m : ℕ) → closes_of l ≡ some m → l ≡ close m) → (o : Option ℕ) → closes_of l ≡ o → one_more o ≡ some c → eqb x 41 ≡ true → x ∷ l ≡ close c
    on h none q p t = never (cc)
    on h (some m) q p t = let z : suc m ≡ c = cc in rw (← z) (rw (eqb-true x 41 t, h m q))

-- a number and its brackets are read
pub ending-reads : (n c : ℕ) → n < too_long → ending_of (decimal n ++ close (suc c)) ≡ ending n (suc c)
unfolding ending_of closes_of
ending-reads n c h = rw (number-reads n (close c) h) (rw (closes-close c))

-- only a number and its brackets are
pub ending-sound : (l : List ℕ) (n c : ℕ) → ending_of l ≡ ending n c → (l ≡ decimal n ++ close c) × (n < too_long)
unfolding ending_of
ending-sound l n c e = by_number (number_of l) refl e
  where
    by-closes : (m : ℕ) (r : List ℕ) → number_of l ≡ value m r → (o : Option ℕ) → closes_of r ≡ o → closes_by m o ≡ ending n c → (l ≡ decimal n ++ close c) × (n < too_long)
    by-closes m r v none q p = never (cc)
    by-closes m r v (some d) q p =
        let a : m ≡ n = cc in
        let b : d ≡ c = cc in
        let s = number-sound m r l v in
        (s.0 ∙ ap (λ (z : List ℕ). decimal m ++ z) (closes-sound r d q) ∙ rw (a, b), rw a at s.1)

    by_number : (v : Number) → number_of l ≡ v → number_by v ≡ ending n c → (l ≡ decimal n ++ close c) × (n < too_long)
    by_number bad q p = never (cc)
    by_number (value m r) q p = by-closes m r q (closes_of r) refl p

-- a run of a byte other than 10 ends no line
pub count-run : (n b : ℕ) → eqb b 10 ≡ false → line_count (replicate n b) ≡ 0
unfolding line_count
count-run zero b h = refl
count-run (suc n) b h = rw h (count-run n b h)

-- digits end no line
pub count-decimal : (n : ℕ) → line_count (decimal n) ≡ 0
unfolding line_count
count-decimal n =
    by_digits (λ (l : List ℕ). line_count l ≡ 0)
    (λ e h. count-other (48 + e) [] (ne_eqb (48 + e) 10 (λ (q : 48 + e ≡ 10). omega arith)))
    (λ a b p q. rw (count-append a b, p, q))
    n

-- a run that was put there is counted to its length
pub run-all : (d b : ℕ) (l : List ℕ) → run_of d b (replicate d b ++ l) ≡ d
unfolding run_of
run-all zero b l = refl
run-all (suc d) b l = rw (eqb_same b, run-all d b l)

-- another byte ends the run
pub run-stop : (c k b x : ℕ) (l : List ℕ) → eqb x b ≡ false → c < k → run_of k b (replicate c b ++ (x ∷ l)) ≡ c
unfolding run_of
run-stop c zero b x l e h = absurd (omega arith)
run-stop zero (suc k) b x l e h = rw e
run-stop (suc c) (suc k) b x l e h = rw (eqb_same b, run-stop c k b x l e (omega arith))

-- only what stands there is counted
pub run-back : (k b : ℕ) (l : List ℕ) → l ≡ replicate (run_of k b l) b ++ drop (run_of k b l) l
unfolding run_of
run-back zero b l = refl
run-back (suc k) b [] = refl
run-back (suc k) b (x ∷ l) =
    by-test (eqb x b)
    (λ e. rw e (ap (λ (z : ℕ). z ∷ l) (eqb-true x b e) ∙ ap (λ (z : List ℕ). b ∷ z) (run-back k b l)))
    (λ e. rw e)
