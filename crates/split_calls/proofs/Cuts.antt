-- Summaries end to end are found again by the cut.
use mathlib.Core.Path.{◌≡◌, refl, sym, ap, ◌∙◌}
use Prim.Native.Nat.{ℕ, zero, suc, ◌+◌, ◌-◌, ◌*◌, ◌≤◌, ◌<◌}
use native.Mathlib.Omega.{arith}
use mathlib.Core.List.Memᴰ
use mathlib.Core.List.{List, [], ◌∷◌, ◌++◌, flatten, append-nil, Memᴰ}
use mathlib.Core.Bool.{true, false, ◌&&◌}
use lib.Dec.{eqb}
use lib.ListN.{length, take, drop, length-take, take-append-drop}
use lib.Seq.{take-length, take-append_seam, drop-append_seam, get_or-take}
use borrow.Author.Tests.{eqb-true, eqb-false}
use Rattle.reuse.specs.Limits.{max_extents}
use Rattle.reuse.specs.Summary.{extents_of, well_formed}
use Rattle.reuse.proofs.Lists.{by-test, both}
use Rattle.reuse.proofs.Formed.{Formed, formed}
use Rattle.split_calls.specs.Cuts.{cut_summaries, own_words}
use Rattle.split_calls.specs.Calls.{all_formed}

-- v of words with others after them
extents-append : (w rest : List ℕ) → length w ≡ 2 + 3 * extents_of w → extents_of (w ++ rest) ≡ extents_of w
unfolding extents_of
extents-append [] rest e = absurd (omega arith)
extents-append (l ∷ []) rest e = absurd (omega arith)
extents-append (l ∷ v ∷ w) rest e = refl

-- the cut of summaries end to end gives them back
pub cut-joined : (summaries : List (List ℕ)) → ((w : List ℕ) → Memᴰ w summaries → well_formed w ≡ true)
    → cut_summaries (length summaries) (flatten summaries) ≡ summaries
unfolding cut_summaries flatten
cut-joined [] f = refl
cut-joined (w ∷ []) f = rw (append-nil w)
cut-joined (w ∷ u ∷ l) f =
    let e : length w ≡ 2 + 3 * extents_of w = (formed w (f w (Memᴰ.head refl))).long in
    let i : cut_summaries (suc (length l)) (u ++ flatten l) ≡ u ∷ l = cut-joined (u ∷ l) (λ x m. f x (Memᴰ.tail m)) in
    rw (extents-append w (u ++ flatten l) e, ← e, take-append_seam, drop-append_seam, i)

-- the pieces of a cut end to end are the words
pub cut-whole : (n : ℕ) (words : List ℕ) → flatten (cut_summaries (suc n) words) ≡ words
unfolding cut_summaries flatten
cut-whole zero words = append-nil words
cut-whole (suc n) words =
    rw (cut-whole n (drop (2 + 3 * extents_of words) words)) (take-append-drop (2 + 3 * extents_of words) words)

-- there are n of them
pub cut-length : (n : ℕ) (words : List ℕ) → length (cut_summaries n words) ≡ n
unfolding cut_summaries
cut-length zero words = refl
cut-length (suc zero) words = refl
cut-length (suc (suc n)) words = ap suc (cut-length (suc n) (drop (2 + 3 * extents_of words) words))

-- v of words that are cut after it
extents-cut : (w : List ℕ) (n : ℕ) → extents_of (take (2 + n) w) ≡ extents_of w
unfolding extents_of
extents-cut w n = get_or-take (2 + n) w 1 0 (omega arith)

-- a first summary that is well formed does not reach past the words, and has no more extents than the limit
pub first_fits : (w : List ℕ) → well_formed (take (2 + 3 * extents_of w) w) ≡ true → (2 + 3 * extents_of w ≤ length w) × (extents_of w ≤ max_extents)
first_fits w h =
    let f : Formed (take (2 + 3 * extents_of w) w) = formed (take (2 + 3 * extents_of w) w) h in
    let e : extents_of (take (2 + 3 * extents_of w) w) ≡ extents_of w = extents-cut w (3 * extents_of w) in
    (omega (arith, f.long, length-take (2 + 3 * extents_of w) w), omega (arith, f.few))

-- of more customers than one the first has as many words as its own v says
pub cut-more : (n : ℕ) (w : List ℕ) → 1 < n → cut_summaries n w ≡ take (2 + 3 * extents_of w) w ∷ cut_summaries (n - 1) (drop (2 + 3 * extents_of w) w)
unfolding cut_summaries
cut-more zero w h = absurd (omega arith)
cut-more (suc zero) w h = absurd (omega arith)
cut-more (suc (suc n)) w h = let e : suc (suc n) - 1 ≡ suc n = omega arith in rw e refl

-- of one customer all words are its own
pub cut-one : (n : ℕ) (w : List ℕ) → n ≡ 1 → cut_summaries n w ≡ w ∷ []
unfolding cut_summaries
cut-one n w e = rw e

-- the test of more summaries than one: of the first, and of the others
pub formed-more : (n : ℕ) (w : List ℕ) → 1 < n
    → all_formed (cut_summaries n w) ≡ well_formed (take (2 + 3 * extents_of w) w) && all_formed (cut_summaries (n - 1) (drop (2 + 3 * extents_of w) w))
unfolding all_formed
formed-more n w h = ap all_formed (cut-more n w h)

-- the test of none
pub formed-none : (n : ℕ) (w : List ℕ) → n ≡ 0 → all_formed (cut_summaries n w) ≡ true
unfolding all_formed cut_summaries
formed-none n w e = rw e refl

-- the test of one
pub formed-one : (n : ℕ) (w : List ℕ) → n ≡ 1 → all_formed (cut_summaries n w) ≡ well_formed w
unfolding all_formed
formed-one n w e = rw (cut-one n w e) (by-test (well_formed w) (λ q. simp q) (λ q. simp q))

-- a first summary that is not well formed fails the test
pub first-fails : (n : ℕ) (w : List ℕ) → 1 < n → well_formed (take (2 + 3 * extents_of w) w) ≡ false → all_formed (cut_summaries n w) ≡ false
first-fails n w h e = rw (formed-more n w h, e)

-- with one that is well formed the others decide
pub first_passes : (n : ℕ) (w : List ℕ) → 1 < n → well_formed (take (2 + 3 * extents_of w) w) ≡ true
    → all_formed (cut_summaries (n - 1) (drop (2 + 3 * extents_of w) w)) ≡ all_formed (cut_summaries n w)
first_passes n w h e = rw (formed-more n w h, e)

-- words too few for the first summary, or with more extents than the limit, fail it
pub first_short : (n : ℕ) (w : List ℕ) → 1 < n → (2 + 3 * extents_of w ≤ length w → extents_of w ≤ max_extents → ⊥) → all_formed (cut_summaries n w) ≡ false
first_short n w h k =
    first-fails n w h
    (by-test (well_formed (take (2 + 3 * extents_of w) w)) (λ e. absurd (let r = first_fits w e in k r.0 r.1)) (λ e. e))

-- summaries that pass the test: the first of more than one does not reach past the words
pub own-fits : (n : ℕ) (w : List ℕ) → 1 < n → all_formed (cut_summaries n w) ≡ true → (2 + 3 * extents_of w ≤ length w) × (extents_of w ≤ max_extents)
own-fits n w h f = first_fits w (both _ _ (sym (formed-more n w h) ∙ f)).0

-- the words of one customer or more: the first one's, and the others'
pub own-cut : (n : ℕ) (w : List ℕ) → 0 < n → cut_summaries n w ≡ take (own_words n w) w ∷ cut_summaries (n - 1) (drop (own_words n w) w)
own-cut n w h =
    by-test (eqb n 1)
    (λ e. let q : n ≡ 1 = eqb-true n 1 e in let z : n - 1 ≡ 0 = omega arith in
    rw (e, z, take-length w) (cut-one n w q ∙ ap {B = List (List ℕ)} (λ r. w ∷ r) (sym (none (drop (length w) w)))))
    (λ e. let q : n ≡ 1 → ⊥ = eqb-false n 1 e in rw e (cut-more n w (omega arith)))
  where
    none : (l : List ℕ) → cut_summaries 0 l ≡ []
    none l = unfold cut_summaries in refl

module _ (n : ℕ) (w : List ℕ) (h : 0 < n) (f : all_formed (cut_summaries n w) ≡ true) where
  -- where all pass the test, the first does and so do the others
  pub own-formed : (well_formed (take (own_words n w) w) ≡ true) × (all_formed (cut_summaries (n - 1) (drop (own_words n w) w)) ≡ true)
  unfolding all_formed
  own-formed = both (well_formed (take (own_words n w) w)) (all_formed (cut_summaries (n - 1) (drop (own_words n w) w))) (ap all_formed (sym (own-cut n w h)) ∙ f)

  -- the first one's words do not reach past them
  pub own-inside : own_words n w ≤ length w
  own-inside =
      by-test (eqb n 1) (λ e. rw e (omega arith))
      (λ e. let q : n ≡ 1 → ⊥ = eqb-false n 1 e in rw e (own-fits n w (omega arith) f).0)

-- each of summaries that pass the test is well formed
pub each-formed : (ws : List (List ℕ)) → all_formed ws ≡ true → (w : List ℕ) → Memᴰ w ws → well_formed w ≡ true
unfolding all_formed
each-formed [] f w m = absurd (Memᴰ.not-nil m)
each-formed (u ∷ ws) f w (Memᴰ.head e) = rw e (both (well_formed u) (all_formed ws) f).0
each-formed (u ∷ ws) f w (Memᴰ.tail m) = each-formed ws (both (well_formed u) (all_formed ws) f).1 w m

-- and where each is, they pass it
pub formed-each : (ws : List (List ℕ)) → ((w : List ℕ) → Memᴰ w ws → well_formed w ≡ true) → all_formed ws ≡ true
unfolding all_formed
formed-each [] f = refl
formed-each (w ∷ ws) f = rw (f w (Memᴰ.head refl)) (formed-each ws (λ u m. f u (Memᴰ.tail m)))
