-- The places of the names: a naming fills its own and leaves the others.
use Rattle.std.specs.Prelude.{Some}
use mathlib.Core.Path.{◌≡◌, refl, sym, ap, ◌∙◌}
use Prim.Native.Nat.{ℕ, suc, ◌+◌, ◌-◌, ◌≤◌, ◌<◌}
use native.Mathlib.Omega.{arith}
use native.Mathlib.Decide.{dec_lt}
use mathlib.Core.List.{List, [], ◌∷◌, ◌++◌}
use mathlib.Core.Bool.{true, false, not, and-false}
use lib.Dec.{eqb, leb}
use lib.ListN.{length, take, drop, get_or, set, length-set, length-drop, get_or-append}
use borrow.Rule.Slice.PartMut.{mid_of, put_mid, mid_len}
use lib.Seq.{drop_at, drop-drop, take-add, get_or-take, get_or-drop, length-take-le}
use borrow.Author.Tests.{le-leb, leb-true}
use Rattle.reuse.specs.Limits.{max_names}
use Rattle.reuse.proofs.Lists.{by-test, both}
use Rattle.reuse_rows.specs.Rows.{put_at, placed}
use Rattle.reuse_copies.proofs.Puts.{put-cons, put-length, put-before, put-there, put-after}
use Rattle.session.specs.Sessions.{Wide}
use Rattle.session.specs.declared.Session.{Session}
use Rattle.session_layout.specs.Layout.{session_length, part, kept_in, session_laid}
use Rattle.session_layout.proofs.Laid.{placed-whole, laid-length, read_whole}
use Rattle.session_layout.proofs.Enough.{kept-all}
use Rattle.moments.specs.Names.{place_length, names_length, is_name, place_start, lies, place_words, is_set, session_under, named_in, unnamed, new_names}
use Rattle.moments.proofs.Calls.{unnamed-length, unnamed-at, new-laid}

-- the numbers that are names
pub name-range : (k : ℕ) → is_name k ≡ true → (1 ≤ k) × (k ≤ max_names)
unfolding is_name
name-range k h = let p = both (leb 1 k) (leb k max_names) h in (leb-true 1 k p.0, leb-true k max_names p.1)

-- the place of a name ends within the words of all places
pub place-within : (k : ℕ) → is_name k ≡ true → place_start k + place_length ≤ names_length
unfolding place_start
place-within k is = let r = name-range k is in omega (arith, r.0, r.1)

-- so it lies within as many words
pub names-lie : (lent : ℕ) → names_length ≤ lent → (k : ℕ) → is_name k ≡ true → lies lent k ≡ true
unfolding lies
names-lie lent room k is = le-leb (place_start k + place_length) lent (omega (arith, room, place-within k is))

-- a part, by what stands up to its end
part-front : (w : List ℕ) (b n : ℕ) → b ≤ length w → part b n w ≡ drop b (take (b + n) w)
unfolding part
part-front w b n h = sym (ap (drop b) (take-add b n w) ∙ drop_at (take b w) (take n (drop b w)) b (length-take-le b w h))

module _ (names : List ℕ) (k : ℕ) (is : is_name k ≡ true) (fits : lies (length names) k ≡ true) (s : Session) (wide : Wide s) where
  -- the words of a place that is filled
  filled-length : length (1 ∷ session_laid s) ≡ place_length
  filled-length = ap suc (laid-length s wide)

  -- they fit
  filled-fits : place_start k + length (1 ∷ session_laid s) ≤ length names
  unfolding lies
  filled-fits = omega (arith, filled-length, leb-true (place_start k + place_length) (length names) fits)

  -- a naming keeps the words' number
  pub named-length : length (named_in names k s) ≡ length names
  unfolding named_in
  named-length = put-length names (place_start k) (1 ∷ session_laid s) filled-fits

  -- it fills the place of its name
  named-words : place_words (named_in names k s) k ≡ 1 ∷ session_laid s
  unfolding place_words named_in part
  named-words =
      ap (λ (n : ℕ). take n (drop (place_start k) (put_at names (place_start k) (1 ∷ session_laid s)))) (sym filled-length)
      ∙ put-there names (place_start k) (1 ∷ session_laid s) filled-fits

  -- the name is set
  pub named_set : is_set (named_in names k s) k ≡ true
  unfolding is_set
  named_set = rw (is, named-words, named-length, fits)

  -- and has the session
  pub named-session : session_under (named_in names k s) k ≡ s
  unfolding session_under
  named-session = rw named-words (read_whole s wide)

  module _ (j : ℕ) (other : j ≡ k → ⊥) where
    -- every other place is as it was
    other-words : is_name j ≡ true → place_words (named_in names k s) j ≡ place_words names j
    unfolding place_words named_in place_start
    other-words is' = by (dec_lt j k)
      where
        l : List ℕ
        l = 1 ∷ session_laid s

        -- by which comes first
        by : Dec (j < k) → part (place_start j) place_length (put_at names (place_start k) l) ≡ part (place_start j) place_length names
        by (yes h) =
            let e : place_start j + place_length ≤ place_start k = omega (arith, (name-range j is').0) in
            part-front (put_at names (place_start k) l) (place_start j) place_length (omega (arith, named-length, filled-fits))
            ∙ ap (drop (place_start j)) (put-before names (place_start k) l filled-fits (place_start j + place_length) e)
            ∙ sym (part-front names (place_start j) place_length (omega (arith, filled-fits)))
        by (no h) =
            unfold part in ap (take place_length) (put-after names (place_start k) l filled-fits (place_start j) (omega (arith, (name-range k is).0, filled-length)))

    -- the other names are set where they were
    pub other-set : is_set (named_in names k s) j ≡ is_set names j
    unfolding is_set
    other-set = by-test (is_name j) (λ e. rw (other-words e, named-length)) (λ e. rw e)

    -- and have the sessions that they had
    pub other-session : is_name j ≡ true → session_under (named_in names k s) j ≡ session_under names j
    unfolding session_under
    other-session is' = rw (other-words is')

  -- the code's way: 1 is set, and the session's words are put after it
  pub named_put : (at : ℕ) (y : List ℕ) → at ≡ place_start k
      → y ≡ placed (mid_of (at + 1) (at + place_length - (at + 1)) (set names at 1)) 0 (session_laid s)
      → put_mid (at + 1) (at + place_length - (at + 1)) (set names at 1) y ≡ named_in names k s
  unfolding named_in put_at
  named_put at y e q =
      let n : at + place_length - (at + 1) ≡ length (session_laid s) = omega (arith, laid-length s wide) in
      let f : at + length (1 ∷ session_laid s) ≤ length names = omega (arith, e, filled-fits) in
      let w : List ℕ = set names at 1 in
      let m : length (mid_of (at + 1) (at + place_length - (at + 1)) w) ≡ length (session_laid s) =
      mid_len (at + 1) (at + place_length) w (omega (arith, f, filled-length, length-set names at 1)) ∙ n in
      ap (λ (v : List ℕ). put_mid (at + 1) (at + place_length - (at + 1)) w v) (q ∙ placed-whole _ (session_laid s) m)
      ∙ ap (λ (v : List ℕ). take (at + 1) w ++ (session_laid s ++ v))
      (ap (λ (i : ℕ). drop i (drop (at + 1) w)) n ∙ drop-drop (length (session_laid s)) (at + 1) w)
      ∙ sym (put-cons names at 1 (session_laid s) (omega (arith, f)))
      ∙ ap (λ (i : ℕ). put_at names i (1 ∷ session_laid s)) e

module _ (names : List ℕ) (k : ℕ) where
  -- the first word of a place
  first_word : get_or (place_words names k) 0 0 ≡ get_or names (place_start k) 0
  unfolding place_words part
  first_word =
      let z : place_start k + 0 ≡ place_start k = omega arith in
      get_or-take place_length (drop (place_start k) names) 0 0 (omega arith) ∙ get_or-drop (place_start k) names 0 0 ∙ rw z

  -- it says whether a name is set
  pub set_word : is_name k ≡ true → place_start k + place_length ≤ length names → is_set names k ≡ not (eqb (get_or names (place_start k) 0) 0)
  unfolding is_set lies
  set_word is h = rw (is, first_word, le-leb (place_start k + place_length) (length names) h)

  -- a name whose first word is 0 is not set
  unset-word : get_or names (place_start k) 0 ≡ 0 → is_set names k ≡ false
  unfolding is_set
  unset-word e = rw (first_word, e) (simp (and-false))

  -- nor is a number that is no name
  pub set-no-name : is_name k ≡ false → is_set names k ≡ false
  unfolding is_set
  set-no-name e = simp e

  -- what is set is a name, and its place lies within the words
  pub set-name : is_set names k ≡ true → is_name k ≡ true
  unfolding is_set
  set-name e = (both (is_name k) _ e).0

  pub set-lies : is_set names k ≡ true → place_start k + place_length ≤ length names
  unfolding is_set lies
  set-lies e =
      leb-true (place_start k + place_length) (length names) (both (leb (place_start k + place_length) (length names)) _ (both (is_name k) _ e).1).0

  -- the words of a place after its first
  after_first : drop 1 (place_words names k) ≡ take session_length (drop (place_start k + 1) names)
  unfolding place_words part
  after_first = by (drop (place_start k) names) ∙ ap (take session_length) (drop-drop 1 (place_start k) names)
    where
      by : (l : List ℕ) → drop 1 (take place_length l) ≡ take session_length (drop 1 l)
      by [] = refl
      by (x ∷ l) = refl

  -- the session taken from these, and there are enough of them, is the one under the name
  pub kept_under : (at : ℕ) → at ≡ place_start k → place_start k + place_length ≤ length names
      → kept_in (take (at + place_length - (at + 1)) (drop (at + 1) names)) ≡ Some (session_under names k)
  unfolding session_under
  kept_under at e h =
      let n : at + place_length - (at + 1) ≡ session_length = omega arith in
      let w : take (at + place_length - (at + 1)) (drop (at + 1) names) ≡ drop 1 (place_words names k) = rw (n, e) (sym after_first) in
      let l : length (drop 1 (place_words names k)) ≡ session_length =
      ap length after_first ∙ length-take-le session_length (drop (place_start k + 1) names) (omega (arith, h, length-drop (place_start k + 1) names)) in
      rw w (kept-all (drop 1 (place_words names k)) (omega (arith, l)))

-- no name is set in new words
pub new-unset : (names : List ℕ) → names_length ≤ length names → (k : ℕ) → is_set (new_names names).buffer k ≡ false
new-unset names room k =
    by-test (is_name k)
    (λ is. rw (new-laid names room)
    (unset-word (unnamed ++ drop names_length names) k
    (get_or-append unnamed (drop names_length names) 0 (place_start k) (omega (arith, unnamed-length, place-within k is)) ∙ unnamed-at (place_start k))))
    (λ e. set-no-name _ k e)
