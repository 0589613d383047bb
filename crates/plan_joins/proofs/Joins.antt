-- A level's join: a law for each way that it returns, and what stands behind the level.
use Rattle.std.specs.Prelude.{Result}
use Rattle.reuse.specs.declared.refusals.Refusal.{Refusal}
use mathlib.Core.Path.{◌≡◌, sym, ap, ◌∙◌}
use Prim.Native.Nat.{ℕ, ◌+◌, ◌-◌, ◌≤◌, ◌<◌}
use native.Mathlib.Omega.{arith}
use mathlib.Core.List.{List}
use mathlib.Core.Bool.{true, false, and-false}
use lib.ListN.{length, take, drop}
use lib.Seq.{length-take-le}
use borrow.Author.Tests.{eq-eqb, ne_eqb, le-leb, lt-leb}
use borrow.Rule.Slice.PartMut.{mid_of}
use Rattle.reuse_rows.specs.Rows.{put_at, placed}
use Rattle.reuse_copies.proofs.Puts.{placed-fits}
use Rattle.summary_calls.specs.Calls.{Wrote, join_call}
use Rattle.plan_calls.specs.Calls.{summary_words, level_words, count_of}
use Rattle.reuse_copies.proofs.Puts.{put-before, put-there, put-after}
use Rattle.plan_joins.specs.Calls.{Joined, untouched, holds, joined_held, join_held}

-- two summaries that can be joined in a level's words
pub record Holdable (work : List ℕ) (held : ℕ) (out : List ℕ) (words : ℕ) : Type 0 where
  pub level : level_words ≤ length work
  pub first : held ≤ summary_words
  pub second : words ≤ summary_words
  pub fits : words ≤ length out

module _ (work : List ℕ) (held : ℕ) (out : List ℕ) (words : ℕ) where
  -- what the call answers and leaves, by its definition
  abbrev pub Gives : ℕ → List ℕ → List ℕ → Type 0
  Gives n w o =
      (n ≡ (join_held work held out words).words) × ((w ≡ (join_held work held out words).work) × (o ≡ (join_held work held out words).out))

  -- of a definition that is known
  gives : (n : ℕ) (w o : List ℕ) → join_held work held out words ≡ record { words = n; work = w; out = o } → Gives n w o
  gives n w o e = (sym (ap (λ (v : Joined). v.words) e), (sym (ap (λ (v : Joined). v.work) e), sym (ap (λ (v : Joined). v.out) e)))

  -- they do not fit
  unfit : holds work held out words ≡ false → Gives 0 work out
  unfolding join_held
  unfit e = gives 0 work out (rw e)

  -- fewer words than a level has
  pub level-short : length work < level_words → Gives 0 work out
  unfolding holds
  level-short h = unfit (rw (lt-leb level_words (length work) h))

  -- the summary held is too long
  pub held-long : summary_words < held → Gives 0 work out
  unfolding holds
  held-long h = unfit (simp (lt-leb held summary_words h, and-false))

  -- the one in the output is too long
  pub words_long : summary_words < words → Gives 0 work out
  unfolding holds
  words_long h = unfit (simp (lt-leb words summary_words h, and-false))

  -- the output has fewer words
  pub out-short : length out < words → Gives 0 work out
  unfolding holds
  out-short h = unfit (simp (lt-leb words (length out) h, and-false))

  module _ (h : Holdable work held out words) where
    -- they fit
    fit : holds work held out words ≡ true
    unfolding holds
    fit = rw (le-leb level_words (length work) h.level, le-leb held summary_words h.first, le-leb words summary_words h.second, le-leb words (length out) h.fits)

    -- none is held
    pub none-held : held ≡ 0 → join_held work held out words ≡ untouched words work out
    unfolding join_held
    none-held e = rw (fit, eq-eqb held 0 e)

    -- one is held
    pub one-held : (held ≡ 0 → ⊥) → join_held work held out words ≡ joined_held work held out words
    unfolding join_held
    one-held z = rw (fit, ne_eqb held 0 z)

    -- as many words as are laid
    laid-words : length (take words out) ≡ words
    laid-words = length-take-le words out h.fits

    -- they fit the second half
    laid-fits : summary_words + length (take words out) ≤ length work
    laid-fits = omega (arith, laid-words, h.second, h.level)

    -- what stands behind the level is as it was
    pub behind-kept : drop level_words (put_at work summary_words (take words out)) ≡ drop level_words work
    behind-kept = put-after work summary_words (take words out) laid-fits level_words (omega (arith, laid-words, h.second))

    -- nothing is held: the call's answer
    pub gives_none : held ≡ 0 → Gives words work out
    gives_none e = gives words work out (none-held e)

    -- both are joined: the call's answer
    pub gives_both : (held ≡ 0 → ⊥) → (w : List ℕ) → w ≡ placed work summary_words (take words out) → (answer : Result ℕ Refusal) (o : List ℕ)
        → answer ≡ (join_call (take held w) (mid_of summary_words (summary_words + words - summary_words) w) out).answer
        → o ≡ (join_call (take held w) (mid_of summary_words (summary_words + words - summary_words) w) out).buffer
        → Gives (count_of answer) w o
    unfolding joined_held
    gives_both z w e answer o a b =
        let p : w ≡ put_at work summary_words (take words out) = e ∙ placed-fits work summary_words (take words out) laid-fits in
        let m : summary_words + words - summary_words ≡ length (take words out) = omega (arith, laid-words) in
        let f : take held w ≡ take held work = ap (take held) p ∙ put-before work summary_words (take words out) laid-fits held h.first in
        let s : mid_of summary_words (summary_words + words - summary_words) w ≡ take words out =
        ap (mid_of summary_words (summary_words + words - summary_words)) p
        ∙ ap (λ (k : ℕ). mid_of summary_words k (put_at work summary_words (take words out))) m
        ∙ put-there work summary_words (take words out) laid-fits in
        let j : join_call (take held w) (mid_of summary_words (summary_words + words - summary_words) w) out ≡ join_call (take held work) (take words out) out =
        ap (λ (v : List ℕ). join_call v (mid_of summary_words (summary_words + words - summary_words) w) out) f ∙ ap (λ (v : List ℕ). join_call (take held work) v out) s in
        let g = gives _ _ _ (one-held z) in
        (ap count_of (a ∙ ap (λ (v : Wrote). v.answer) j) ∙ g.0, (p ∙ g.1.0, b ∙ ap (λ (v : Wrote). v.buffer) j ∙ g.1.1))
