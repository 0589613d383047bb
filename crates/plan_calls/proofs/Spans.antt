-- Parts of a log: within its limits, with no more extents and no longer summaries, and end to end.
use mathlib.Core.Path.{◌≡◌, sym, ap, subst, ◌∙◌}
use Prim.Native.Nat.{ℕ, ◌+◌, ◌*◌, ◌≤◌}
use native.Mathlib.Omega.{arith}
use mathlib.Core.List.{List, [], ◌∷◌, ◌++◌}
use lib.ListN.{length, take, drop, take-append-drop}
use lib.Seq.{take-add, drop-drop}
use Rattle.reuse.specs.Lists.{firsts}
use Rattle.reuse.specs.Summary.{summary_of}
use Rattle.reuse.specs.Traces.{Within}
use Rattle.reuse.proofs.Words.{length-summary}
use Rattle.reuse.proofs.Lists.{firsts-longer}
use Rattle.reuse.proofs.Formed.{firsts-grow}
use Rattle.reuse.proofs.Traces.{within-part}
use Rattle.plan_calls.specs.Standing.{span}

-- the back of a log has no more extents
back-extents : (a b : List ℕ) → length (firsts b) ≤ length (firsts (a ++ b))
back-extents [] b = omega arith
back-extents (x ∷ a) b = omega (arith, back-extents a b, firsts-grow x (a ++ b))

-- nor has its summary more words
pub back-words : (a b : List ℕ) → length (summary_of b) ≤ length (summary_of (a ++ b))
back-words a b = omega (arith, length-summary b, length-summary (a ++ b), back-extents a b)

-- the same of the front
pub front-words : (a b : List ℕ) → length (summary_of a) ≤ length (summary_of (a ++ b))
front-words a b = omega (arith, length-summary a, length-summary (a ++ b), firsts-longer b a)

module _ (log : List ℕ) where
  -- a log, around a part of it
  around : (from n : ℕ) → log ≡ take from log ++ (span from n log ++ drop n (drop from log))
  around from n =
      sym (take-append-drop from log) ∙ ap (λ (v : List ℕ). take from log ++ v) (sym (take-append-drop n (drop from log)))

  -- a part of a log within the limits is within them
  pub span-within : (from n : ℕ) → Within log → Within (span from n log)
  span-within from n w = within-part (take from log) (span from n log) (drop n (drop from log)) (subst Within (around from n) w)

  -- a part of a log has no more extents
  pub span-extents : (from n : ℕ) → length (firsts (span from n log)) ≤ length (firsts log)
  span-extents from n =
      let f = firsts-longer (drop n (drop from log)) (span from n log) in
      let b = back-extents (take from log) (span from n log ++ drop n (drop from log)) in
      let e : length (firsts log) ≡ length (firsts (take from log ++ (span from n log ++ drop n (drop from log)))) = ap (λ (v : List ℕ). length (firsts v)) (around from n) in
      omega arith

  -- two parts end to end
  pub span-append : (from k n taken : ℕ) → from + k ≡ taken → span from k log ++ span taken n log ≡ span from (k + n) log
  span-append from k n taken e =
      sym (take-add k n (drop from log) ∙ ap (λ (v : List ℕ). take k (drop from log) ++ take n v) (drop-drop k from log ∙ ap (λ (m : ℕ). drop m log) e))

  -- the words of a part's summary
  pub span-words : (from n : ℕ) → length (summary_of (span from n log)) ≤ 2 + 3 * length (firsts log)
  span-words from n = omega (arith, length-summary (span from n log), span-extents from n)
