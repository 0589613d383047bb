-- Reads after well-formed words: the numbers of their newcomers.
use mathlib.Core.Path.{◌≡◌, sym, ap, ◌∙◌}
use Prim.Native.Nat.{ℕ, suc, ◌-◌}
use native.Mathlib.Omega.{arith}
use mathlib.Core.List.{List, [], ◌∷◌, ◌++◌, foldl}
use mathlib.Core.Bool.{false, or_comm}
use lib.ListN.{length}
use Rattle.reuse.specs.Lists.{mem, firsts, from, count}
use Rattle.reuse.specs.Lru.{Reuse, cold, touch, reuses, newcomers, is_cold}
use Rattle.reuse.specs.Summary.{first_of, recent_of, extents_of}
use Rattle.reuse.proofs.Lists.{mem-append}
use Rattle.reuse.proofs.Stack.{reuses-append}
use Rattle.reuse.proofs.Depth.{depth-absent}
use Rattle.reuse.proofs.Newcomers.{cold-longer, numbers-follow}
use Rattle.reuse.proofs.Across.{mem-over}
use Rattle.reuse.proofs.Words.{recent-length}
use Rattle.reuse.proofs.Formed.{Formed, recent-distinct, recent-first, prefix-stack}

-- reads after R of well-formed words
module _ (w : List ℕ) (f : Formed w) (reads : List ℕ) where
  -- a read of what neither has is cold, with the number of the extents of both, itself included
  pub prefix-newcomer : (x : ℕ) → mem x (first_of w ++ reads) ≡ false
      → reuses (recent_of w) (reads ++ (x ∷ [])) ≡ reuses (recent_of w) reads ++ (cold (suc (length (firsts (first_of w ++ reads)))) ∷ [])
  unfolding reuses
  prefix-newcomer x h =
      reuses-append (recent_of w) reads (x ∷ [])
      ∙ ap (λ (r : Reuse). reuses (recent_of w) reads ++ (r ∷ []))
      (depth-absent x (foldl touch (recent_of w) reads) absent ∙ ap (λ (n : ℕ). cold (suc n)) (prefix-stack w f reads))
    where
      -- the stack does not have it
      absent : mem x (foldl touch (recent_of w) reads) ≡ false
      absent = mem-over x (recent_of w) reads ∙ rw (recent-first w f x) (or_comm (mem x reads) (mem x (first_of w)) ∙ sym (mem-append x (first_of w) reads) ∙ h)

  -- the numbers go on from the extents of the words, one after the other, to the number of all extents
  pub prefix-numbers : newcomers (reuses (recent_of w) reads) ≡ from (suc (extents_of w)) (length (firsts (first_of w ++ reads)) - extents_of w)
  prefix-numbers =
      let e : length (recent_of w) ≡ extents_of w = recent-length w f.long in
      let c : count is_cold (reuses (recent_of w) reads) ≡ length (firsts (first_of w ++ reads)) - extents_of w =
      omega (arith, e, cold-longer (recent_of w) reads (recent-distinct w f), prefix-stack w f reads) in
      numbers-follow (recent_of w) reads (recent-distinct w f) ∙ rw (e, c)
