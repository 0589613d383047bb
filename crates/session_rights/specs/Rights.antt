-- Right-hand sums over a row of marks: for each branching point the marks under its right child, and one count of all marks.
use Rattle.std.specs.Prelude.{ℕ, zero, suc, ◌-◌, ◌^◌, ◌≡◌, List, [], ◌∷◌, ◌++◌, Bool, true, ◌&&◌, leb, length, take, drop}
use Rattle.reuse.specs.Lists.{sum}
use Rattle.session_sums.specs.Sums.{pairs}

-- the right children of a level: every second word
unfoldable pub odds : List ℕ → List ℕ
odds [] = []
odds (x ∷ []) = []
odds (x ∷ y ∷ l) = y ∷ odds l

-- the right-hand sums over 2 ^ d marks: those of the lowest branching points first, then each level above, the root's last
unfoldable pub rights_of : ℕ → List ℕ → List ℕ
rights_of zero marks = []
rights_of (suc d) marks = odds marks ++ rights_of d (pairs marks)

-- a level worked out from the totals above it: the left child has its point's total less the right-hand sum, the right child that sum
unfoldable pub children : List ℕ → List ℕ → List ℕ
children [] rights = []
children (t ∷ totals) [] = []
children (t ∷ totals) (r ∷ rights) = (t - r) ∷ r ∷ children totals rights

-- the marks worked out from above: the root's total is the count, and each level gives the next
unfoldable pub marks_from : ℕ → ℕ → List ℕ → List ℕ
marks_from zero count rights = count ∷ []
marks_from (suc d) count rights = children (marks_from d count (drop (2 ^ d) rights)) (take (2 ^ d) rights)

-- no right-hand sum of a level is above its point's total
unfoldable pub none_above : List ℕ → List ℕ → Bool
none_above [] totals = true
none_above (r ∷ rights) [] = true
none_above (r ∷ rights) (t ∷ totals) = leb r t && none_above rights totals

-- no right-hand sum of any level is above its point's total
unfoldable pub in_totals : ℕ → ℕ → List ℕ → Bool
in_totals zero count rights = true
in_totals (suc d) count rights =
    in_totals d count (drop (2 ^ d) rights)
    && none_above (take (2 ^ d) rights) (marks_from d count (drop (2 ^ d) rights))

-- each mark is 0 or 1
unfoldable pub zero_one : List ℕ → Bool
zero_one [] = true
zero_one (m ∷ marks) = leb m 1 && zero_one marks

-- the test of right-hand sums and a count: no sum above its point's total, and each mark worked out 0 or 1
unfoldable pub rightly : ℕ → ℕ → List ℕ → Bool
rightly d count rights = in_totals d count rights && zero_one (marks_from d count rights)

-- a full row of marks that has this count and these right-hand sums
pub record Gives (d count : ℕ) (rights marks : List ℕ) : Type 0 where
  pub full : length marks ≡ 2 ^ d
  pub counted : sum marks ≡ count
  pub summed : rights_of d marks ≡ rights
