-- The least of a run: one place more.
use Rattle.std.proofs.Common.{◌≡◌, ℕ, suc, ◌+◌, ◌-◌, ◌≤◌, min, ap, ◌∙◌, arith}
use Rattle.split_calls.specs.Tables.{lowest}
use Rattle.split_calls.proofs.Steps.{lowest-snoc}

-- as many places are as many
pub lowest_upto : (f : ℕ → ℕ) (i j least : ℕ) → least ≡ lowest f 0 i → i ≡ j → least ≡ lowest f 0 j
lowest_upto f i j least e q = e ∙ ap (lowest f 0) q

-- the least of the places before i, and place i
pub lowest-turn : (f : ℕ → ℕ) (i j least more : ℕ) → 1 ≤ i → least ≡ lowest f 0 (i - 1) → more ≡ min least (f i) → i ≡ j → more ≡ lowest f 0 j
lowest-turn f i j least more h e m q =
    let p : suc (i - 1) ≡ i = omega arith in
    let d : f (0 + suc (i - 1)) ≡ f i = ap f (let d : 0 + suc (i - 1) ≡ i = omega arith in d) in
    lowest_upto f i j more (omega (arith, e, ap (lowest f 0) p, lowest-snoc f 0 (i - 1))) q
