-- A row of words turned round.
use mathlib.Core.Path.{◌≡◌, sym, ap, ◌∙◌}
use Prim.Native.Nat.{ℕ, ◌-◌, ◌≤◌, min}
use native.Mathlib.Omega.{arith}
use mathlib.Core.List.{List, ◌++◌, reverse, reverse-append}
use lib.ListN.{length, take, drop, replicate, take-append-drop, length-drop, length-reverse}
use lib.Seq.{take_at, drop_at}
use Rattle.reuse.specs.Limits.{max_extents}
use Rattle.reuse_rows.specs.Rows.{padded}
use Rattle.reuse_rows.proofs.Slices.{part-rest}
use Rattle.reuse_copies.proofs.Padding.{laid-over, short, padded-front}

-- the last n words turned round are the first n of all turned round
turned-last : (w : List ℕ) (n : ℕ) → n ≤ length w → reverse (drop (length w - n) w) ≡ take n (reverse w)
turned-last w n h =
    let k = length w - n in
    let r : length (reverse (drop k w)) ≡ n = length-reverse (drop k w) ∙ length-drop k w ∙ omega arith in
    sym (ap (λ (l : List ℕ). take n (reverse l)) (sym (take-append-drop k w))
    ∙ ap (take n) (reverse-append (take k w) (drop k w))
    ∙ take_at (reverse (drop k w)) (reverse (take k w)) n r)

-- the last n words, as many as fit, in a row of which the first n are turned round
pub turned-row : (w : List ℕ) (n : ℕ) → n ≡ min (length w) max_extents → (row top : List ℕ)
    → row ≡ padded (take (length w - (length w - n)) (drop (length w - n) w)) → top ≡ reverse (take n row)
    → top ++ drop n row ≡ padded (reverse w)
turned-row w n h row top e f =
    let v = drop (length w - n) w in
    let l : length v ≡ n = length-drop (length w - n) w ∙ omega arith in
    let z : List ℕ = replicate max_extents 0 in
    let p : row ≡ padded v = e ∙ ap padded (part-rest w (length w - n)) in
    let t : take n row ≡ v = ap (take n) p ∙ ap (λ (k : ℕ). take k (padded v)) (sym l) ∙ padded-front v (omega arith) in
    let d : drop n row ≡ drop n z = ap (drop n) (p ∙ short v (omega arith)) ∙ drop_at v (drop (length v) z) n l ∙ ap (λ (k : ℕ). drop k z) l in
    let r : top ≡ take n (reverse w) = f ∙ ap reverse t ∙ turned-last w n (omega arith) in
    rw (r, d) (laid-over (reverse w) n (omega (arith, length-reverse w)))
