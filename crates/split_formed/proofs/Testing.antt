-- How far the test has come: what is left of the words decides as all of them do.
use mathlib.Core.Path.{◌≡◌, sym, ◌∙◌}
use Prim.Native.Nat.{ℕ, ◌+◌, ◌-◌, ◌*◌, ◌≤◌, ◌<◌}
use native.Mathlib.Omega.{arith}
use mathlib.Core.List.{List}
use mathlib.Core.Bool.{true, false}
use lib.ListN.{length, take, drop, get_or, length-drop}
use lib.Seq.{take_all}
use Rattle.reuse.specs.Limits.{max_extents}
use Rattle.reuse.specs.Summary.{extents_of, well_formed}
use Rattle.split_calls.specs.Cuts.{cut_summaries}
use Rattle.split_calls.specs.Calls.{all_formed}
use Rattle.split_calls.proofs.Cuts.{formed-one, first-fails, first_passes, first_short}

-- `rest` are the words from the customer of this number on, 1 for the first
abbrev pub Remaining : List ℕ → ℕ → List ℕ → ℕ → Type 0
Remaining words customers rest number = all_formed (cut_summaries (customers + 1 - number) rest) ≡ all_formed (cut_summaries customers words)

module _ (words : List ℕ) (customers : ℕ) (rest : List ℕ) (number : ℕ) (r : Remaining words customers rest number) where
  -- of one customer all words that are left are its own
  pub remaining-end : number ≡ customers → well_formed rest ≡ all_formed (cut_summaries customers words)
  remaining-end e = sym (formed-one (customers + 1 - number) rest (omega arith)) ∙ r

  module _ (more : number < customers) where
    -- words too few for the first summary, or with more extents than the limit
    pub remaining-short : (2 + 3 * get_or rest 1 0 ≤ length rest → get_or rest 1 0 ≤ max_extents → ⊥) → false ≡ all_formed (cut_summaries customers words)
    unfolding extents_of
    remaining-short k = sym (first_short (customers + 1 - number) rest (omega arith) k) ∙ r

    -- a first summary that is not well formed
    pub remaining-bad : well_formed (take (2 + 3 * get_or rest 1 0) rest) ≡ false → false ≡ all_formed (cut_summaries customers words)
    unfolding extents_of
    remaining-bad h = sym (first-fails (customers + 1 - number) rest (omega arith) h) ∙ r

    -- one that is: the others are left
    pub remaining-turn : (own : ℕ) → own ≡ 2 + 3 * get_or rest 1 0 → own ≤ length rest → well_formed (take own rest) ≡ true
        → Remaining words customers (take (length rest - own) (drop own rest)) (number + 1)
    unfolding extents_of
    remaining-turn own e l h =
        let n : customers + 1 - (number + 1) ≡ customers + 1 - number - 1 = omega arith in
        rw (take_all (length rest - own) (drop own rest) (omega (arith, length-drop own rest)), n, e)
        (first_passes (customers + 1 - number) rest (omega arith) (rw e at h) ∙ r)
