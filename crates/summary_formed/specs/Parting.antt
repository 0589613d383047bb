-- The parts of a summary's words.
use Rattle.std.specs.Prelude.{List, ℕ, ◌≡◌, true}
use Rattle.reuse.specs.Summary.{well_formed, reads_of, first_of, recent_of, counts_of}
use Rattle.summary_formed.specs.declared.Parts.{Parts}

-- the words are well formed, and these are their parts
pub record PartsOf (w : List ℕ) (p : Parts) : Type 0 where
  pub formed : well_formed w ≡ true
  pub reads : p.reads ≡ reads_of w
  pub first : p.first.now ≡ first_of w
  pub recent : p.recent.now ≡ recent_of w
  pub counts : p.counts.now ≡ counts_of w
