-- `summary_formed::well_formed` meets its contract: the parts are answered exactly where the words are well formed.
use Rattle.std.proofs.Common.{◌≡◌, ℕ, List, Option, Some, None, is_some, false, refl, sym, ◌∙◌}
use Rattle.reuse.specs.Summary.{well_formed}
use Rattle.summary_formed.specs.declared.Parts.{Parts}
use Rattle.summary_formed.specs.Parting.{PartsOf}
use Rattle.summary_formed.proofs.well_formed.Goals as goal

-- whether there are parts
told : (w : List ℕ) (o : Option Parts) → (o ≡ None → well_formed w ≡ false) × ((p : Parts) → o ≡ Some p → PartsOf w p) → is_some o ≡ well_formed w
told w None h = sym (h.0 refl)
told w (Some p) h = sym (h.1 p refl).formed

pub returns : goal.returns
returns c = c.is_some.ensures ∙ told _ _ c.of.ensures
