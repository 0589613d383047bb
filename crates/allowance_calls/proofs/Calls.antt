-- What the call for the smallest cache answers, by what holds of the words.
use Rattle.std.specs.Prelude.{Ok, Err}
use Rattle.reuse.specs.declared.refusals.Refusal.TheVariants.{NotASummary, BelowCold}
use mathlib.Core.Path.{◌≡◌, sym, ap, ◌∙◌}
use Prim.Native.Nat.{ℕ, ◌≤◌, ◌<◌}
use mathlib.Core.List.{List}
use mathlib.Core.Bool.{true, false}
use lib.ListN.{length}
use borrow.Author.Tests.{le-leb, lt-leb}
use Rattle.reuse.specs.Summary.{extents_of, well_formed}
use Rattle.reuse.proofs.Formed.{formed}
use Rattle.allowance_calls.specs.Smallest.{smallest}
use Rattle.allowance_calls.specs.Search.{words_searched}
use Rattle.allowance_calls.specs.Calls.{smallest_call}
use Rattle.allowance_calls.proofs.Search.{words-read}

module _ (w : List ℕ) (m : ℕ) where
  -- for words that are not well formed: 5
  pub call-bad : well_formed w ≡ false → smallest_call w m ≡ Err NotASummary
  unfolding smallest_call
  call-bad h = rw h

  -- below the cold reads: 12
  pub call_below : well_formed w ≡ true → m < extents_of w → smallest_call w m ≡ Err BelowCold
  unfolding smallest_call
  call_below h l = rw (h, lt-leb _ _ l)

  -- from there up: the smallest size, and as many words read
  pub call-size : well_formed w ≡ true → extents_of w ≤ m → smallest_call w m ≡ Ok (record { size = smallest w m; words_read = (smallest w m) })
  unfolding smallest_call
  call-size h e = rw (h, le-leb _ _ e) (ap (λ (n : ℕ). Ok (record { size = smallest w m; words_read = n })) (words-read w m (formed w h) e))

  -- by the words read alone
  pub call-searched : well_formed w ≡ true → extents_of w ≤ m → smallest_call w m ≡ Ok (record { size = (length (words_searched w m)); words_read = (length (words_searched w m)) })
  call-searched h e = call-size h e ∙ sym (ap (λ (n : ℕ). Ok (record { size = n; words_read = n })) (words-read w m (formed w h) e))
