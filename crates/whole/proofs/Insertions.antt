-- What one more read does to the misses of a log, proved.
use Rattle.std.specs.Prelude.{Result, Ok, Err}
use Rattle.reuse.specs.declared.refusals.Refusal.{Refusal}
use Prim.Native.Nat.{ℕ, zero, suc, ◌<◌}
use mathlib.Core.Path.{◌≡◌, sym, ap, ap₂, ◌∙◌}
use native.Mathlib.Omega.{arith}
use mathlib.Core.List.{List}
use lib.IntN.{ℤ, pos, ◌-ℤ◌}
use lib.Signed.{◌≤ℤ◌}
use Rattle.reuse.specs.Cache.{cache_misses}
use Rattle.reuse.specs.Traces.{Within}
use Rattle.session.specs.Sessions.{fresh}
use Rattle.session_summary.specs.Summaries.{misses_call}
use Rattle.insertion_calls.specs.Insertion.{put, change_of, Bounded}
use Rattle.insertion_calls.specs.Calls.{insertion_call}
use Rattle.insertion_calls.proofs.Puts.{within-put}
use Rattle.insertion_calls.proofs.Calls.{call-change}
use Rattle.insertion_calls.proofs.Refusals.{change-is}
use Rattle.insertion_calls.proofs.Changes.{change-bounded, change-cache, change-zero, change-one, change-all, change-before, change-after}
use Rattle.insertion_calls.proofs.Reached.{upper-reached, lower-reached, upper-called, lower-called}
use Rattle.whole.specs.Runs.{session_after}
use Rattle.whole.specs.Insertions.{Insertions, EndsReached}
use Rattle.whole.proofs.Counts.{counts}

-- the number in an answer of misses
abbrev misses_in : Result ℕ Refusal → ℕ
misses_in (Ok n) = n
misses_in (Err why) = 0

-- what a session tells of the log it read
told : (c : ℕ) (t : List ℕ) → Within t → (n : ℕ) → misses_call (session_after fresh t) c ≡ Ok n → cache_misses c t ≡ n
told c t w n e = ap misses_in (sym (counts c t w).session-misses ∙ e)

-- below size 2 no read spares a miss
none-spared : (c place x : ℕ) (t : List ℕ) → c < 2 → pos 0 ≤ℤ change_of c place x t
none-spared zero place x t l = rw (change-zero place x t) (record { le = tt })
none-spared (suc zero) place x t l = change-one place x t
none-spared (suc (suc c)) place x t l = absurd (omega arith)

module _ (t : List ℕ) (place x c : ℕ) where
  -- what the call answers lies in the range
  in-range : (d : ℤ) → insertion_call t place x c ≡ Ok d → Bounded c d
  in-range d e = rw (change-is t place x c d e) (change-bounded c place x t)

  -- of every log, place, extent and size
  pub insertions : Insertions t place x c
  insertions = record {
    bounded = change-bounded c place x t;
    answers-bounded = in-range;
    cached = change-cache c place x t;
    readings = λ l w with without e f.
        call-change t place x c l w
        ∙ ap Ok
        (change-cache c place x t
        ∙ ap₂ (λ (a b : ℕ). pos a -ℤ pos b) (told c (put place x t) w with e) (told c t (within-put place x t w) without f));
    nothing-held = λ z. rw z (change-zero place x t);
    nothing-spared = none-spared c place x t;
    room-for-all = change-all c place x t;
    before-itself = change-before c place x t;
    after-itself = change-after c place x t;
  }

-- of every size
pub ends-reached : (c : ℕ) → EndsReached c
ends-reached c = record {
  upper = upper-reached c;
  lower = lower-reached c;
  upper-called = upper-called c;
  lower-called = lower-called c;
}
