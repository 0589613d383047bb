-- Each refusal of the call on one more read is given exactly under its condition, in order.
use Rattle.std.specs.Prelude.{Result, Ok, Err}
use Rattle.reuse.specs.declared.refusals.Refusal.{Refusal}
use Rattle.reuse.specs.declared.refusals.Refusal.TheVariants.{OutOfRange, TooManyReads, TooManyExtents}
use mathlib.Core.Path.{◌≡◌, refl, sym, ap}
use mathlib.Core.Logic.{◌↔◌}
use Prim.Native.Nat.{ℕ, ◌≤◌}
use native.Mathlib.Omega.{arith}
use mathlib.Core.Bool.{Bool, true, false, cond, false≢true}
use mathlib.Core.List.{List}
use lib.Dec.{leb}
use lib.IntN.{ℤ, pos}
use lib.ListN.{length}
use borrow.Author.Tests.{leb-true, leb-false, le-leb, lt-leb}
use Rattle.reuse.specs.Limits.{max_reads, max_extents}
use Rattle.reuse.specs.Lists.{firsts}
use Rattle.reuse.proofs.Tests.{exactly-first, exactly-second, exactly-third}
use Rattle.insertion_calls.specs.Insertion.{put, change_of}
use Rattle.insertion_calls.specs.Calls.{insertion_call}
use Rattle.insertion_calls.specs.Refusals.{insertion_refusal, Refusals}

-- the number in an answer that is a change
abbrev change_in : Result ℤ Refusal → ℤ
change_in (Ok d) = d
change_in (Err n) = pos 0

-- a change after three tests, each looked at after those before it
module _ (d : ℤ) where
  abbrev answer_by : Bool → Bool → Bool → Result ℤ Refusal
  answer_by p q r = cond p (cond q (cond r (Ok d) (Err TooManyExtents)) (Err TooManyReads)) (Err OutOfRange)

  -- its refusal's number
  number : (p q r : Bool) → insertion_refusal (answer_by p q r) ≡ cond p (cond q (cond r 0 9) 8) 2
  number true true true = refl
  number true true false = refl
  number true false r = refl
  number false q r = refl

  -- the change where none fails
  none-fails : (p q r : Bool) → answer_by p q r ≡ Ok d ↔ ((p ≡ true) × (q ≡ true) × (r ≡ true))
  none-fails true true true = (λ e. (refl, refl, refl), λ e. refl)
  none-fails true true false = (λ e. absurd (omega (arith, ap insertion_refusal e)), λ e. absurd (false≢true e.2))
  none-fails true false r = (λ e. absurd (omega (arith, ap insertion_refusal e)), λ e. absurd (false≢true e.1))
  none-fails false q r = (λ e. absurd (omega (arith, ap insertion_refusal e)), λ e. absurd (false≢true e.0))

  -- no other change is answered
  only-change : (e : ℤ) (p q r : Bool) → answer_by p q r ≡ Ok e → e ≡ d
  only-change e true true true h = sym (ap change_in h)
  only-change e true true false h = absurd (omega (arith, ap insertion_refusal h))
  only-change e true false r h = absurd (omega (arith, ap insertion_refusal h))
  only-change e false q r h = absurd (omega (arith, ap insertion_refusal h))

module _ (log : List ℕ) (place x c : ℕ) where
  -- the three tests: the place, the reads of the longer log, and its extents
  abbrev placed : Bool
  placed = leb place (length log)

  abbrev short : Bool
  short = leb (length (put place x log)) max_reads

  abbrev few : Bool
  few = leb (length (firsts (put place x log))) max_extents

  -- what they tell
  in-log : placed ≡ true → place ≤ length log
  in-log = leb-true place (length log)

  in-reads : short ≡ true → length (put place x log) ≤ max_reads
  in-reads = leb-true (length (put place x log)) max_reads

  in-extents : few ≡ true → length (firsts (put place x log)) ≤ max_extents
  in-extents = leb-true (length (firsts (put place x log))) max_extents

  -- and what tells them
  log-in : place ≤ length log → placed ≡ true
  log-in = le-leb place (length log)

  reads_in : length (put place x log) ≤ max_reads → short ≡ true
  reads_in = le-leb (length (put place x log)) max_reads

  extents-in : length (firsts (put place x log)) ≤ max_extents → few ≡ true
  extents-in = le-leb (length (firsts (put place x log))) max_extents

  -- a change answered is the one defined
  pub change-is : (d : ℤ) → insertion_call log place x c ≡ Ok d → d ≡ change_of c place x log
  unfolding insertion_call
  change-is d = only-change (change_of c place x log) d placed short few

  -- of every call
  pub refusals : Refusals log place x c
  unfolding insertion_call
  refusals =
      let d : ℤ = change_of c place x log in
      let same = number d placed short few in
      let two = exactly-first 2 8 9 (λ e. omega arith) (λ e. omega arith) (λ e. omega arith) 0 (λ e. omega arith) placed short few in
      let eight = exactly-second 2 8 9 (λ e. omega arith) (λ e. omega arith) (λ e. omega arith) 0 (λ e. omega arith) placed short few in
      let nine = exactly-third 2 8 9 (λ e. omega arith) (λ e. omega arith) (λ e. omega arith) 0 (λ e. omega arith) placed short few in
      let none = none-fails d placed short few in
      record {
        two = rw same (λ e. leb-false place (length log) (two.0 e), λ l. two.1 (lt-leb place (length log) l));
        eight = rw same (
          λ e. let h = eight.0 e in (in-log h.0, leb-false (length (put place x log)) max_reads h.1),
          λ h. eight.1 (log-in h.0, lt-leb (length (put place x log)) max_reads h.1),
        );
        nine = rw same (
          λ e. let h = nine.0 e in (in-log h.0, in-reads h.1, leb-false (length (firsts (put place x log))) max_extents h.2),
          λ h. nine.1 (log-in h.0, reads_in h.1, lt-leb (length (firsts (put place x log))) max_extents h.2),
        );
        answered = (
          λ e. let h = none.0 e in (in-log h.0, record { reads = in-reads h.1; extents = in-extents h.2 }),
          λ h. none.1 (log-in h.0, reads_in h.1.reads, extents-in h.1.extents),
        );
      }
