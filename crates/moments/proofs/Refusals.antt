-- Each refusal of a naming and of a return is given exactly under its condition, in order, and leaves what was there.
use Rattle.std.specs.Prelude.{Result, Ok, Err}
use Rattle.reuse.specs.Refusals.{refusal_number}
use Rattle.reuse.specs.declared.refusals.Refusal.{Refusal}
use Rattle.reuse.specs.declared.refusals.Refusal.TheVariants.{OutOfRange, NoRoom, Unsound, NameNotSet}
use mathlib.Core.Path.{◌≡◌, refl}
use Prim.Native.Nat.{ℕ}
use native.Mathlib.Omega.{arith}
use mathlib.Core.Bool.{Bool, true, false, cond}
use mathlib.Core.List.{List}
use lib.ListN.{length}
use Rattle.reuse.proofs.Tests.{exactly-first, exactly-second, exactly-third}
use Rattle.session.specs.declared.Session.{Session}
use Rattle.session.specs.Sessions.{sound}
use Rattle.moments.specs.declared.Returned.{Returned}
use Rattle.moments.specs.Names.{is_name, lies, is_set, session_under, named_in, Named, not_named, name_call, not_returned, return_call}
use Rattle.moments.specs.Refusals.{moment_refusal, NamingRefusals, ReturnRefusals}
use Rattle.moments.proofs.Places.{set-name}

-- three tests, each looked at after those before it, with the refusals a, b and c, and the answer where all of them hold
abbrev pub answer_by : Refusal → Refusal → Refusal → Result Unit Refusal → Bool → Bool → Bool → Result Unit Refusal
answer_by a b c rest p q r = cond p (cond q (cond r rest (Err c)) (Err b)) (Err a)

-- the number it gives
pub answer-number : (a b c : Refusal) (rest : Result Unit Refusal) (p q r : Bool)
    → moment_refusal (answer_by a b c rest p q r) ≡ cond p (cond q (cond r (moment_refusal rest) (refusal_number c)) (refusal_number b)) (refusal_number a)
answer-number a b c rest true true true = refl
answer-number a b c rest true true false = refl
answer-number a b c rest true false r = refl
answer-number a b c rest false q r = refl

module _ (s : Session) (names : List ℕ) (k : ℕ) where
  -- a naming by its three tests
  abbrev pub named_by : Bool → Bool → Bool → Named
  named_by p q r = cond p (cond q (cond r (record { answer = Ok tt; names = named_in names k s }) (not_named NoRoom names)) (not_named Unsound names)) (not_named OutOfRange names)

  -- its answer
  name-answer : (p q r : Bool) → (named_by p q r).answer ≡ answer_by OutOfRange Unsound NoRoom (Ok tt) p q r
  name-answer true true true = refl
  name-answer true true false = refl
  name-answer true false r = refl
  name-answer false q r = refl

  -- a refusal leaves the words
  name-kept : (p q r : Bool) → (moment_refusal (named_by p q r).answer ≡ 0 → ⊥) → (named_by p q r).names ≡ names
  name-kept true true true h = absurd (h refl)
  name-kept true true false h = refl
  name-kept true false r h = refl
  name-kept false q r h = refl

  -- of every naming
  pub naming-refusals : NamingRefusals s names k
  unfolding name_call
  naming-refusals =
      let p : Bool = is_name k in
      let q : Bool = sound s in
      let r : Bool = lies (length names) k in
      record {
        two = rw (name-answer p q r, answer-number OutOfRange Unsound NoRoom (Ok tt) p q r) (exactly-first 2 7 6 (λ e. omega arith) (λ e. omega arith) (λ e. omega arith) 0 (λ e. omega arith) p q r);
        seven = rw (name-answer p q r, answer-number OutOfRange Unsound NoRoom (Ok tt) p q r) (exactly-second 2 7 6 (λ e. omega arith) (λ e. omega arith) (λ e. omega arith) 0 (λ e. omega arith) p q r);
        six = rw (name-answer p q r, answer-number OutOfRange Unsound NoRoom (Ok tt) p q r) (exactly-third 2 7 6 (λ e. omega arith) (λ e. omega arith) (λ e. omega arith) 0 (λ e. omega arith) p q r);
        kept = name-kept p q r;
      }

  -- a return by its three tests
  abbrev pub returned_by : Bool → Bool → Bool → Returned
  returned_by p q r = cond p (cond q (cond r (record { session = session_under names k; answer = Ok tt }) (not_returned Unsound s)) (not_returned NameNotSet s)) (not_returned OutOfRange s)

  -- its answer
  return-answer : (p q r : Bool) → (returned_by p q r).answer ≡ answer_by OutOfRange NameNotSet Unsound (Ok tt) p q r
  return-answer true true true = refl
  return-answer true true false = refl
  return-answer true false r = refl
  return-answer false q r = refl

  -- a refusal leaves the present session
  return_kept : (p q r : Bool) (n : Refusal) → (returned_by p q r).answer ≡ Err n → (returned_by p q r).session ≡ s
  return_kept true true true n e = absurd (cc)
  return_kept true true false n e = refl
  return_kept true false r n e = refl
  return_kept false q r n e = refl

  pub returned-same : (n : Refusal) → (return_call s names k).answer ≡ Err n → (return_call s names k).session ≡ s
  unfolding return_call
  returned-same = return_kept (is_name k) (is_set names k) (sound (session_under names k))

  -- of every return
  pub return-refusals : ReturnRefusals s names k
  unfolding return_call
  return-refusals =
      let p : Bool = is_name k in
      let q : Bool = is_set names k in
      let r : Bool = sound (session_under names k) in
      let third = exactly-third 2 11 7 (λ e. omega arith) (λ e. omega arith) (λ e. omega arith) 0 (λ e. omega arith) p q r in
      record {
        two = rw (return-answer p q r, answer-number OutOfRange NameNotSet Unsound (Ok tt) p q r) (exactly-first 2 11 7 (λ e. omega arith) (λ e. omega arith) (λ e. omega arith) 0 (λ e. omega arith) p q r);
        eleven = rw (return-answer p q r, answer-number OutOfRange NameNotSet Unsound (Ok tt) p q r) (exactly-second 2 11 7 (λ e. omega arith) (λ e. omega arith) (λ e. omega arith) 0 (λ e. omega arith) p q r);
        seven = rw (return-answer p q r, answer-number OutOfRange NameNotSet Unsound (Ok tt) p q r) (λ e. let h = third.0 e in (h.1, h.2), λ e. third.1 (set-name names k e.0, e.0, e.1));
        kept = by (returned_by p q r).answer refl;
      }
    where
      -- by the answer
      by : (a : Result Unit Refusal) → (return_call s names k).answer ≡ a → (moment_refusal a ≡ 0 → ⊥) → (return_call s names k).session ≡ s
      by (Ok tt) e h = absurd (h refl)
      by (Err n) e h = returned-same n e
