-- Each refusal of a naming and of a return in lent words is given exactly under its condition, in order, and leaves every word.
use Rattle.std.specs.Prelude.{Result, Ok, Err}
use Rattle.reuse.specs.declared.refusals.Refusal.{Refusal}
use Rattle.reuse.specs.declared.refusals.Refusal.TheVariants.{OutOfRange, NoRoom, Unsound, NameNotSet}
use mathlib.Core.Path.{◌≡◌, refl}
use mathlib.Core.Logic.{◌↔◌}
use Prim.Native.Nat.{ℕ}
use native.Mathlib.Omega.{arith}
use mathlib.Core.Bool.{Bool, true, false, cond, ◌&&◌, true≢false}
use mathlib.Core.List.{List}
use lib.Dec.{leb}
use lib.ListN.{length}
use borrow.Author.Tests.{lt-leb, leb-false}
use Rattle.reuse.proofs.Tests.{exactly-first, exactly-second, exactly-third, exactly-rest}
use Rattle.reuse_rows.specs.Rows.{put_at}
use Rattle.session.specs.Sessions.{sound}
use Rattle.session_layout.specs.Layout.{session_length, session_in, session_laid}
use Rattle.moments.specs.Names.{is_name, lies, is_set, session_under, Named, not_named, name_call}
use Rattle.moments.specs.Refusals.{moment_refusal}
use Rattle.moments.proofs.Places.{set-name}
use Rattle.moments.proofs.Refusals.{answer_by, answer-number, named_by}
use Rattle.moments_words.specs.Calls.{Came, not_came, name_in, return_in}
use Rattle.moments_words.specs.Refusals.{NamingInWords, ReturnInWords}

-- the answer of a return where nothing but room for the session is asked
abbrev roomed : Bool → Result Unit Refusal
roomed e = cond e (Ok tt) (Err NoRoom)

-- it has no number but 6
roomed-other : (e : Bool) (n : ℕ) → (0 ≡ n → ⊥) → (6 ≡ n → ⊥) → moment_refusal (roomed e) ≡ n → ⊥
roomed-other true n x y h = x h
roomed-other false n x y h = y h

-- and that exactly if there is no room
roomed-six : (e : Bool) → moment_refusal (roomed e) ≡ 6 ↔ e ≡ false
roomed-six true = (λ n. absurd (omega arith), λ h. absurd (true≢false h))
roomed-six false = (λ n. refl, λ h. refl)

module _ (w names : List ℕ) (k : ℕ) where
  -- a naming by its tests: the name, enough words, the session in them, the place
  abbrev named : Bool → Bool → Bool → Bool → Named
  named p e q r = cond p (cond e (named_by (session_in w) names k p q r) (not_named Unsound names)) (not_named OutOfRange names)

  -- its answer
  name-answer : (p e q r : Bool) → (named p e q r).answer ≡ answer_by OutOfRange Unsound NoRoom (Ok tt) p (e && q) r
  name-answer true true true true = refl
  name-answer true true true false = refl
  name-answer true true false r = refl
  name-answer true false q r = refl
  name-answer false e q r = refl

  -- a refusal leaves the words
  name-kept : (p e q r : Bool) → (moment_refusal (named p e q r).answer ≡ 0 → ⊥) → (named p e q r).names ≡ names
  name-kept true true true true h = absurd (h refl)
  name-kept true true true false h = refl
  name-kept true true false r h = refl
  name-kept true false q r h = refl
  name-kept false e q r h = refl

  -- of every naming
  pub naming-in-words : NamingInWords w names k
  unfolding name_in name_call
  naming-in-words =
      let p : Bool = is_name k in
      let e : Bool = leb session_length (length w) in
      let q : Bool = sound (session_in w) in
      let r : Bool = lies (length names) k in
      record {
        two = rw (name-answer p e q r, answer-number OutOfRange Unsound NoRoom (Ok tt) p (e && q) r) (exactly-first 2 7 6 (λ e. omega arith) (λ e. omega arith) (λ e. omega arith) 0 (λ n. omega arith) p (e && q) r);
        seven = rw (name-answer p e q r, answer-number OutOfRange Unsound NoRoom (Ok tt) p (e && q) r) (exactly-second 2 7 6 (λ e. omega arith) (λ e. omega arith) (λ e. omega arith) 0 (λ n. omega arith) p (e && q) r);
        six = rw (name-answer p e q r, answer-number OutOfRange Unsound NoRoom (Ok tt) p (e && q) r) (exactly-third 2 7 6 (λ e. omega arith) (λ e. omega arith) (λ e. omega arith) 0 (λ n. omega arith) p (e && q) r);
        kept = name-kept p e q r;
      }

  -- a return by its tests: the name, whether it is set, the session under it, enough words
  abbrev back : Bool → Bool → Bool → Bool → Came
  back p q r e =
      cond p
      (cond q
      (cond r (cond e (record { answer = Ok tt; words = put_at w 0 (session_laid (session_under names k)) }) (not_came NoRoom w)) (not_came Unsound w))
      (not_came NameNotSet w))
      (not_came OutOfRange w)

  -- its answer
  back-answer : (p q r e : Bool) → (back p q r e).answer ≡ answer_by OutOfRange NameNotSet Unsound (roomed e) p q r
  back-answer true true true true = refl
  back-answer true true true false = refl
  back-answer true true false e = refl
  back-answer true false r e = refl
  back-answer false q r e = refl

  -- a refusal leaves the words
  back-kept : (p q r e : Bool) → (moment_refusal (back p q r e).answer ≡ 0 → ⊥) → (back p q r e).words ≡ w
  back-kept true true true true h = absurd (h refl)
  back-kept true true true false h = refl
  back-kept true true false e h = refl
  back-kept true false r e h = refl
  back-kept false q r e h = refl

  -- of every return
  pub return-in-words : ReturnInWords w names k
  unfolding return_in
  return-in-words =
      let p : Bool = is_name k in
      let q : Bool = is_set names k in
      let r : Bool = sound (session_under names k) in
      let e : Bool = leb session_length (length w) in
      let seven = exactly-third 2 11 7 (λ e. omega arith) (λ e. omega arith) (λ e. omega arith) (moment_refusal (roomed e)) (roomed-other e 7 (λ n. omega arith) (λ n. omega arith)) p q r in
      let six = exactly-rest 2 11 7 (λ e. omega arith) (λ e. omega arith) (λ e. omega arith) (moment_refusal (roomed e)) 6 (λ n. omega arith) (λ n. omega arith) (λ n. omega arith) p q r in
      record {
        two = rw (back-answer p q r e, answer-number OutOfRange NameNotSet Unsound (roomed e) p q r) (exactly-first 2 11 7 (λ e. omega arith) (λ e. omega arith) (λ e. omega arith) (moment_refusal (roomed e)) (roomed-other e 2 (λ n. omega arith) (λ n. omega arith)) p q r);
        eleven = rw (back-answer p q r e, answer-number OutOfRange NameNotSet Unsound (roomed e) p q r) (exactly-second 2 11 7 (λ e. omega arith) (λ e. omega arith) (λ e. omega arith) (moment_refusal (roomed e)) (roomed-other e 11 (λ n. omega arith) (λ n. omega arith)) p q r);
        seven = rw (back-answer p q r e, answer-number OutOfRange NameNotSet Unsound (roomed e) p q r) (λ n. let h = seven.0 n in (h.1, h.2), λ h. seven.1 (set-name names k h.0, h.0, h.1));
        six = rw (back-answer p q r e, answer-number OutOfRange NameNotSet Unsound (roomed e) p q r) (
          λ n. let h = six.0 n in (h.1, h.2, leb-false session_length (length w) ((roomed-six e).0 h.3)),
          λ h. six.1 (set-name names k h.0, h.0, h.1, (roomed-six e).1 (lt-leb session_length (length w) h.2)),
        );
        kept = back-kept p q r e;
      }
