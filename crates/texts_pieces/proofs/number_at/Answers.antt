use Prim.Native.Nat.{ℕ, ◌+◌, ◌-◌, ◌*◌, ◌≤◌, ◌<◌}
use mathlib.Core.Path.{◌≡◌, refl, sym, ap, subst, ◌∙◌}
use mathlib.Core.Bool.{Bool, true, false}
use native.Mathlib.Omega.{arith}
use lib.Dec.{eqb}
use lib.ListN.{length, drop, get_or, length-drop}
use lib.Seq.{drop-drop}
use mathlib.Core.List.{List}
use Rattle.std.specs.Char.{is_ascii_digit}
use borrow.Author.Tests.{eqb-true, eqb-false, eq-eqb, ne_eqb, lt-ltb, le-ltb}
use Rattle.reuse.proofs.Lists.{by-test}
use Rattle.texts.specs.Digits.{value, may_go_on, ended, number_from, number_of}
use Rattle.texts.proofs.Positions.{here, number-end, number-bad, number_more}
use Rattle.texts_pieces.proofs.Pieces.{found-is, found_none}
use Rattle.std.proofs.Common.{⊎_elim}
-- `texts_pieces::number_at` meets its contract.
use Rattle.texts_pieces.proofs.number_at.Goals as goal
use Rattle.texts_pieces.proofs.number_at.Goals.{Left-loop-b, else-loop-b-test, then-loop-b-test+then-not-is_ascii_digit}

-- a byte that the code takes for no digit
number_other : (s : List ℕ) (i : ℕ) (first : Bool) (v : ℕ) → i < length s → is_ascii_digit (get_or s i 0) ≡ false → number_from first v (drop i s) ≡ ended first v (drop i s)
unfolding number_from
number_other s i first v h e = rw (here s i h) (simp e)

-- a byte that the code takes for a digit
is-digit : (x : ℕ) → is_ascii_digit x ≡ true → (48 ≤ x) × (x ≤ 57)
is-digit x e = grind arith

pub returns-then-long : goal.returns-then-long
returns-then-long c =
    let a = c.args in
    let l = c.loop-b in
    let s = c.rest-b-items.result.now in
    let digit = is-digit (get_or s l.b-index 0) (sym c.is_ascii_digit.ensures.value ∙ c.if-not-is_ascii_digit.false) in
    let stuck : may_go_on false l.v ≡ false =
    ⊎_elim (λ e. simp (eq-eqb l.v 0 e)) (λ e. simp (ne_eqb l.v 0 e.0, le-ltb l.v 1000000000 e.1)) c.if-long.either in
    found_none a.s.now a.at
    (ap number_of (sym c.rest-b-items.ensures) ∙ l.invariant.same ∙ ap (λ (t : Bool). number_from t l.v (drop l.b-index s)) (ne_eqb _ _ c.if-end-at.true)
    ∙ number-bad s l.b-index false l.v c.loop-b-test.true digit.0 digit.1 stuck)

pub loop-b-init : goal.loop-b-init
unfolding number_of
loop-b-init c = record {
  here = omega arith;
  small = omega arith;
  start = λ e. refl;
  same = simp (eq-eqb c.args.at c.args.at refl);
}

pub loop-b-preserved : goal.loop-b-preserved
loop-b-preserved c =
    let a = c.args in
    let l = c.loop-b in
    let i = l.invariant in
    let s = c.rest-b-items.result.now in
    let x = get_or s l.b-index 0 in
    let digit = is-digit x (sym c.is_ascii_digit.ensures.value ∙ c.if-not-is_ascii_digit.false) in
    let small : (l.end ≡ a.at → ⊥) → l.v < 1000000000 = λ h. grind arith in
    let some : (l.end ≡ a.at → ⊥) → l.v ≡ 0 → ⊥ = λ h. grind arith in
    let may : may_go_on (eqb l.end a.at) l.v ≡ true =
    by-test (eqb l.end a.at)
    (λ e. simp e)
    (λ e. simp (e, ne_eqb _ _ (some (eqb-false _ _ e)), lt-ltb _ _ (small (eqb-false _ _ e)))) in
    let d : x - 48 ≡ c.digit.result = omega (arith, c.digit.ensures) in
    let n : eqb (l.end + 1) a.at ≡ false = ne_eqb (l.end + 1) a.at (λ e. omega (arith, e, i.here)) in record {
      here = omega arith;
      small = by-test (eqb l.end a.at)
          (λ e. omega (arith, i.start (eqb-true _ _ e)))
          (λ e. omega (arith, small (eqb-false _ _ e)));
      start = λ e. omega (arith, e, i.here);
      same = i.same ∙ number_more s l.b-index (eqb l.end a.at) l.v c.loop-b-test.true digit.0 digit.1 may
          ∙ ap (λ (k : ℕ). number_from false (l.v * 10 + k) (drop (l.b-index + 1) s)) d
          ∙ ap (λ (t : Bool). number_from t (l.v * 10 + c.digit.result) (drop (l.b-index + 1) s)) (sym n);
    }

-- the number, where the loop is left
left : (c : Left-loop-b) →
    let a = c.args in
    let l = c.loop-b in
    number_of (drop a.at a.s.now) ≡ ended (eqb l.end a.at) l.v (drop l.b-index (drop a.at a.s.now))
left c =
    let a = c.args in
    let l = c.loop-b in
    let f = eqb l.end a.at in
    let s = c.rest-b-items.result.now in
    let e : number_from f l.v (drop l.b-index s) ≡ ended f l.v (drop l.b-index s) =
    elim c.loop-b-test.branch [
      | else-loop-b-test w ↦ number-end s l.b-index f l.v w.loop-b-test.false
      | then-loop-b-test+then-not-is_ascii_digit w ↦ number_other s l.b-index f l.v w.loop-b-test.true (sym w.is_ascii_digit.ensures.value ∙ w.if-not-is_ascii_digit.true)
    ] in
    subst (λ (x : List ℕ). number_of x ≡ ended f l.v (drop l.b-index x)) c.rest-b-items.ensures (l.invariant.same ∙ e)

pub returns-then-end-at-2 : goal.returns-then-end-at-2
returns-then-end-at-2 c = let a = c.args in found_none a.s.now a.at (left (goal.at.returns-then-end-at-2 c).Left-loop-b ∙ rw (eq-eqb _ _ c.if-end-at-2.true))

pub returns : goal.returns
returns c =
    let a = c.args in
    let l = c.loop-b in
    let n : number_of (drop a.at a.s.now) ≡ value l.v (drop l.b-index (drop a.at a.s.now)) =
    left (goal.at.returns c).Left-loop-b ∙ rw (ne_eqb _ _ c.if-end-at-2.false) in
    let h : l.end ≤ length a.s.now = omega (arith, l.invariant.here, l.auto.b-index-end, ap length c.rest-b-items.ensures, length-drop a.at a.s.now) in
    found-is a.s.now a.at l.v l.end h (n ∙ ap (value l.v) (drop-drop l.b-index a.at a.s.now ∙ ap (λ (k : ℕ). drop k a.s.now) (sym l.invariant.here)))
