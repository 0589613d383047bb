-- `summary_formed::Parts::of` meets its contract. Each test that fails breaks a fact of well-formed words.
use Rattle.std.proofs.Common.{◌≡◌, ℕ, true, false, List, Some, None, refl, sym, subst, ◌∙◌, arith}
use Rattle.std.specs.Option.{ForNone, ForSome}
use Rattle.reuse.specs.Summary.{well_formed, reads_of}
use Rattle.summary_calls.specs.Shapes.{Shaped}
use Rattle.summary_calls.proofs.Fields.{refuse, shaped, first_part, recent-part, counts-part}
use Rattle.summary_formed.specs.declared.Parts.{Parts}
use Rattle.summary_formed.specs.Parting.{PartsOf}
use Rattle.summary_formed.proofs.Parting.{agreed}
use Rattle.summary_formed.proofs.Parts.of.Goals as goal
use Rattle.summary_formed.proofs.Parts.of.Goals.{After-agree}

-- no parts of words that are not well formed
none : (w : List ℕ) → (well_formed w ≡ true → ⊥) → ForNone {T = Parts} None (well_formed w ≡ false) × ForSome {T = Parts} None (λ p. PartsOf w p)
none w h = (λ _. sym (refuse w h), λ p e. absurd (cc))

-- parts of words that are
some : (w : List ℕ) (q : Parts) → PartsOf w q → ForNone {T = Parts} (Some q) (well_formed w ≡ false) × ForSome {T = Parts} (Some q) (λ p. PartsOf w p)
some w q h = (λ e. absurd (cc), λ p e. let same : q ≡ p = cc in subst (λ x. PartsOf w x) same h)

-- the sizes of the words
sizes : (c : After-agree) → Shaped c.args.words.now
sizes c = record { long = omega (arith, c.if-words-v.false); few = c.if-many.false; short = c.if-reads-gt-MAX_READS.false }

-- the tests of the parts are the test of the words
tested : (c : After-agree) → c.agree.result ≡ well_formed c.args.words.now
tested c =
    let w = c.args.words.now in
    c.agree.ensures ∙ agreed w (sizes c) _ _ _ (first_part w) (recent-part w) (counts-part w (sizes c))

pub returns-then-words-lt2 : goal.returns-then-words-lt2
returns-then-words-lt2 c = none _ (λ h. omega (arith, (shaped _ h).long))

pub returns-then-many : goal.returns-then-many
returns-then-many c = none _ (λ h. omega (arith, (shaped _ h).few))

pub returns-then-words-v : goal.returns-then-words-v
returns-then-words-v c = none _ (λ h. omega (arith, (shaped _ h).long))

pub returns-then-reads-gt-MAX_READS : goal.returns-then-reads-gt-MAX_READS
returns-then-reads-gt-MAX_READS c = none _ (λ h. omega (arith, (shaped _ h).short))

pub returns-then-not-agree : goal.returns-then-not-agree
returns-then-not-agree c =
    let w = c.args.words.now in
    (λ _. sym (tested (goal.at.returns-then-not-agree c).After-agree) ∙ c.if-not-agree.true, λ p e. absurd (cc))

pub returns : goal.returns
unfolding reads_of
returns c =
    let w = c.args.words.now in
    let at = (goal.at.returns c).After-agree in
    some w _ (record {
      formed = sym (tested at) ∙ c.if-not-agree.false;
      reads = refl;
      first = first_part w;
      recent = recent-part w;
      counts = counts-part w (sizes at);
    })
