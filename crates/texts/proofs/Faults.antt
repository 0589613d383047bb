-- What the refusals of a text mean, for any reader whose states have read the text so far.
use mathlib.Core.Path.{◌≡◌, refl, sym, ap, subst, ◌∙◌}
use Prim.Native.Nat.{ℕ, zero, suc, pred, ◌≤◌, ◌<◌}
use native.Mathlib.Omega.{arith}
use mathlib.Core.List.{List, [], ◌∷◌, ◌++◌, append_assoc, append-nil}
use mathlib.Core.Bool.{Bool}
use mathlib.Core.Option.{Option, none, some}
use borrow.Author.Tests.{eqb-true}
use Rattle.texts.specs.Lines.{Answer, to, no, Fed, at, stopped, got, refused, unless, end_by, feed_by, finish_by, first_lines, line_count, Faulty}
use Rattle.texts.proofs.Tests.{never}
use Rattle.texts.proofs.Feeding.{count-other, count-append, by_byte, line_no, Passed, feed-append, absorb, goes_on, not-past, counts, begins, stops, feed-adds, feed-keeps, feed-same}

-- a new state means that no limit is broken
pub unless-to : {S : Type 0} (n : ℕ) (a : Answer S) (s : S) → unless n a ≡ to s → (n ≡ 0) × (a ≡ to s)
unfolding unless
unless-to zero a s e = (refl, e)
unless-to (suc n) (to x) s e = never (cc)
unless-to (suc n) (no m) s e = never (cc)

-- no limit has the number 1, so a refusal 1 is the line's
pub unless-one : {S : Type 0} (n : ℕ) (a : Answer S) → (n ≡ 1 → ⊥) → unless n a ≡ no 1 → a ≡ no 1
unfolding unless
unless-one zero a h e = e
unless-one (suc n) (to x) h e = absurd (h (cc))
unless-one (suc n) (no m) h e = e

-- a refusal other than the line's is the limit's, and the line went on without it
pub unless-no : {S : Type 0} (n : ℕ) (a : Answer S) (m : ℕ) → (a ≡ no m → ⊥) → unless n a ≡ no m → (n ≡ m) × (m ≡ 0 → ⊥) × (s : S) × (a ≡ to s)
unfolding unless
unless-no zero a m h e = absurd (h e)
unless-no (suc n) (to x) m h e = let u : suc n ≡ m = cc in (u, (λ z. omega arith), x, refl)
unless-no (suc n) (no l) m h e = absurd (h e)

-- `so_far` is the text that a state has read, and `Kept` holds of each state that is reached from s₀
pub record Reads {S : Type 0} (step : S → List ℕ → Answer S) (s₀ : S) (so_far : S → List ℕ) (Kept : S → Type 0) : Type 0 where
  pub adds : (s : S) (line : List ℕ) (s' : S) → step s line ≡ to s' → so_far s ++ (line ++ (10 ∷ [])) ≡ so_far s'
  pub keeps : (s : S) (line : List ℕ) (s' : S) → Kept s → step s line ≡ to s' → Kept s'
  pub nothing : so_far s₀ ≡ []
  pub kept : Kept s₀

-- the line k that a step refused with n, after lines that were read
pub record StoppedAt {S : Type 0} (step : S → List ℕ → Answer S) (so_far : S → List ℕ) (Kept : S → Type 0) (text : List ℕ) (k n : ℕ) : Type 0 where
  pub state : S
  pub line : List ℕ
  pub rest : List ℕ
  pub earlier : Kept state
  pub refuses : step state line ≡ no n
  pub one_line : line_count line ≡ 0
  pub place : suc (line_count (so_far state)) ≡ k
  pub text-is : text ≡ so_far state ++ (line ++ (10 ∷ rest))

-- where a text that gives its content stands
pub got-from : {S T : Type 0} (done : S → Option T) (f : Fed S) (t : T) → finish_by done f ≡ got t → (j : ℕ) × (s : S) × (f ≡ at j [] s) × (done s ≡ some t)
unfolding finish_by
got-from {S} {T} done (at j [] s) t e = by-done (done s) refl e
  where
    by-done : (o : Option T) → done s ≡ o → end_by j o ≡ got t → (i : ℕ) × (s' : S) × (at j [] s ≡ at i [] s') × (done s' ≡ some t)
    by-done none q p = never (cc)
    by-done (some u) q p = (j, s, refl, (let z : u ≡ t = cc in q ∙ ap some z))
got-from done (at j (x ∷ held) s) t e = never (cc)
got-from done (stopped k n) t e = never (cc)

-- a refused text stands at the faulty line
pub refused-line : {S T : Type 0} (done : S → Option T) (f : Fed S) (k n : ℕ) → finish_by done f ≡ refused k n → line_no f ≡ k
unfolding finish_by
refused-line {S} {T} done (at j [] s) k n e = by-done (done s) e
  where
    by-done : (o : Option T) → end_by j o ≡ refused k n → suc j ≡ k
    by-done none p = (cc)
    by-done (some t) p = never (cc)
refused-line done (at j (x ∷ held) s) k n e = (cc)
refused-line done (stopped j m) k n e = (cc)

-- a refusal other than 1 stopped the text
refused-stopped : {S T : Type 0} (done : S → Option T) (f : Fed S) (k n : ℕ) → (n ≡ 1 → ⊥) → finish_by done f ≡ refused k n → f ≡ stopped k n
unfolding finish_by
refused-stopped {S} {T} done (at j [] s) k n other e = by-done (done s) e
  where
    by-done : (o : Option T) → end_by j o ≡ refused k n → at j [] s ≡ stopped k n
    by-done none p = let u : 1 ≡ n = cc in absurd (other (sym u))
    by-done (some t) p = never (cc)
refused-stopped done (at j (x ∷ held) s) k n other e = let u : 1 ≡ n = cc in absurd (other (sym u))
refused-stopped done (stopped j m) k n other e = (cc)

module _ {S T : Type 0} {step : S → List ℕ → Answer S} {s₀ : S} {so_far : S → List ℕ} {Kept : S → Type 0} (room : ℕ → Bool) (done : S → Option T) (reader : Reads step s₀ so_far Kept) where
  -- a text that gives its content is what the last state has read
  pub content : (text : List ℕ) (t : T) → finish_by done (feed_by step room (at 0 [] s₀) text) ≡ got t → (s : S) × Kept s × (text ≡ so_far s) × (done s ≡ some t)
  content text t e =
      let g = got-from done (feed_by step room (at 0 [] s₀) text) t e in (
        g.1,
        feed-keeps step room text 0 [] s₀ g.0 [] g.1 g.2 Kept reader.keeps reader.kept,
        ap (λ (z : List ℕ). z ++ text) (sym reader.nothing)
            ∙ feed-adds step room text 0 [] s₀ g.0 [] g.1 g.2 so_far reader.adds
            ∙ append-nil (so_far g.1),
        g.3,
      )

  -- the lines before one that was reached were read
  lines-read : (text : List ℕ) (m : ℕ) → m < line_no (feed_by step room (at 0 [] s₀) text) → (s : S) × Kept s × (first_lines m text ≡ so_far s)
  unfolding first_lines
  lines-read text zero h = (s₀, reader.kept, sym reader.nothing)
  lines-read text (suc m) h =
      let a = begins step room text 0 [] s₀ m (suc m) (omega arith) h in (
        a.0,
        feed-keeps step room (first_lines (suc m) text) 0 [] s₀ (suc m) [] a.0 a.1 Kept reader.keeps reader.kept,
        ap (λ (z : List ℕ). z ++ first_lines (suc m) text) (sym reader.nothing)
            ∙ feed-adds step room (first_lines (suc m) text) 0 [] s₀ (suc m) [] a.0 a.1 so_far reader.adds
            ∙ append-nil (so_far a.0),
      )

  -- whatever the refusal, the lines before the faulty one were read
  pub before : (text : List ℕ) (k n : ℕ) → finish_by done (feed_by step room (at 0 [] s₀) text) ≡ refused k n
      → (1 ≤ k) × (s : S) × Kept s × (first_lines (pred k) text ≡ so_far s)
  before text k n e =
      let l = refused-line done (feed_by step room (at 0 [] s₀) text) k n e in
      let g = goes_on step room text 0 [] s₀ in
      let r = lines-read text (pred k) (omega arith) in
      (omega arith, r.0, r.1, r.2)

  -- a text that a limit stopped, from the middle of a line on
  stopped-at : (n : ℕ) → (n ≡ 1 → ⊥) → (l : List ℕ) (k : ℕ) (held : List ℕ) (s : S) (j : ℕ) → Kept s → line_count (so_far s) ≡ k → line_count held ≡ 0
      → feed_by step room (at k held s) l ≡ stopped j n → StoppedAt step so_far Kept (so_far s ++ (held ++ l)) j n
  unfolding feed_by line_count
  stopped-at n other [] k held s j g c d h = never (cc)
  stopped-at n other (x ∷ l) k held s j g c d h =
      by_byte step room k held s x
      (λ s₁ e q f.
      let a = reader.adds s held s₁ q in
      let b : line_count (so_far s₁) ≡ suc k = ap line_count (sym a) ∙ count-append (so_far s) (held ++ (10 ∷ [])) ∙ rw (count-append held (10 ∷ []), c, d) (omega arith) in
      let t : so_far s₁ ++ l ≡ so_far s ++ (held ++ (x ∷ l)) = sym
      (ap (λ (z : ℕ). so_far s ++ (held ++ (z ∷ l))) (eqb-true x 10 e)
      ∙ ap (λ (z : List ℕ). so_far s ++ z) (sym (append_assoc held (10 ∷ []) l))
      ∙ sym (append_assoc (so_far s) (held ++ (10 ∷ [])) l)
      ∙ ap (λ (z : List ℕ). z ++ l) a) in
      subst (λ (z : List ℕ). StoppedAt step so_far Kept z j n) t (stopped-at n other l (suc k) [] s₁ j (reader.keeps s held s₁ g q) b refl (sym (f l) ∙ h)))
      (λ m e q f.
      let p = sym (f l) ∙ h in
      let u : m ≡ n = cc in
      let v : suc k ≡ j = cc in
      record {
        state = s;
        line = held;
        rest = l;
        earlier = g;
        refuses = q ∙ ap no u;
        one_line = d;
        place = ap suc c ∙ v;
        text-is = ap (λ (z : ℕ). so_far s ++ (held ++ (z ∷ l))) (eqb-true x 10 e);
      })
      (λ e r f.
      let b : line_count (held ++ (x ∷ [])) ≡ 0 = count-append held (x ∷ []) ∙ rw (d, count-other x [] e) in
      subst (λ (z : List ℕ). StoppedAt step so_far Kept (so_far s ++ z) j n) (append_assoc held (x ∷ []) l)
      (stopped-at n other l k (held ++ (x ∷ [])) s j g c b (sym (f l) ∙ h)))
      (λ e r f. let p = sym (f l) ∙ h in let u : 1 ≡ n = cc in absurd (other (sym u)))

  -- a refusal other than 1: the line that a step refused
  pub over : (text : List ℕ) (k n : ℕ) → (n ≡ 1 → ⊥) → finish_by done (feed_by step room (at 0 [] s₀) text) ≡ refused k n → StoppedAt step so_far Kept text k n
  unfolding line_count
  over text k n other e =
      let h = refused-stopped done (feed_by step room (at 0 [] s₀) text) k n other e in
      subst (λ (z : List ℕ). StoppedAt step so_far Kept z k n) (ap (λ (z : List ℕ). z ++ text) reader.nothing)
      (stopped-at n other text 0 [] s₀ k reader.kept (ap line_count reader.nothing) refl h)

  -- `rule` is the reader without limits; each state goes on to a text of the rule, and the rule's reader takes them all
  module _ (rule : S → List ℕ → Answer S) (Ruled : T → Type 0) (print : T → List ℕ)
      (same : (s : S) (line : List ℕ) (s' : S) → step s line ≡ to s' → rule s line ≡ to s')
      (one : (s : S) (line : List ℕ) → step s line ≡ no 1 → rule s line ≡ no 1)
      (runs : (t : T) → Ruled t → (j : ℕ) × (s : S) × (feed_by rule room (at 0 [] s₀) (print t) ≡ at j [] s) × (done s ≡ some t))
      (viable : (s : S) → Kept s → (t : T) × (b : List ℕ) × Ruled t × (print t ≡ so_far s ++ b))
      (text : List ℕ) where
    -- the lines before one that was reached begin a text of the rule
    begun-by : (m : ℕ) → m < line_no (feed_by step room (at 0 [] s₀) text) → (t : T) × (b : List ℕ) × Ruled t × (print t ≡ first_lines m text ++ b)
    begun-by m h =
        let r = lines-read text m h in
        let v = viable r.0 r.1 in
        (v.0, v.1, v.2, v.3 ∙ ap (λ (z : List ℕ). z ++ v.1) (sym r.2))

    -- what stops the reader with 1 does not begin a text of the rule
    unstopped : (t : T) → Ruled t → (l b : List ℕ) (k : ℕ) → feed_by step room (at 0 [] s₀) l ≡ stopped k 1 → print t ≡ l ++ b → ⊥
    unstopped t r l b k h e =
        let a = runs t r in
        let w = feed-same step rule room same one l 0 [] s₀ (subst Passed (sym h) refl) ∙ h in
        let p = sym a.2 ∙ ap (feed_by rule room (at 0 [] s₀)) e ∙ feed-append rule room (at 0 [] s₀) l b ∙ ap (λ (f : Fed S). feed_by rule room f b) w ∙ absorb rule room k 1 b in
        never (cc)

    -- a text stopped with 1
    stopped-faulty : (k : ℕ) → feed_by step room (at 0 [] s₀) text ≡ stopped k 1 → Faulty Ruled print text k
    stopped-faulty zero h = absurd (let g = goes_on step room text 0 [] s₀ in let z = ap line_no h in omega arith)
    stopped-faulty (suc j) h =
        let z = ap line_no h in
        record {
          place = (omega arith, (let g = not-past step room text 0 [] s₀ in omega arith));
          begun = begun-by j (omega arith);
          stuck = λ l t b r e. unstopped t r (first_lines (suc j) text) b (suc j) (stops step room 1 text 0 [] s₀ j j (omega arith) h) e;
          short = λ t r e. unstopped t r text [] (suc j) h (e ∙ sym (append-nil text));
        }

    -- a text that ends too early
    ended-faulty : (j : ℕ) (held : List ℕ) (s : S) → feed_by step room (at 0 [] s₀) text ≡ at j held s → ((t : T) → held ≡ [] → done s ≡ some t → ⊥) → Faulty Ruled print text (suc j)
    ended-faulty j held s h no_end =
        let c = counts step room text 0 [] s₀ j held s h in
        record {
          place = (omega arith, omega arith);
          begun = begun-by j (let z = ap line_no h in omega arith);
          stuck = λ l t b r e. absurd (omega arith);
          short = λ t r e.
              let a = runs t r in
              let p = sym a.2 ∙ ap (feed_by rule room (at 0 [] s₀)) e ∙ feed-same step rule room same one text 0 [] s₀ (subst Passed (sym h) tt) ∙ h in
              let u : held ≡ [] = cc in
              let w : a.1 ≡ s = cc in
              no_end t u (ap done (sym w) ∙ a.3);
        }

    -- refusal 1 at line k
    pub faulty : (k : ℕ) → finish_by done (feed_by step room (at 0 [] s₀) text) ≡ refused k 1 → Faulty Ruled print text k
    unfolding finish_by
    faulty k e = by-fed (feed_by step room (at 0 [] s₀) text) refl e
      where
        by-done : (j : ℕ) (s : S) → feed_by step room (at 0 [] s₀) text ≡ at j [] s → (o : Option T) → done s ≡ o → end_by j o ≡ refused k 1 → Faulty Ruled print text k
        by-done j s h none q p = let z : suc j ≡ k = cc in subst (Faulty Ruled print text) z (ended-faulty j [] s h (λ t u w. never (cc)))
        by-done j s h (some t) q p = never (cc)

        by-fed : (f : Fed S) → feed_by step room (at 0 [] s₀) text ≡ f → finish_by done f ≡ refused k 1 → Faulty Ruled print text k
        by-fed (at j [] s) h p = by-done j s h (done s) refl p
        by-fed (at j (x ∷ held) s) h p = let z : suc j ≡ k = cc in subst (Faulty Ruled print text) z (ended-faulty j (x ∷ held) s h (λ t u w. never (cc)))
        by-fed (stopped j n) h p =
            let z : j ≡ k = cc in
            let y : n ≡ 1 = cc in
            subst (Faulty Ruled print text) z (stopped-faulty j (h ∙ ap (λ (m : ℕ). stopped j m) y))
