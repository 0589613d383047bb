-- Texts fed byte by byte, whatever a line does to a state.
use mathlib.Core.Path.{◌≡◌, refl, sym, ap, ◌∙◌}
use Prim.Native.Nat.{ℕ, suc, ◌+◌, ◌≤◌, ◌<◌}
use native.Mathlib.Omega.{arith}
use mathlib.Core.List.{List, [], ◌∷◌, ◌++◌, append_assoc, append-nil, foldl-append}
use mathlib.Core.Bool.{Bool, true, false}
use lib.Dec.{eqb}
use lib.ListN.{length, length-append}
use borrow.Author.Tests.{eqb-true}
use Rattle.texts.specs.Lines.{Answer, to, no, Fed, at, stopped, line_done, byte, feed_by, first_lines, line_count}
use Rattle.reuse.proofs.Lists.{by-test}
use Rattle.texts.proofs.Tests.{never, by_zero}

-- byte 10 ends one line
pub count-end : (x : ℕ) (l : List ℕ) → eqb x 10 ≡ true → line_count (x ∷ l) ≡ suc (line_count l)
unfolding line_count
count-end x l e = rw e

-- another byte ends none
pub count-other : (x : ℕ) (l : List ℕ) → eqb x 10 ≡ false → line_count (x ∷ l) ≡ line_count l
unfolding line_count
count-other x l e = rw e

-- the lines of bytes end to end
pub count-append : (a b : List ℕ) → line_count (a ++ b) ≡ line_count a + line_count b
unfolding line_count
count-append [] b = omega arith
count-append (x ∷ a) b = by-test (eqb x 10) (λ e. rw (e, count-append a b) (omega arith)) (λ e. rw (e, count-append a b))

-- the first lines, where byte 10 ends the first
first-end : (k x : ℕ) (l : List ℕ) → eqb x 10 ≡ true → first_lines (suc k) (x ∷ l) ≡ x ∷ first_lines k l
unfolding first_lines
first-end k x l e = rw e

-- the first lines, where another byte begins the first
first-other : (k x : ℕ) (l : List ℕ) → eqb x 10 ≡ false → first_lines (suc k) (x ∷ l) ≡ x ∷ first_lines (suc k) l
unfolding first_lines
first-other k x l e = rw e

-- the line where a text stands
abbrev pub line_no : {S : Type 0} → Fed S → ℕ
line_no (at k held s) = suc k
line_no (stopped k n) = k

-- no limit stopped the text
abbrev pub Passed : {S : Type 0} → Fed S → Type 0
Passed (at k held s) = Unit
Passed (stopped k n) = n ≡ 1

module _ {S : Type 0} (step : S → List ℕ → Answer S) (room : ℕ → Bool) where
  -- bytes end to end are fed one after the other
  pub feed-append : (f : Fed S) (a b : List ℕ) → feed_by step room f (a ++ b) ≡ feed_by step room (feed_by step room f a) b
  unfolding feed_by
  feed-append f a b = foldl-append (byte step room) f a b

  -- a stopped text stays so
  pub absorb : (k n : ℕ) (l : List ℕ) → feed_by step room (stopped k n) l ≡ stopped k n
  unfolding feed_by byte
  absorb k n [] = refl
  absorb k n (x ∷ l) = absorb k n l

  module _ (k : ℕ) (held : List ℕ) (s : S) (x : ℕ) where
    -- byte 10 ends the line held
    byte-end : eqb x 10 ≡ true → (l : List ℕ) → feed_by step room (at k held s) (x ∷ l) ≡ feed_by step room (line_done k (step s held)) l
    unfolding feed_by byte
    byte-end e l = rw e

    -- another byte is held where there is room
    byte-keep : eqb x 10 ≡ false → room (length held) ≡ true → (l : List ℕ) → feed_by step room (at k held s) (x ∷ l) ≡ feed_by step room (at k (held ++ (x ∷ [])) s) l
    unfolding feed_by byte
    byte-keep e r l = rw (e, r)

    -- and stops the text where there is none
    byte_full : eqb x 10 ≡ false → room (length held) ≡ false → (l : List ℕ) → feed_by step room (at k held s) (x ∷ l) ≡ stopped (suc k) 1
    unfolding feed_by byte
    byte_full e r l = rw (e, r) (absorb (suc k) 1 l)

    -- a proof by what a byte does: a line goes on, a line is refused, a byte is held, a line is too long
    pub by_byte : {G : Type 0}
        → ((s₁ : S) → eqb x 10 ≡ true → step s held ≡ to s₁ → ((l : List ℕ) → feed_by step room (at k held s) (x ∷ l) ≡ feed_by step room (at (suc k) [] s₁) l) → G)
        → ((n : ℕ) → eqb x 10 ≡ true → step s held ≡ no n → ((l : List ℕ) → feed_by step room (at k held s) (x ∷ l) ≡ stopped (suc k) n) → G)
        → (eqb x 10 ≡ false → room (length held) ≡ true → ((l : List ℕ) → feed_by step room (at k held s) (x ∷ l) ≡ feed_by step room (at k (held ++ (x ∷ [])) s) l) → G)
        → (eqb x 10 ≡ false → room (length held) ≡ false → ((l : List ℕ) → feed_by step room (at k held s) (x ∷ l) ≡ stopped (suc k) 1) → G)
        → G
    unfolding line_done
    by_byte {G} a b c d =
        by-test (eqb x 10)
        (λ e. ended (step s held) refl e)
        (λ e. by-test (room (length held)) (λ r. c e r (byte-keep e r)) (λ r. d e r (byte_full e r)))
      where
        ended : (w : Answer S) → step s held ≡ w → eqb x 10 ≡ true → G
        ended (to s₁) q e = a s₁ e q (λ l. byte-end e l ∙ rw q)
        ended (no n) q e = b n e q (λ l. byte-end e l ∙ rw q (absorb (suc k) n l))

  -- a line that is not ended is held
  pub feed-rest : (line : List ℕ) (k : ℕ) (held : List ℕ) (s : S) → line_count line ≡ 0 → ((n : ℕ) → n < length held + length line → room n ≡ true)
      → feed_by step room (at k held s) line ≡ at k (held ++ line) s
  unfolding feed_by
  feed-rest [] k held s h r = rw append-nil
  feed-rest (x ∷ line) k held s h r =
      by-test (eqb x 10)
      (λ e. let z : suc (line_count line) ≡ 0 = sym (count-end x line e) ∙ h in absurd (omega arith))
      (λ e. byte-keep k held s x e (r (length held) (omega arith)) line
      ∙ feed-rest line k (held ++ (x ∷ [])) s (sym (count-other x line e) ∙ h) (λ n g. r n (omega (arith, simp length-append at g)))
      ∙ rw append_assoc)

  -- a line and its byte 10
  pub feed-line : (line : List ℕ) (k : ℕ) (s : S) (rest : List ℕ) → line_count line ≡ 0 → ((n : ℕ) → n < length line → room n ≡ true)
      → feed_by step room (at k [] s) (line ++ (10 ∷ rest)) ≡ feed_by step room (line_done k (step s line)) rest
  feed-line line k s rest h r =
      feed-append (at k [] s) line (10 ∷ rest)
      ∙ ap (λ (f : Fed S). feed_by step room f (10 ∷ rest)) (feed-rest line k [] s h (λ n g. r n (omega arith)))
      ∙ byte-end k line s 10 refl rest

  -- a text goes on from the line where it stands
  pub goes_on : (l : List ℕ) (k : ℕ) (held : List ℕ) (s : S) → suc k ≤ line_no (feed_by step room (at k held s) l)
  unfolding feed_by
  goes_on [] k held s = omega arith
  goes_on (x ∷ l) k held s =
      by_byte k held s x
      (λ s₁ e q f. rw (f l) (let g = goes_on l (suc k) [] s₁ in omega arith))
      (λ n e q f. rw (f l) (omega arith))
      (λ e r f. rw (f l) (goes_on l k (held ++ (x ∷ [])) s))
      (λ e r f. rw (f l) (omega arith))

  -- and not past the line after the last
  pub not-past : (l : List ℕ) (k : ℕ) (held : List ℕ) (s : S) → line_no (feed_by step room (at k held s) l) ≤ suc (k + line_count l)
  unfolding feed_by line_count
  not-past [] k held s = omega arith
  not-past (x ∷ l) k held s =
      by_byte k held s x
      (λ s₁ e q f. rw (f l, e) (let g = not-past l (suc k) [] s₁ in omega arith))
      (λ n e q f. rw (f l, e) (omega arith))
      (λ e r f. rw (f l, e) (not-past l k (held ++ (x ∷ [])) s))
      (λ e r f. rw (f l, e) (omega arith))

  -- the state at the start of a later line that was reached
  pub begins : (l : List ℕ) (k : ℕ) (held : List ℕ) (s : S) (m j : ℕ) → j ≡ suc m + k → j < line_no (feed_by step room (at k held s) l)
      → (s' : S) × (feed_by step room (at k held s) (first_lines (suc m) l) ≡ at j [] s')
  unfolding feed_by first_lines
  begins [] k held s m j e h = absurd (omega arith)
  begins (x ∷ l) k held s m j e h =
      by_byte k held s x
      (λ s₁ t q f. by_zero m
      (λ z. (s₁, ap (feed_by step room (at k held s)) (first-end m x l t) ∙ f (first_lines m l) ∙ rw z (ap (λ (i : ℕ). at i [] s₁) (let i : suc k ≡ j = omega arith in i))))
      (λ i z. let b = begins l (suc k) [] s₁ i j (omega arith) (rw (f l) at h) in (b.0, ap (feed_by step room (at k held s)) (first-end m x l t) ∙ f (first_lines m l) ∙ ap (λ (w : ℕ). feed_by step room (at (suc k) [] s₁) (first_lines w l)) z ∙ b.1)))
      (λ n t q f. absurd (omega (arith, rw (f l) at h)))
      (λ t r f. let b = begins l k (held ++ (x ∷ [])) s m j e (rw (f l) at h) in (b.0, ap (feed_by step room (at k held s)) (first-other m x l t) ∙ f (first_lines (suc m) l) ∙ b.1))
      (λ t r f. absurd (omega (arith, rw (f l) at h)))

  -- what stops a text stops its first lines
  pub stops : (n : ℕ) (l : List ℕ) (k : ℕ) (held : List ℕ) (s : S) (m j : ℕ) → j ≡ m + k → feed_by step room (at k held s) l ≡ stopped (suc j) n
      → feed_by step room (at k held s) (first_lines (suc m) l) ≡ stopped (suc j) n
  unfolding feed_by
  stops n [] k held s m j e h = never (cc)
  stops n (x ∷ l) k held s m j e h =
      by_byte k held s x
      (λ s₁ t q f. by_zero m
      (λ z. absurd (omega (arith, goes_on l (suc k) [] s₁, ap line_no (sym (f l) ∙ h))))
      (λ i z. ap (feed_by step room (at k held s)) (first-end m x l t) ∙ f (first_lines m l) ∙ rw z (stops n l (suc k) [] s₁ i j (omega arith) (sym (f l) ∙ h))))
      (λ r t q f. ap (feed_by step room (at k held s)) (first-end m x l t) ∙ f (first_lines m l) ∙ sym (f l) ∙ h)
      (λ t r f. ap (feed_by step room (at k held s)) (first-other m x l t) ∙ f (first_lines (suc m) l) ∙ stops n l k (held ++ (x ∷ [])) s m j e (sym (f l) ∙ h))
      (λ t r f. ap (feed_by step room (at k held s)) (first-other m x l t) ∙ f (first_lines (suc m) l) ∙ sym (f l) ∙ h)

  -- a proof about a text that is not stopped, from its end back to its start
  pub by_bytes : (P : List ℕ → ℕ → List ℕ → S → Type 0) (j : ℕ) (rest : List ℕ) (s' : S) → P [] j rest s'
      → ((x : ℕ) (l : List ℕ) (k : ℕ) (held : List ℕ) (s s₁ : S) → eqb x 10 ≡ true → step s held ≡ to s₁ → P l (suc k) [] s₁ → P (x ∷ l) k held s)
      → ((x : ℕ) (l : List ℕ) (k : ℕ) (held : List ℕ) (s : S) → eqb x 10 ≡ false → room (length held) ≡ true → P l k (held ++ (x ∷ [])) s → P (x ∷ l) k held s)
      → (l : List ℕ) (k : ℕ) (held : List ℕ) (s : S) → feed_by step room (at k held s) l ≡ at j rest s' → P l k held s
  unfolding feed_by
  by_bytes P j rest s' end line more [] k held s h =
      let a : k ≡ j = cc in
      let b : held ≡ rest = cc in
      let c : s ≡ s' = cc in
      rw (a, b, c) end
  by_bytes P j rest s' end line more (x ∷ l) k held s h =
      by_byte k held s x
      (λ s₁ e q f. line x l k held s s₁ e q (by_bytes P j rest s' end line more l (suc k) [] s₁ (sym (f l) ∙ h)))
      (λ n e q f. never (cc (f l)))
      (λ e r f. more x l k held s e r (by_bytes P j rest s' end line more l k (held ++ (x ∷ [])) s (sym (f l) ∙ h)))
      (λ e r f. never (cc (f l)))

  module _ (l : List ℕ) (k : ℕ) (held : List ℕ) (s : S) (j : ℕ) (rest : List ℕ) (s' : S) (h : feed_by step room (at k held s) l ≡ at j rest s') where
    -- the lines ended are counted
    pub counts : j ≡ k + line_count l
    unfolding line_count
    counts =
        by_bytes (λ l k held s. j ≡ k + line_count l) j rest s' (omega arith)
        (λ x l k held s s₁ e q g. rw e (omega arith))
        (λ x l k held s e r g. rw e g)
        l k held s h

    -- where each line adds itself to what a state has read, so does the text
    pub feed-adds : (so_far : S → List ℕ) → ((s : S) (line : List ℕ) (s' : S) → step s line ≡ to s' → so_far s ++ (line ++ (10 ∷ [])) ≡ so_far s')
        → so_far s ++ (held ++ l) ≡ so_far s' ++ rest
    feed-adds so_far adds =
        by_bytes (λ l k held s. so_far s ++ (held ++ l) ≡ so_far s' ++ rest) j rest s' (rw append-nil)
        (λ x l k held s s₁ e q g.
        ap (λ (z : ℕ). so_far s ++ (held ++ (z ∷ l))) (eqb-true x 10 e)
        ∙ ap (λ (z : List ℕ). so_far s ++ z) (sym (append_assoc held (10 ∷ []) l))
        ∙ sym (append_assoc (so_far s) (held ++ (10 ∷ [])) l)
        ∙ ap (λ (z : List ℕ). z ++ l) (adds s held s₁ q)
        ∙ g)
        (λ x l k held s e r g. ap (λ (z : List ℕ). so_far s ++ z) (sym (append_assoc held (x ∷ []) l)) ∙ g)
        l k held s h

    -- where each line keeps a property, so does the text
    pub feed-keeps : (Good : S → Type 0) → ((s : S) (line : List ℕ) (s' : S) → Good s → step s line ≡ to s' → Good s') → Good s → Good s'
    feed-keeps Good keeps =
        by_bytes (λ l k held s. Good s → Good s') j rest s' (λ g. g)
        (λ x l k held s s₁ e q g a. g (keeps s held s₁ a q))
        (λ x l k held s e r g. g)
        l k held s h

-- a second reader that does what the first does, but for refusals by a limit
module _ {S : Type 0} (step step' : S → List ℕ → Answer S) (room : ℕ → Bool)
    (same : (s : S) (line : List ℕ) (s' : S) → step s line ≡ to s' → step' s line ≡ to s')
    (one : (s : S) (line : List ℕ) → step s line ≡ no 1 → step' s line ≡ no 1) where
  -- where no limit stopped the first, the second stands as it does
  pub feed-same : (l : List ℕ) (k : ℕ) (held : List ℕ) (s : S) → Passed (feed_by step room (at k held s) l) → feed_by step' room (at k held s) l ≡ feed_by step room (at k held s) l
  unfolding feed_by line_done
  feed-same [] k held s p = refl
  feed-same (x ∷ l) k held s p =
      by_byte step room k held s x
      (λ s₁ e q f.
      byte-end step' room k held s x e l
      ∙ ap (λ (w : Answer S). feed_by step' room (line_done k w) l) (same s held s₁ q)
      ∙ feed-same l (suc k) [] s₁ (rw (f l) at p)
      ∙ sym (f l))
      (λ n e q f. let z : n ≡ 1 = rw (f l) at p in
      byte-end step' room k held s x e l
      ∙ ap (λ (w : Answer S). feed_by step' room (line_done k w) l) (one s held (q ∙ ap no z))
      ∙ absorb step' room (suc k) 1 l
      ∙ ap (λ (m : ℕ). stopped (suc k) m) (sym z)
      ∙ sym (f l))
      (λ e r f. byte-keep step' room k held s x e r l ∙ feed-same l k (held ++ (x ∷ [])) s (rw (f l) at p) ∙ sym (f l))
      (λ e r f. byte_full step' room k held s x e r l ∙ sym (f l))
