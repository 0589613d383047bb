-- One law for each way that the two readers return, at a position of the text.
use Rattle.std.specs.Prelude.{Result, Ok, Err}
use Rattle.reuse.specs.declared.refusals.Refusal.{Refusal}
use Rattle.reuse.specs.declared.refusals.Refusal.TheVariants.{FaultyLine, OutOfRange, PlanTooLarge}
use Rattle.reuse.specs.Refusals.{refusal_number}
use mathlib.Core.Path.{◌≡◌, sym, ap, subst, ◌∙◌}
use Prim.Native.Nat.{ℕ, zero, suc, ◌+◌, ◌*◌, ◌-◌, ◌≤◌, ◌<◌, max}
use native.Mathlib.Omega.{arith}
use native.Mathlib.Numerals.{add-one}
use mathlib.Core.List.{List, ◌∷◌, ◌++◌}
use mathlib.Core.Logic.{◌⊎◌, inl, inr}
use lib.ListN.{drop}
use Rattle.texts.specs.Limits.{max_joins, max_parts, max_seg}
use Rattle.texts.specs.Lines.{line_count}
use Rattle.texts.specs.PlanTexts.{bad_line, line_of}
use Rattle.texts.specs.PlanPlaces.{seg_at, join_at, bad_at, line_at}
use Rattle.texts.specs.PlanOwed.{FormGives, FormRefuses, PartsGive, PartsRefuse, closable_after}
use Rattle.texts.proofs.PlanPlaces.{place-bad, cut-seg, cut-join}
use Rattle.texts.proofs.PlanOwed as laws
use Rattle.plan_reader.specs.declared.forms.FormRead.{FormRead}
use Rattle.plan_reader.specs.Answers.{FormWithin, FormIs, PartsIs}

-- a form that is read
abbrev pub given_form : ℕ → ℕ → ℕ → ℕ → Result FormRead Refusal
given_form total deep closes next = Ok (record { reads = total; depth = deep; closes = closes; next = next })

-- what is read from a later position on is read from an earlier one on, under fewer joins
pub form-from : (at later len most under under' limit limit' base base' : ℕ) (f : Result FormRead Refusal) → at ≤ later → limit' + under ≤ limit + under' → base' + max_seg * at ≤ base + max_seg * later
    → FormWithin later len most under' limit' base' f → FormWithin at len most under limit base f
form-from at later len most under under' limit limit' base base' (Ok f) h g k w = (omega arith, w.1, w.2, omega arith, omega arith)
form-from at later len most under under' limit limit' base base' (Err r) h g k w = tt

module _ (s : List ℕ) (at d most count : ℕ) where
  -- a line that is neither a seg nor a join, or none
  pub bad : bad_at ≡ line_at d (drop at s) → FormIs s at d most count (Err FaultyLine)
  bad e k = on (place-bad d (drop at s) (sym e))
    where
      on : (line_count (drop at s) ≡ 0) ⊎ ((line : List ℕ) × (rest : List ℕ) × (drop at s ≡ line ++ (10 ∷ rest)) × (line_count line ≡ 0) × (line_of d line ≡ bad_line))
          → (l : ℕ) × FormRefuses k d most count (drop at s) l 1
      on (inl h) = (suc k, laws.form-end k d most count (drop at s) h)
      on (inr r) = (suc k, rw r.2 (laws.form-bad k d most count r.0 r.1 r.3 r.4))

  module _ (n closes next : ℕ) (w : seg_at n closes (drop next s) ≡ line_at d (drop at s)) where
    -- more brackets than may close
    pub many : most < closes → FormIs s at d most count (Err FaultyLine)
    many h k = let c = cut-seg d (drop at s) n closes (drop next s) (sym w) in
        (suc k, rw c.1 (laws.form-many k d most count c.0 (drop next s) c.2 n closes c.3 h))

    -- a seg that is too long
    pub long : closes ≤ most → max_seg < n → FormIs s at d most count (Err OutOfRange)
    long h g k = let c = cut-seg d (drop at s) n closes (drop next s) (sym w) in
        (suc k, rw c.1 (laws.form-long k d most count c.0 (drop next s) c.2 n closes c.3 h g))

    -- a seg that is a part too many
    pub full : closes ≤ most → n ≤ max_seg → max_parts ≤ count → FormIs s at d most count (Err PlanTooLarge)
    full h g p k = let c = cut-seg d (drop at s) n closes (drop next s) (sym w) in
        (suc k, rw c.1 (laws.form-full k d most count c.0 (drop next s) c.2 n closes c.3 h g p))

    -- a seg that is taken
    pub seg : n ≤ max_seg → count < max_parts → FormIs s at d most count (given_form n 0 closes next)
    seg g p k = let c = cut-seg d (drop at s) n closes (drop next s) (sym w) in
        (k, rw c.1 (laws.form-seg k d most count c.0 (drop next s) c.2 n closes c.3 g p))

  module _ (next : ℕ) (w : join_at (drop next s) ≡ line_at d (drop at s)) where
    -- a join too deep
    pub deep : max_joins ≤ d → FormIs s at d most count (Err PlanTooLarge)
    deep h k = let c = cut-join d (drop at s) (drop next s) (sym w) in
        (suc k, rw c.1 (laws.join-deep k d most count c.0 (drop next s) c.2 c.3 h))

    -- a join that is a part too many
    pub join-full : d < max_joins → max_parts ≤ count → FormIs s at d most count (Err PlanTooLarge)
    join-full h p k = let c = cut-join d (drop at s) (drop next s) (sym w) in
        (suc k, rw c.1 (laws.join-full k d most count c.0 (drop next s) c.2 c.3 h p))

    -- a join, by its parts
    pub join : d < max_joins → count < max_parts → (f : Result FormRead Refusal) → PartsIs s next (d + 1) most 0 0 0 f → FormIs s at d most count f
    join h g (Ok o) f = λ k.
        let c = cut-join d (drop at s) (drop next s) (sym w) in
        let r = f (suc k) d (sym (add-one d)) in
        (r.0, rw c.1 (laws.form-join k d most count c.0 (drop next s) c.2 c.3 h g o.reads o.depth o.closes r.0 (drop o.next s) r.1))
    join h g (Err r') f = λ k.
        let c = cut-join d (drop at s) (drop next s) (sym w) in
        let r = f (suc k) d (sym (add-one d)) in
        (r.0, rw c.1 (laws.join-refuses k d most count c.0 (drop next s) c.2 c.3 h g r.0 (refusal_number r') r.1))

module _ (s : List ℕ) (at d most count sum low may : ℕ) (is : may ≡ closable_after most count) where
  -- the next part is refused
  pub stop : (r : Refusal) → FormIs s at d may count (Err r) → PartsIs s at d most count sum low (Err r)
  stop why f k e r =
      let n = refusal_number why in
      let g = f k in
      let h : FormRefuses k (suc e) (closable_after most count) count (drop at s) g.0 n =
      subst (λ (x : ℕ). FormRefuses k (suc e) x count (drop at s) g.0 n) is (subst (λ (x : ℕ). FormRefuses k x may count (drop at s) g.0 n) (sym r) g.1) in
      (g.0, laws.parts-stop k e most count sum low (drop at s) g.0 n h)

  module _ (total depth closes next : ℕ) (f : FormIs s at d may count (given_form total depth closes next)) (deep : ℕ) (larger : deep ≡ max low depth) where
    -- the next part, as the laws ask for it
    given : (k e c : ℕ) → suc e ≡ d → closes ≡ c → (j : ℕ) × FormGives k (suc e) (closable_after most count) count (drop at s) total depth c j (drop next s)
    given k e c r z =
        let g = f k in
        let h : FormGives k (suc e) may count (drop at s) total depth closes g.0 (drop next s) = subst (λ (x : ℕ). FormGives k x may count (drop at s) total depth closes g.0 (drop next s)) (sym r) g.1 in
        let i : FormGives k (suc e) (closable_after most count) count (drop at s) total depth closes g.0 (drop next s) = subst (λ (x : ℕ). FormGives k (suc e) x count (drop at s) total depth closes g.0 (drop next s)) is h in
        (g.0, subst (λ (x : ℕ). FormGives k (suc e) (closable_after most count) count (drop at s) total depth x g.0 (drop next s)) z i)

    -- a join closes with a part after another only
    some : (n : ℕ) → 0 < closable_after most n → 0 < n
    some zero h = h
    some (suc n) h = omega arith

    -- the next part closes the join
    pub last : 0 < closes → closes ≤ may → PartsIs s at d most count sum low (given_form (sum + total) (deep + 1) (closes - 1) next)
    last h l k e r =
        let g = given k e (suc (closes - 1)) r (let z : closes ≡ suc (closes - 1) = omega arith in z) in
        let q : suc (max low depth) ≡ deep + 1 = ap suc (sym larger) ∙ sym (add-one deep) in (
          g.0,
          subst (λ (x : ℕ). PartsGive k e most count sum low (drop at s) (sum + total) x (closes - 1) g.0 (drop next s)) q
              (laws.parts_last k e most count sum low (drop at s) total depth g.0 (drop next s) (closes - 1) (some count (omega arith)) g.1),
        )

    -- the next part closes nothing, and the other parts follow
    pub more : closes ≡ 0 → (p : Result FormRead Refusal) → PartsIs s next d most (count + 1) (sum + total) deep p → PartsIs s at d most count sum low p
    more z (Ok o) w = λ k e r.
        let g = given k e 0 r z in
        let v = w (suc g.0) e r in
        let h : PartsGive (suc g.0) e most (suc count) (sum + total) deep (drop next s) o.reads o.depth o.closes v.0 (drop o.next s) =
        subst (λ (x : ℕ). PartsGive (suc g.0) e most x (sum + total) deep (drop next s) o.reads o.depth o.closes v.0 (drop o.next s)) (add-one count) v.1 in (
          v.0,
          laws.parts_more k e most count sum low (drop at s) total depth g.0 (drop next s) g.1 o.reads o.depth o.closes v.0 (drop o.next s)
              (subst (λ (x : ℕ). PartsGive (suc g.0) e most (suc count) (sum + total) x (drop next s) o.reads o.depth o.closes v.0 (drop o.next s)) larger h),
        )
    more z (Err why) w = λ k e r.
        let n = refusal_number why in
        let g = given k e 0 r z in
        let v = w (suc g.0) e r in
        let h : PartsRefuse (suc g.0) e most (suc count) (sum + total) deep (drop next s) v.0 n =
        subst (λ (x : ℕ). PartsRefuse (suc g.0) e most x (sum + total) deep (drop next s) v.0 n) (add-one count) v.1 in (
          v.0,
          laws.parts-refuse k e most count sum low (drop at s) total depth g.0 (drop next s) g.1 v.0 n
              (subst (λ (x : ℕ). PartsRefuse (suc g.0) e most (suc count) (sum + total) x (drop next s) v.0 n) larger h),
        )
