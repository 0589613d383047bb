-- One level worked out from the totals above it, in place: the children from the last down.
use Rattle.std.proofs.Common.{◌≡◌, ℕ, zero, suc, ◌+◌, ◌-◌, ◌*◌, ◌<◌, ◌≤◌, Bool, true, false, ◌&&◌, leb, List, [], ◌∷◌, ◌++◌, length, get_or, take, drop, set, sym, refl, ap, ◌∙◌, subst, arith, length-append, length-drop, length-set, length-take-le, get_or-drop, take_all, get_or-set_other, get_or-take, get_or-set_same, ext_get_or, le-leb}
use mathlib.Core.Bool.{and-true, and-false, and_assoc}
use native.Mathlib.Decide.{ℕ_discrete}
use lib.ListN.{get_or-append}
use borrow.Author.Tests.{lt-leb}
use Rattle.session_rights.specs.Rights.{children, none_above}
use Rattle.reuse_rows.proofs.Slices.{Passing, passed, failed, ended}
use Rattle.session_sums.proofs.Tree.{double, double-is, after}
use Rattle.session_rights.proofs.Levels.{length-children, child-left, child-right}

-- the row E with its first m words worked out one level down
abbrev pub spread_to : ℕ → List ℕ → List ℕ → List ℕ
spread_to m E R = children (take m E) R ++ drop (m + m) E

-- one point more within its total
none_more : (j : ℕ) (R E : List ℕ) → j < length R → j < length E
    → none_above (take (suc j) R) (take (suc j) E) ≡ none_above (take j R) (take j E) && leb (get_or R j 0) (get_or E j 0)
unfolding none_above
none_more j [] E h g = absurd (omega arith)
none_more j (r ∷ R) [] h g = absurd (omega arith)
none_more zero (r ∷ R) (e ∷ E) h g = and-true (leb r e)
none_more (suc j) (r ∷ R) (e ∷ E) h g =
    ap (λ (b : Bool). leb r e && b) (none_more j R E (omega arith) (omega arith))
    ∙ sym (and_assoc (leb r e) (none_above (take j R) (take j E)) (leb (get_or R j 0) (get_or E j 0)))

-- the points from i on are worked out: A is E below their children, and what is to be from there on
pub record Spread (m : ℕ) (E R A : List ℕ) (good : Bool) (i : ℕ) : Type 0 where
  pub wide : length A ≡ length E
  pub room : m + m ≤ length E
  pub each : length R ≡ m
  pub low : i ≤ m
  pub kept : (k : ℕ) → k < i + i → get_or A k 0 ≡ get_or E k 0
  pub done : (k : ℕ) → i + i ≤ k → get_or A k 0 ≡ get_or (spread_to m E R) k 0
  pub tested : Passing good (none_above (take i R) (take i E)) (none_above R (take m E))

module _ (m : ℕ) (E R : List ℕ) (room : m + m ≤ length E) (each : length R ≡ m) where
  -- there are m totals
  totals : length (take m E) ≡ m
  totals = length-take-le m E (omega arith)

  -- and twice as many children
  twice : length (children (take m E) R) ≡ m + m
  twice = length-children (take m E) R (each ∙ sym totals) ∙ omega (arith, totals)

  -- behind them the row stays
  behind : (k : ℕ) → m + m ≤ k → get_or E k 0 ≡ get_or (spread_to m E R) k 0
  behind k h =
      let at : m + m + (k - (m + m)) ≡ k = omega arith in
      sym (after (children (take m E) R) (drop (m + m) E) k (k - (m + m)) (omega (arith, twice))
      ∙ get_or-drop (m + m) E (k - (m + m)) 0 ∙ ap (λ (n : ℕ). get_or E n 0) at)

  -- a left child
  left-child : (j : ℕ) → j < m → get_or (spread_to m E R) (2 * j) 0 ≡ get_or E j 0 - get_or R j 0
  left-child j h =
      let at : 2 * j ≡ double j = omega (arith, double-is j) in
      ap (λ (k : ℕ). get_or (spread_to m E R) k 0) at
      ∙ get_or-append (children (take m E) R) (drop (m + m) E) 0 (double j) (omega (arith, twice, double-is j))
      ∙ child-left j (take m E) R (omega (arith, totals)) (each ∙ sym totals)
      ∙ ap (λ (n : ℕ). n - get_or R j 0) (get_or-take m E j 0 h)

  -- a right child
  right_child : (j : ℕ) → j < m → get_or (spread_to m E R) (2 * j + 1) 0 ≡ get_or R j 0
  right_child j h =
      let at : 2 * j + 1 ≡ suc (double j) = omega (arith, double-is j) in
      ap (λ (k : ℕ). get_or (spread_to m E R) k 0) at
      ∙ get_or-append (children (take m E) R) (drop (m + m) E) 0 (suc (double j)) (omega (arith, twice, double-is j))
      ∙ child-right j (take m E) R (omega (arith, totals)) (each ∙ sym totals)

  -- before the last point
  pub spread-start : Spread m E R E true m
  spread-start = record {
    wide = refl;
    room = room;
    each = each;
    low = omega arith;
    kept = λ k h. refl;
    done = behind;
    tested = ap (λ (l : List ℕ). none_above l (take m E)) (take_all m R (omega arith));
  }

module _ (m : ℕ) (E R A : List ℕ) (good : Bool) (i : ℕ) (b : Spread m E R A good i) where
  module _ (h : 0 < i) where
    -- the point below i
    abbrev j : ℕ
    j = i - 1

    -- the row with its children
    abbrev A' : List ℕ
    A' = set (set A (2 * j + 1) (get_or R j 0)) (2 * j) (get_or A j 0 - get_or R j 0)

    -- its total
    pub spread-total : get_or A (i - 1) 0 ≡ get_or E (i - 1) 0
    spread-total = b.kept (i - 1) (omega arith)

    -- a word below its children
    stays : (k : ℕ) → k < j + j → get_or A' k 0 ≡ get_or E k 0
    stays k l =
        get_or-set_other (set A (2 * j + 1) (get_or R j 0)) (2 * j) k (get_or A j 0 - get_or R j 0) 0 (λ e. omega arith)
        ∙ get_or-set_other A (2 * j + 1) k (get_or R j 0) 0 (λ e. omega arith)
        ∙ b.kept k (omega arith)

    -- a word from them on
    comes : (k : ℕ) → j + j ≤ k → Dec (k ≡ 2 * j) → Dec (k ≡ 2 * j + 1) → get_or A' k 0 ≡ get_or (spread_to m E R) k 0
    comes k l (yes e) q =
        subst (λ (n : ℕ). get_or A' n 0 ≡ get_or (spread_to m E R) n 0) (sym e)
        (get_or-set_same (set A (2 * j + 1) (get_or R j 0)) (2 * j) (get_or A j 0 - get_or R j 0) 0 (simp length-set (omega (arith, b.wide, b.room, b.low)))
        ∙ ap (λ (n : ℕ). n - get_or R j 0) spread-total
        ∙ sym (left-child m E R b.room b.each j (omega (arith, b.low))))
    comes k l (no n) (yes e) =
        subst (λ (n : ℕ). get_or A' n 0 ≡ get_or (spread_to m E R) n 0) (sym e)
        (get_or-set_other (set A (2 * j + 1) (get_or R j 0)) (2 * j) (2 * j + 1) (get_or A j 0 - get_or R j 0) 0 (λ q. omega arith)
        ∙ get_or-set_same A (2 * j + 1) (get_or R j 0) 0 (omega (arith, b.wide, b.room, b.low))
        ∙ sym (right_child m E R b.room b.each j (omega (arith, b.low))))
    comes k l (no n) (no q) =
        get_or-set_other (set A (2 * j + 1) (get_or R j 0)) (2 * j) k (get_or A j 0 - get_or R j 0) 0 n
        ∙ get_or-set_other A (2 * j + 1) k (get_or R j 0) 0 q
        ∙ b.done k (omega (arith, n, q))

    -- the test of the points below i, by that of the last
    last : none_above (take i R) (take i E) ≡ none_above (take j R) (take j E) && leb (get_or R j 0) (get_or E j 0)
    last =
        let on : i ≡ suc j = omega arith in
        ap (λ (n : ℕ). none_above (take n R) (take n E)) on ∙ none_more j R E (omega (arith, b.each, b.low)) (omega (arith, b.room, b.low))

    -- one point more, by what is now tested
    abbrev Turned : Bool → Type 0
    Turned g = Spread m E R (set (set A (2 * (i - 1) + 1) (get_or R (i - 1) 0)) (2 * (i - 1)) (get_or A (i - 1) 0 - get_or R (i - 1) 0)) g (i - 1)

    turned : (g : Bool) → Passing g (none_above (take j R) (take j E)) (none_above R (take m E)) → Turned g
    turned g t = record {
      wide = length-set (set A (2 * j + 1) (get_or R j 0)) (2 * j) (get_or A j 0 - get_or R j 0) ∙ length-set A (2 * j + 1) (get_or R j 0) ∙ b.wide;
      room = b.room;
      each = b.each;
      low = omega (arith, b.low);
      kept = stays;
      done = λ k l. comes k l (ℕ_discrete k (2 * j)) (ℕ_discrete k (2 * j + 1));
      tested = t;
    }

    -- its right-hand sum is above its total
    pub spread-above : get_or A (i - 1) 0 < get_or R (i - 1) 0 → Turned false
    spread-above l =
        turned false
        (failed good b.tested
        (last ∙ ap (λ (t : Bool). none_above (take j R) (take j E) && t) (lt-leb (get_or R j 0) (get_or E j 0) (omega (arith, spread-total))) ∙ and-false (none_above (take j R) (take j E))))

    -- it is not
    pub spread-within : get_or R (i - 1) 0 ≤ get_or A (i - 1) 0 → Turned good
    spread-within l =
        turned good
        (passed good b.tested
        (last ∙ ap (λ (t : Bool). none_above (take j R) (take j E) && t) (le-leb (get_or R j 0) (get_or E j 0) (omega (arith, spread-total))) ∙ and-true (none_above (take j R) (take j E))))

  -- all points are worked out
  pub spread_end : i ≤ 0 → (good ≡ none_above R (take m E)) × (A ≡ spread_to m E R)
  unfolding none_above
  spread_end l = (ended good b.tested (none_left i l), ext_get_or 0 A (spread_to m E R) long (λ k q. b.done k (omega arith)))
    where
      none_left : (n : ℕ) → n ≤ 0 → none_above (take n R) (take n E) ≡ true
      none_left zero q = refl
      none_left (suc n) q = absurd (omega arith)

      long : length A ≡ length (spread_to m E R)
      long = simp (length-append, length-drop) (omega (arith, b.wide, b.room, twice m E R b.room b.each))
