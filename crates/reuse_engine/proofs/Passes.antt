-- The engine's two passes: words moved down from the top, and all moved up again.
use mathlib.Core.Path.{◌≡◌, refl, sym, ap, ◌∙◌}
use Prim.Native.Nat.{ℕ, zero, suc, ◌+◌, ◌-◌, ◌≤◌, ◌<◌}
use native.Mathlib.Omega.{arith}
use native.Mathlib.Numerals.{add-one}
use mathlib.Core.List.{List, [], ◌∷◌, ◌++◌, append_assoc, append-nil}
use mathlib.Core.Bool.{false}
use lib.ListN.{length, take, drop, get_or, set, length-append, length-take, length-drop, drop_of_length-le, get_or-append}
use lib.Seq.{take-suc, drop-cons, set_at, get_or_at, take-length, get_or-append_seam, length-take-le, take_all, take-take, get_or-take}
use lib.Seq.{take_at, drop_at, take-add, drop-drop, get_or-drop}
use borrow.Author.Tests.{ne_eqb, le-leb, lt-ltb, le-ltb}
use Rattle.reuse_engine.specs.declared.Place.TheVariants.{Cold, Depth, Full}
use Rattle.reuse.specs.Lists.{mem}
use Rattle.reuse.specs.Lru.{cold, depth}
use Rattle.reuse_engine.specs.Engine.{place_of, lifted, Shifted, Sunk}
use Rattle.reuse.proofs.Lists.{mem-append}
use Rattle.reuse.proofs.Depth.{depth-absent, depth-at}

-- words moved up from the end, down to place i
pub record Risen (s : List ℕ) (last : ℕ) (row : List ℕ) (carry i : ℕ) : Type 0 where
  pub within : i ≤ length s
  pub moved : row ≡ take i s ++ drop (suc i) (s ++ (last ∷ []))
  pub hand : carry ≡ get_or (s ++ (last ∷ [])) i 0

module _ (s : List ℕ) (last : ℕ) where
  -- one more word than s
  long : length (s ++ (last ∷ [])) ≡ suc (length s)
  long = simp length-append (omega arith)

  -- before the first
  pub rise-start : Risen s last s last (length s)
  rise-start = record {
    within = omega arith;
    moved = sym (simp (take-length, drop_of_length-le (s ++ (last ∷ [])) {i = suc (length s)} (omega (arith, long)), append-nil));
    hand = sym (get_or-append_seam s last [] 0);
  }

  -- what stands at the next place
  rise-next : (row : List ℕ) (carry j : ℕ) → Risen s last row carry (suc j) → row ≡ take j s ++ (get_or s j 0 ∷ drop (suc (suc j)) (s ++ (last ∷ [])))
  rise-next row carry j h =
      let w : j < length s = omega (arith, h.within) in
      h.moved ∙ rw (take-suc s j 0 w) (simp append_assoc)

  -- one word
  pub rise-turn : (row : List ℕ) (carry i j : ℕ) → Risen s last row carry i → suc j ≡ i → Risen s last (set row j carry) (get_or row j 0) j
  rise-turn row carry i j g e =
      let h : Risen s last row carry (suc j) = rw e g in
      let w : j < length s = omega (arith, h.within) in
      let n : length (take j s) ≡ j = length-take-le j s (omega arith) in
      record {
        within = omega arith;
        moved = rw (
          rise-next row carry j h,
          set_at (take j s) (get_or s j 0) (drop (suc (suc j)) (s ++ (last ∷ []))) carry j n,
          drop-cons (s ++ (last ∷ [])) (suc j) 0 (omega (arith, long)),
          h.hand,
        );
        hand = rw (rise-next row carry j h, get_or_at (take j s) (get_or s j 0) (drop (suc (suc j)) (s ++ (last ∷ []))) 0 j n) (sym (get_or-append s (last ∷ []) 0 j w));
      }

  -- all words moved
  pub rise-end : (row : List ℕ) (carry i : ℕ) → Risen s last row carry i → i ≤ 0 → row ≡ drop 1 (s ++ (last ∷ []))
  rise-end row carry i h e = let z : i ≡ 0 = omega arith in h.moved ∙ rw z

  -- as long as before
  pub risen-length : (row : List ℕ) (carry i : ℕ) → Risen s last row carry i → length row ≡ length s
  risen-length row carry i h = rw h.moved (simp (length-append, length-take, length-drop) (omega (arith, h.within, long)))

-- a word put before k words: the first k of these
take-under : (k y : ℕ) (l : List ℕ) → take k (y ∷ take k l) ≡ take k (y ∷ l)
take-under zero y l = refl
take-under (suc k) y l = ap {B = List ℕ} (λ r. y ∷ r) (take-take k (suc k) l (omega arith))

-- and the one after them
get_or-under : (k y : ℕ) (l : List ℕ) → get_or (y ∷ take k l) k 0 ≡ get_or (y ∷ l) k 0
get_or-under zero y l = refl
get_or-under (suc k) y l = get_or-take (suc k) l k 0 (omega arith)

-- words moved one place down, with x before them
module _ (s : List ℕ) (x : ℕ) where
  -- before the first
  pub shift-start : Shifted s x s x 0
  shift-start = record { within = omega arith; moved = refl; hand = refl }

  module _ (row : List ℕ) (carry i : ℕ) (h : Shifted s x row carry i) where
    -- those moved are as many as were passed
    length_moved : length (take i (x ∷ s)) ≡ i
    length_moved = length-take-le i (x ∷ s) (omega (arith, h.within))

    -- as long as before
    pub shift-length : length row ≡ length s
    shift-length = rw h.moved (simp (length-append, length-drop, length_moved) (omega (arith, h.within)))

    -- those left are untouched
    shift-left : drop i row ≡ drop i s
    shift-left = rw h.moved (drop_at (take i (x ∷ s)) (drop i s) i length_moved)

    -- those moved stand before them
    shift-first : take i row ≡ take i (x ∷ s)
    shift-first = rw h.moved (take_at (take i (x ∷ s)) (drop i s) i length_moved)

    -- what stands at the next place
    shift-next : i < length s → row ≡ take i (x ∷ s) ++ (get_or s i 0 ∷ drop (suc i) s)
    shift-next l = h.moved ∙ rw (drop-cons s i 0 l)

    -- it is the word of s at that place
    shift-here : i < length s → get_or row i 0 ≡ get_or s i 0
    shift-here l = rw (shift-next l) (get_or_at (take i (x ∷ s)) (get_or s i 0) (drop (suc i) s) 0 i length_moved)

    -- the word in hand put there
    shift-set : i < length s → set row i carry ≡ take (suc i) (x ∷ s) ++ drop (suc i) s
    shift-set l =
        let t : take (suc i) (x ∷ s) ≡ take i (x ∷ s) ++ (get_or (x ∷ s) i 0 ∷ []) = take-suc (x ∷ s) i 0 (omega arith) in
        rw (shift-next l, set_at (take i (x ∷ s)) (get_or s i 0) (drop (suc i) s) carry i length_moved, h.hand)
        (sym (ap (λ (r : List ℕ). r ++ drop (suc i) s) t ∙ simp append_assoc))

    -- one word
    pub shift-turn : i < length s → Shifted s x (set row i carry) (get_or row i 0) (i + 1)
    shift-turn l = rw (add-one i) (record { within = omega arith; moved = shift-set l; hand = shift-here l })

    -- no word is left
    pub shift-end : length s ≤ i → Shifted s x row carry (length s)
    shift-end l = let e : i ≡ length s = omega (arith, h.within) in rw e at h

    -- the next k words, moved by themselves
    module _ (k : ℕ) (fits : i + k ≤ length s) (part : List ℕ) (out : ℕ) (b : Shifted (take k (drop i s)) carry part out k) where
      -- the word in hand stands before what is left
      block-under : drop i (x ∷ s) ≡ carry ∷ drop i s
      block-under = drop-cons (x ∷ s) i 0 (omega arith) ∙ rw h.hand

      -- all of them moved
      block-part : part ≡ take k (drop i (x ∷ s))
      block-part =
          b.moved
          ∙ rw (drop_of_length-le (take k (drop i s)) {i = k} (simp length-take (omega arith)), append-nil, take-under k carry (drop i s), block-under)

      -- the last of them is in hand
      block-hand : out ≡ get_or (x ∷ s) (i + k) 0
      block-hand = b.hand ∙ get_or-under k carry (drop i s) ∙ rw (← block-under) (get_or-drop i (x ∷ s) k 0)

      -- moved with those before them
      shift-block : Shifted s x (take i row ++ (part ++ drop k (drop i row))) out (i + k)
      shift-block = record {
        within = fits;
        moved = rw (take-add i k (x ∷ s), append_assoc, ← block-part, ← drop-drop k i s, shift-left, shift-first);
        hand = block-hand;
      }

-- the same, with x not among those passed
module _ (s : List ℕ) (x n : ℕ) where
  -- before the first
  pub sink-start : n ≤ length s → Sunk s x n s x 0
  unfolding mem
  sink-start h = record { shift = shift-start s x; below = omega arith; fits = h; passed = refl }

  module _ (row : List ℕ) (carry i : ℕ) (h : Sunk s x n row carry i) where
    -- as long as before
    pub sunk-length : length row ≡ length s
    sunk-length = shift-length s x row carry i h.shift

    -- one word that is not x
    pub sink-turn : i < n → (get_or row i 0 ≡ x → ⊥) → Sunk s x n (set row i carry) (get_or row i 0) (i + 1)
    unfolding mem
    sink-turn l other =
        let w : i < length s = omega (arith, h.fits) in
        record {
          shift = shift-turn s x row carry i h.shift w;
          below = omega arith;
          fits = h.fits;
          passed = rw (add-one i, take-suc s i 0 w)
              (simp (mem-append, h.passed, ne_eqb x (get_or s i 0) (λ e. other (shift-here s x row carry i h.shift w ∙ sym e))));
        }

    -- the words up to place e, none of them x, moved by themselves
    pub sink-block : (e : ℕ) → i ≤ e → e ≤ n → mem x (take (e - i) (drop i row)) ≡ false → (part : List ℕ) (out : ℕ)
        → Shifted (take (e - i) (drop i row)) carry part out (length (take (e - i) (drop i row)))
        → Sunk s x n (take i row ++ (part ++ drop (e - i) (drop i row))) out e
    sink-block e from to none part out b =
        let k : i + (e - i) ≡ e = omega arith in
        let d : drop i row ≡ drop i s = shift-left s x row carry i h.shift in
        let w : length (take (e - i) (drop i s)) ≡ e - i = length-take-le (e - i) (drop i s) (simp length-drop (omega (arith, h.fits))) in
        let m : mem x (take (e - i) (drop i s)) ≡ false = rw d at none in
        let g : Shifted (take (e - i) (drop i s)) carry part out (e - i) = rw (d, w) at b in
        record {
          shift = rw k at (shift-block s x row carry i h.shift (e - i) (omega (arith, h.fits)) part out g);
          below = to;
          fits = h.fits;
          passed = rw (← k, take-add i (e - i) s, mem-append, h.passed) m;
        }

    -- x is found
    pub sink-found : i < n → get_or row i 0 ≡ x → Depth (i + 1) ≡ place_of s n x
    unfolding place_of
    sink-found l e =
        let w : i < length s = omega (arith, h.fits) in
        let t : take i (take n s) ≡ take i s = take-take i n s (omega arith) in
        let y : get_or s i 0 ≡ x = sym (shift-here s x row carry i h.shift w) ∙ e in
        rw (add-one i)
        (simp (
          le-leb n (length s) h.fits,
          depth-at x (take n s) i (simp length-take (omega arith)) (rw t h.passed) (get_or-take n s i 0 l ∙ y),
        ))

    -- and its place filled
    pub sink-lifted : i < n → set row i carry ≡ lifted (i + 1) x s
    unfolding lifted
    sink-lifted l = rw (add-one i) (shift-set s x row carry i h.shift (omega (arith, h.fits)))

    -- x is not among the n
    pub sink-absent : n ≤ i → depth (take n s) x ≡ cold (suc (length (take n s)))
    sink-absent l = let e : i ≡ n = omega (arith, h.below) in depth-absent x (take n s) (rw e at h.passed)

    -- it is new
    pub sink-cold : n ≤ i → n < length s → Cold ≡ place_of s n x
    unfolding place_of
    sink-cold l w = simp (le-leb n (length s) h.fits, sink-absent l, lt-ltb n (length s) w)

    -- the last of them goes one place down
    pub sink-last : n ≤ i → n < length s → set row n carry ≡ lifted (suc n) x s
    unfolding lifted
    sink-last l w = let e : i ≡ n = omega (arith, h.below) in rw e at (shift-set s x row carry i h.shift (omega arith))

    -- there is no room
    pub sink-full : n ≤ i → length s ≤ n → Full ≡ place_of s n x
    unfolding place_of
    sink-full l w = simp (le-leb n (length s) h.fits, sink-absent l, le-ltb n (length s) w)

    -- the words moved up again
    pub sink-back : n ≤ i → length s ≤ n → drop 1 (row ++ (carry ∷ [])) ≡ s
    sink-back l w =
        let e : i ≡ length s = omega (arith, h.below, h.fits) in
        let t : x ∷ s ≡ take i (x ∷ s) ++ (get_or (x ∷ s) i 0 ∷ []) =
        sym (take_all (suc i) (x ∷ s) (omega arith)) ∙ take-suc (x ∷ s) i 0 (omega arith) in
        let r : row ++ (carry ∷ []) ≡ x ∷ s = rw (h.shift.moved, h.shift.hand, drop_of_length-le s {i = i} (omega arith)) (simp append-nil (sym t)) in
        ap (drop 1) r
