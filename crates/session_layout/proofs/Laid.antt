-- A session's words: laid out part by part, and read back.
use mathlib.Core.Path.{◌≡◌, refl, sym, ap, ◌∙◌}
use Prim.Native.Nat.{ℕ, ◌+◌, ◌≤◌, ◌<◌}
use native.Mathlib.Omega.{arith}
use mathlib.Core.List.{List, [], ◌∷◌, ◌++◌, append_assoc, append-nil}
use lib.ListN.{length, take, drop, get_or, set, length-append, length-take, length-drop, length-replicate, drop_of_length-le}
use lib.Seq.{drop_at, take_at, take_all, drop-drop, get_or-drop}
use Rattle.reuse.specs.Limits.{max_extents, slot_count, right_count}
use Rattle.reuse_rows.specs.Rows.{put_at, placed, padded}
use Rattle.reuse_copies.proofs.Padding.{padded-front, padded-wide}
use Rattle.reuse_copies.proofs.Puts.{put-cons, put-none, put-length, put-over, placed-fits, placed-not}
use Rattle.session.specs.declared.Session.{Session}
use Rattle.session.specs.Sessions.{fresh, Wide}
use Rattle.reuse_copies.proofs.Filling.{Filled, fill_step, filled-length}
use Rattle.session_layout.specs.Layout.{first_place, hist_place, slots_place, count_place, rights_place, next_place, session_length, session_in, session_laid, part}

-- words as many as the row has places
pub placed-whole : (row l : List ℕ) → length row ≡ length l → placed row 0 l ≡ l
unfolding put_at
placed-whole row l e =
    let z : 0 + length l ≡ length l = omega arith in
    placed-fits row 0 l (omega (arith, e)) ∙ rw z (simp (drop_of_length-le row {i = length l} (omega (arith, e)), append-nil))

-- words as many as the limit
pub padded-whole : (l : List ℕ) → max_extents ≡ length l → padded l ≡ l
padded-whole l e =
    sym (take_all (length l) (padded l) (omega (arith, e, padded-wide l))) ∙ padded-front l (omega (arith, e))

-- a part of so many words has them
pub part_length : (w : List ℕ) (at n : ℕ) → at + n ≤ length w → n ≡ length (take n (drop at w))
part_length w at n h = sym (simp (length-take, length-drop) (omega (arith, h)))

-- past a first part, and k more
skip : (a b : List ℕ) (n k : ℕ) → length a ≡ n → drop (n + k) (a ++ b) ≡ drop k b
skip a b n k e = sym (drop-drop k n (a ++ b)) ∙ ap (drop k) (drop_at a b n e)

-- the first word, put
pub lay-start : (out : List ℕ) (x : ℕ) → 1 ≤ length out → Filled out (x ∷ []) (set out 0 x) 1
lay-start out x l = record { same = sym (put-cons out 0 x [] (omega arith) ∙ put-none (set out 0 x) 1); size = refl; fits = l }

-- one more part, placed
pub lay_step : (out l row : List ℕ) (n : ℕ) → Filled out l row n → (m row' : List ℕ) (n' : ℕ) → length m + n ≡ n' → n' ≤ length out
    → row' ≡ placed row n m → Filled out (l ++ m) row' n'
lay_step out l row n h m row' n' e w q =
    fill_step out l row n h m row' n' (omega (arith, e)) (omega (arith, e))
    (q ∙ placed-fits row n m (omega (arith, e, filled-length out l row n h)))

-- one more word, set
pub lay-word : (out l row : List ℕ) (n : ℕ) → Filled out l row n → (x : ℕ) → n + 1 ≤ length out → Filled out (l ++ (x ∷ [])) (set row n x) (n + 1)
lay-word out l row n h x w =
    let e : set row n x ≡ put_at row n (x ∷ []) =
    sym (put-cons row n x [] (omega (arith, w, filled-length out l row n h)) ∙ put-none (set row n x) (n + 1)) in
    fill_step out l row n h (x ∷ []) (set row n x) (n + 1) w refl e

-- the widths of a new session
pub fresh-wide : Wide fresh
fresh-wide = record {
  first-wide = length-replicate {A = ℕ} max_extents 0;
  hist-wide = length-replicate {A = ℕ} max_extents 0;
  slots-wide = length-replicate {A = ℕ} slot_count 0;
  rights-wide = length-replicate {A = ℕ} right_count 0;
}

module _ (s : Session) (wide : Wide s) where
  -- the parts, one after the other, are the session's words
  pub laid_filled : (out row : List ℕ) (n : ℕ)
      → Filled out (((((((s.reads ∷ []) ++ s.first) ++ s.hist) ++ s.slots) ++ (s.count ∷ [])) ++ s.rights) ++ (s.next ∷ [])) row n
      → row ≡ put_at out 0 (session_laid s)
  unfolding session_laid
  laid_filled out row n w = w.same ∙ ap (put_at out 0) (simp append_assoc)

  -- the parts up to the right-hand sums
  abbrev pub laid_parts : List ℕ
  laid_parts = (((((s.reads ∷ []) ++ s.first) ++ s.hist) ++ s.slots) ++ (s.count ∷ [])) ++ s.rights

  -- each part is placed after the last
  pub laid-parts : (out r₁ r₂ r₃ r₄ : List ℕ) → session_length ≤ length out
      → r₁ ≡ placed (set out 0 s.reads) first_place s.first → r₂ ≡ placed r₁ hist_place s.hist
      → r₃ ≡ placed r₂ slots_place s.slots → r₄ ≡ placed (set r₃ count_place s.count) rights_place s.rights → Filled out laid_parts r₄ next_place
  laid-parts out r₁ r₂ r₃ r₄ l e₁ e₂ e₃ e₄ =
      let f₀ = lay-start out s.reads (omega (arith, l)) in
      let f₁ = lay_step out _ _ 1 f₀ s.first r₁ hist_place (omega (arith, wide.first-wide)) (omega (arith, l)) e₁ in
      let f₂ = lay_step out _ _ hist_place f₁ s.hist r₂ slots_place (omega (arith, wide.hist-wide)) (omega (arith, l)) e₂ in
      let f₃ = lay_step out _ _ slots_place f₂ s.slots r₃ count_place (omega (arith, wide.slots-wide)) (omega (arith, l)) e₃ in
      let f₄ = lay-word out _ _ count_place f₃ s.count (omega (arith, l)) in
      lay_step out _ _ rights_place f₄ s.rights r₄ next_place (omega (arith, wide.rights-wide)) (omega (arith, l)) e₄

  -- the next slot comes last
  pub laid-last : (out row : List ℕ) → session_length ≤ length out → Filled out laid_parts row next_place
      → set row next_place s.next ≡ put_at out 0 (session_laid s)
  laid-last out row l f = laid_filled out _ session_length (lay-word out _ row next_place f s.next l)

  -- as many as a session has
  pub laid-length : length (session_laid s) ≡ session_length
  unfolding session_laid
  laid-length = simp (length-append, wide.first-wide, wide.hist-wide, wide.slots-wide, wide.rights-wide)

  -- a row with room for them takes them
  pub laid-fits : (w : List ℕ) → session_length ≤ length w → placed w 0 (session_laid s) ≡ put_at w 0 (session_laid s)
  laid-fits w l = placed-fits w 0 (session_laid s) (omega (arith, l, laid-length))

  -- and keeps its length
  pub laid-row : (w : List ℕ) → session_length ≤ length w → length (put_at w 0 (session_laid s)) ≡ length w
  laid-row w l = put-length w 0 (session_laid s) (omega (arith, l, laid-length))

  -- a shorter one stays as it was
  pub laid-not : (w : List ℕ) → length w < session_length → placed w 0 (session_laid s) ≡ w
  laid-not w l = placed-not w 0 (session_laid s) (omega (arith, l, laid-length))

  module _ (rest : List ℕ) where
    abbrev on-rights : List ℕ
    on-rights = s.rights ++ (s.next ∷ rest)

    abbrev on-count : List ℕ
    on-count = s.count ∷ on-rights

    abbrev on-slots : List ℕ
    on-slots = s.slots ++ on-count

    abbrev on-hist : List ℕ
    on-hist = s.hist ++ on-slots

    abbrev on-first : List ℕ
    on-first = s.first ++ on-hist

    -- the words, with what lies past them
    spread : session_laid s ++ rest ≡ s.reads ∷ on-first
    unfolding session_laid
    spread = simp append_assoc

    -- past each part stands the next
    to-hist : drop max_extents on-first ≡ on-hist
    to-hist = drop_at s.first on-hist max_extents wide.first-wide

    to_slots : drop (max_extents + max_extents) on-first ≡ on-slots
    to_slots =
        skip s.first on-hist max_extents max_extents wide.first-wide
        ∙ drop_at s.hist on-slots max_extents wide.hist-wide

    to-count : drop (max_extents + (max_extents + slot_count)) on-first ≡ on-count
    to-count =
        skip s.first on-hist max_extents (max_extents + slot_count) wide.first-wide
        ∙ skip s.hist on-slots max_extents slot_count wide.hist-wide
        ∙ drop_at s.slots on-count slot_count wide.slots-wide

    to-rights : drop (max_extents + (max_extents + (slot_count + 1))) on-first ≡ on-rights
    to-rights =
        skip s.first on-hist max_extents (max_extents + (slot_count + 1)) wide.first-wide
        ∙ skip s.hist on-slots max_extents (slot_count + 1) wide.hist-wide
        ∙ skip s.slots on-count slot_count 1 wide.slots-wide

    to-next : drop (max_extents + (max_extents + (slot_count + (1 + right_count)))) on-first ≡ s.next ∷ rest
    to-next =
        skip s.first on-hist max_extents (max_extents + (slot_count + (1 + right_count))) wide.first-wide
        ∙ skip s.hist on-slots max_extents (slot_count + (1 + right_count)) wide.hist-wide
        ∙ skip s.slots on-count slot_count (1 + right_count) wide.slots-wide
        ∙ skip (s.count ∷ []) on-rights 1 right_count refl
        ∙ drop_at s.rights (s.next ∷ rest) right_count wide.rights-wide

    -- the session is read back from them
    pub read-laid : session_in (session_laid s ++ rest) ≡ s
    unfolding session_in part
    read-laid = rw spread (λ i. record {
      reads = s.reads;
      first = take_at s.first on-hist max_extents wide.first-wide i;
      hist = (ap (take max_extents) to-hist ∙ take_at s.hist on-slots max_extents wide.hist-wide) i;
      slots = (ap (take slot_count) to_slots ∙ take_at s.slots on-count slot_count wide.slots-wide) i;
      count = (sym (get_or-drop (max_extents + (max_extents + slot_count)) on-first 0 0) ∙ ap (λ (l : List ℕ). get_or l 0 0) to-count) i;
      rights = (ap (take right_count) to-rights ∙ take_at s.rights (s.next ∷ rest) right_count wide.rights-wide) i;
      next = (sym (get_or-drop (max_extents + (max_extents + (slot_count + (1 + right_count)))) on-first 0 0) ∙ ap (λ (l : List ℕ). get_or l 0 0) to-next) i;
    })

  -- laid into words and read back
  pub laid-read : (w : List ℕ) → session_in (put_at w 0 (session_laid s)) ≡ s
  unfolding put_at
  laid-read w = read-laid (drop (0 + length (session_laid s)) w)

  -- so are its words alone
  pub read_whole : session_in (session_laid s) ≡ s
  read_whole = ap session_in (sym (append-nil (session_laid s))) ∙ read-laid []

-- one session's words over another's
pub laid-over : (s r : Session) → Wide s → Wide r
    → (w : List ℕ) → session_length ≤ length w → put_at (put_at w 0 (session_laid s)) 0 (session_laid r) ≡ put_at w 0 (session_laid r)
laid-over s r v u w l =
    put-over w 0 (session_laid s) (omega (arith, l, laid-length s v)) (session_laid r) (laid-length r u ∙ sym (laid-length s v))
