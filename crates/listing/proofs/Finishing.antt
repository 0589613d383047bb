-- What the end of the text gives: one law for each way that the code returns.
use Rattle.std.specs.Prelude.{Result, Ok, Err}
use Rattle.reuse.specs.declared.refusals.Refusal.{Refusal}
use Rattle.reuse.specs.declared.refusals.Refusal.TheVariants.{FaultyLine, Unsound}
use Rattle.reuse.specs.Refusals.{refusal_number, refusal_with}
use mathlib.Core.Path.{◌≡◌, refl, sym, ap, subst, ◌∙◌}
use Prim.Native.Nat.{ℕ, zero, suc, ◌≤◌, ◌<◌}
use mathlib.Core.Logic.{◌⊎◌, inl, inr}
use native.Mathlib.Omega.{arith}
use mathlib.Core.List.{List, [], ◌∷◌}
use mathlib.Core.Bool.{true, false}
use mathlib.Core.Option.{none}
use lib.Dec.{eqb}
use lib.ListN.{length, take}
use lib.Seq.{length-take-le}
use borrow.Author.Tests.{eqb-true}
use Rattle.reuse.proofs.Lists.{by-test}
use Rattle.texts.specs.Lines.{Answer, to, no, at, stopped, finish_by}
use Rattle.texts.proofs.Tests.{never}
use Rattle.texts.specs.Logs.{empty, inside, whole}
use Rattle.listing_texts.specs.Feeding.{Taken, State, taken_whole, printed_at, verdict_at, state_by}
use Rattle.listing_texts.specs.Listings.{listed, refused_text}
use Rattle.listing_tally.specs.Rows.{Tallied, tally_in, taken_by}
use Rattle.listing_turns.proofs.Turns.{state_in}
use Rattle.listing_texts.proofs.Lengths.{counted-length, refused-length}
use Rattle.listing_pages.specs.Texts.{page_of}
use Rattle.listing_pages.specs.declared.Page.{Page}
use Rattle.listing_pages.proofs.Pieces.{page-front, page-len}
use Rattle.listing_soundness.specs.Soundness.{refuses_text}
use Rattle.listing.specs.Listers.{sound_lister, state_of}
use Rattle.listing_texts.specs.Pages.{page_bytes, AddsUp}
use Rattle.listing_texts.specs.Tallies.{Tally, misses_by}
use Rattle.listing.specs.declared.Lister.{Lister}
use Rattle.listing_tally.specs.declared.Phase.{Phase}
use Rattle.listing_tally.specs.declared.Phase.TheVariants.{Empty, Inside, Whole, Stopped}
use Rattle.listing.proofs.Soundness.{state-sound, state-unsound}
use Rattle.listing.proofs.Kept.{Kept}
use Rattle.listing.proofs.Listers.{Wide, sound-kept}

-- the end comes too early where nothing whole is read
verdict-early : (s : Taken) → taken_whole s ≡ none → (held : List ℕ) → verdict_at (at 0 held s) ≡ Err FaultyLine
unfolding verdict_at finish_by
verdict-early s e [] = rw e
verdict-early s e (x ∷ held) = refl

-- so it does inside a line
verdict-inside : (s : Taken) (k : ℕ) (line : List ℕ) → 0 < k → k ≤ length line → verdict_at (at 0 (take k line) s) ≡ Err FaultyLine
unfolding verdict_at finish_by
verdict-inside s zero line h g = absurd (omega arith)
verdict-inside s (suc k) [] h g = absurd (omega arith)
verdict-inside s (suc k) (x ∷ line) h g = refl

-- a whole trace is listed
verdict-tally : (t : Tally) → verdict_at (at 0 [] (whole t)) ≡ Ok tt
unfolding verdict_at finish_by
verdict-tally t = refl

-- a refused text is refused with its number
verdict-stop : (n : ℕ) → verdict_at (stopped 0 n) ≡ Err (refusal_with n)
unfolding verdict_at finish_by
verdict-stop n = refl

-- one that is listed has ended its last line, and its trace is whole
whole-at : (a : Answer Taken) (held : List ℕ) → verdict_at (state_by a held) ≡ Ok tt → (t : Tally) × (a ≡ to (whole t)) × (held ≡ [])
unfolding verdict_at finish_by
whole-at (to empty) [] e = never (cc)
whole-at (to (inside t)) [] e = never (cc)
whole-at (to (whole t)) [] e = (t, refl, refl)
whole-at (to s) (x ∷ held) e = never (cc)
whole-at (no n) held e = never (cc)

-- a whole trace prints its listing
print-tally : (t : Tally) → printed_at (at 0 [] (whole t)) ≡ listed t.reads (length t.counts) (misses_by t.counts)
unfolding printed_at finish_by
print-tally t = refl

-- the counts of a tally count its reads
pub counted : (reads extents : ℕ) (stack counts : List ℕ) → Tallied reads extents stack counts → AddsUp reads (take extents counts)
counted reads extents stack counts g =
    let e : length (take extents counts) ≡ extents = length-take-le extents counts (omega arith) in
    record {
      few = omega arith;
      whole = omega (arith, g.all);
    }

-- a phase whose text is taken whole
whole-phase : (p : Phase) (s t : Tally) → taken_by p s ≡ to (whole t) → p ≡ Whole
whole-phase Empty s t e = never (cc)
whole-phase Inside s t e = never (cc)
whole-phase Whole s t e = refl
whole-phase (Stopped n) s t e = never (cc)

module _ (l : Lister) where
  -- a lister that is not sound
  pub verdict-unsound : sound_lister l ≡ false → Err Unsound ≡ verdict_at (state_of l)
  verdict-unsound h = sym (ap verdict_at (state-unsound l h) ∙ verdict-stop 7)

  -- one that is listed is sound
  pub listed-sound : verdict_at (state_of l) ≡ Ok tt → sound_lister l ≡ true
  listed-sound e = by-test (sound_lister l) (λ s. s) (λ s. let q : ◌≡◌ {A = Result Unit Refusal} (Err Unsound) (Ok tt) = verdict-unsound s ∙ e in never (cc))

  module _ (h : sound_lister l ≡ true) where
    -- a sound one, by its phase
    by-phase : (p : Phase) → l.phase ≡ p → state_of l ≡ state_in p l.reads l.extents l.stack l.counts (take l.held l.line)
    by-phase p e = state-sound l h ∙ ap (λ (q : Phase). state_in q l.reads l.extents l.stack l.counts (take l.held l.line)) e

    -- before the first line
    verdict-empty : l.phase ≡ Empty → Err FaultyLine ≡ verdict_at (state_of l)
    verdict-empty e = sym (ap verdict_at (by-phase Empty e) ∙ verdict-early empty refl (take l.held l.line))

    -- inside the trace
    verdict-reads : l.phase ≡ Inside → Err FaultyLine ≡ verdict_at (state_of l)
    verdict-reads e = sym (ap verdict_at (by-phase Inside e) ∙ verdict-early (inside (tally_in l.reads l.extents l.stack l.counts)) refl (take l.held l.line))

    -- before the trace has ended
    pub verdict-open : (l.phase ≡ Empty) ⊎ (l.phase ≡ Inside) → Err FaultyLine ≡ verdict_at (state_of l)
    verdict-open (inl e) = verdict-empty e
    verdict-open (inr e) = verdict-reads e

    -- a refused text
    pub verdict-stopped : (n : ℕ) → l.phase ≡ Stopped n → Err (refusal_with n) ≡ verdict_at (state_of l)
    verdict-stopped n e = sym (ap verdict_at (by-phase (Stopped n) e) ∙ verdict-stop n)

    -- after the trace, inside a line
    pub verdict-held : l.phase ≡ Whole → 0 < l.held → l.held ≤ length l.line → Err FaultyLine ≡ verdict_at (state_of l)
    verdict-held e a b = sym (ap verdict_at (by-phase Whole e) ∙ verdict-inside (whole (tally_in l.reads l.extents l.stack l.counts)) l.held l.line a b)

    -- after the trace, at the end of its last line
    pub verdict-listed : l.phase ≡ Whole → l.held ≡ 0 → Ok tt ≡ verdict_at (state_of l)
    verdict-listed e a =
        sym (ap verdict_at (by-phase Whole e)
        ∙ ap (λ (k : ℕ). verdict_at (at 0 (take k l.line) (whole (tally_in l.reads l.extents l.stack l.counts)))) a
        ∙ verdict-tally (tally_in l.reads l.extents l.stack l.counts))

    -- a listed one prints the listing of its tally
    pub prints-listed : verdict_at (state_of l) ≡ Ok tt
        → listed l.reads (length (take l.extents l.counts)) (misses_by (take l.extents l.counts)) ≡ printed_at (state_of l)
    prints-listed e =
        let t = tally_in l.reads l.extents l.stack l.counts in
        let w = whole-at (taken_by l.phase t) (take l.held l.line) (sym (ap verdict_at (state-sound l h)) ∙ e) in
        sym (ap printed_at (by-phase Whole (whole-phase l.phase t w.0 w.1))
        ∙ ap (λ (held : List ℕ). printed_at (at 0 held (whole t))) w.2
        ∙ print-tally t)

-- the numbers that a text is refused with are small
number_small : (n : ℕ) → refuses_text n ≡ true → n ≤ 9
unfolding refuses_text
number_small n h =
    by-test (eqb n 1) (λ e. omega (arith, eqb-true n 1 e))
    (λ e. by-test (eqb n 2) (λ f. omega (arith, eqb-true n 2 f))
    (λ f. by-test (eqb n 8) (λ g. omega (arith, eqb-true n 8 g))
    (λ g. let z : eqb n 9 ≡ true = (simp (e, f, g) at h) in omega (arith, eqb-true n 9 z))))

-- each is the number of its refusal
text-number : (n : ℕ) → refuses_text n ≡ true → refusal_number (refusal_with n) ≡ n
unfolding refuses_text
text-number n h =
    by-test (eqb n 1) (λ e. rw (eqb-true n 1 e))
    (λ e. by-test (eqb n 2) (λ f. rw (eqb-true n 2 f))
    (λ f. by-test (eqb n 8) (λ g. rw (eqb-true n 8 g))
    (λ g. let z : eqb n 9 ≡ true = (simp (e, f, g) at h) in rw (eqb-true n 9 z))))

-- a text that is kept and refused at its end prints its refusal
kept-prints : (s : State) → Kept s → (r : Refusal) → verdict_at s ≡ Err r → printed_at s ≡ refused_text (refusal_number r)
unfolding printed_at verdict_at finish_by
kept-prints (at k [] empty) g r e = let q : FaultyLine ≡ r = cc in rw (← q) refl
kept-prints (at k [] (inside t)) g r e = let q : FaultyLine ≡ r = cc in rw (← q) refl
kept-prints (at k [] (whole t)) g r e = never (cc)
kept-prints (at k (x ∷ held) s) g r e = let q : FaultyLine ≡ r = cc in rw (← q) refl
kept-prints (stopped k n) g r e = let q : refusal_with n ≡ r = cc in ap refused_text (sym (text-number n g) ∙ ap refusal_number q)

-- so does every lister
pub prints-refused : (l : Lister) → Wide l → (r : Refusal) → verdict_at (state_of l) ≡ Err r → printed_at (state_of l) ≡ refused_text (refusal_number r)
unfolding printed_at finish_by
prints-refused l w r v =
    by-test (sound_lister l) (λ e. kept-prints (state_of l) (sound-kept l e w) r v)
    (λ e. let q : ◌≡◌ {A = Result Unit Refusal} (Err Unsound) (Err r) = verdict-unsound l e ∙ v in
    let is : Unsound ≡ r = cc in
    subst (λ (s : State). printed_at s ≡ refused_text (refusal_number r)) (sym (state-unsound l e)) (ap (λ (why : Refusal). refused_text (refusal_number why)) is))

-- what a text that is kept prints at its end fits a page
kept-length : (s : State) → Kept s → length (printed_at s) ≤ page_bytes
unfolding printed_at finish_by
kept-length (at k [] empty) g = refused-length 1 (omega arith)
kept-length (at k [] (inside t)) g = refused-length 1 (omega arith)
kept-length (at k [] (whole t)) g =
    let w = g.2 in
    counted-length t.reads t.counts (omega (arith, w.short)) (record { few = omega (arith, w.few, w.same); whole = omega (arith, w.same, w.all) })
kept-length (at k (x ∷ held) s) g = refused-length 1 (omega arith)
kept-length (stopped k n) g = refused-length n (omega (arith, number_small n g))

-- what a text refused with 7 prints does too
unsound-length : length (printed_at (stopped 0 7)) ≤ page_bytes
unfolding printed_at finish_by
unsound-length = refused-length 7 (omega arith)

-- so the output of every lister fits a page
pub printed-fits : (l : Lister) → Wide l → length (printed_at (state_of l)) ≤ page_bytes
printed-fits l w =
    by-test (sound_lister l) (λ e. kept-length (state_of l) (sound-kept l e w))
    (λ e. subst (λ (s : State). length (printed_at s) ≤ page_bytes) (sym (state-unsound l e)) unsound-length)

-- the page of a lister has room for its text
pub page-fits : (l : Lister) → Wide l → (r : Page) → r ≡ page_of (printed_at (state_of l)) → r.len ≤ page_bytes
page-fits l w r e = omega (arith, ap (λ (p : Page). p.len) e, page-len (printed_at (state_of l)), printed-fits l w)

-- and shows it
pub page-shows : (l : Lister) (r : Page) → r ≡ page_of (printed_at (state_of l)) → take r.len r.bytes ≡ printed_at (state_of l)
page-shows l r e = ap (λ (p : Page). take p.len p.bytes) e ∙ page-front (printed_at (state_of l))
