-- Words that hold a session: too few of them, and what a refusal leaves.
use Rattle.std.specs.Prelude.{Option, Some, None, Result, Ok, Err, is_ok}
use Rattle.reuse.specs.declared.refusals.Refusal.{Refusal}
use Rattle.reuse.specs.declared.refusals.Refusal.TheVariants.{NoRoom, Unsound}
use mathlib.Core.Path.{◌≡◌, refl, sym, ap, ◌∙◌}
use Prim.Native.Nat.{ℕ, ◌≤◌, ◌<◌}
use native.Mathlib.Omega.{arith}
use mathlib.Core.List.{List}
use mathlib.Core.Bool.{true, false, true≢false, false≢true}
use lib.ListN.{length}
use lib.Dec.{leb}
use borrow.Author.Tests.{le-leb, leb-true}
use Rattle.reuse.proofs.Lists.{by-test}
use Rattle.reuse.proofs.Told.{told, untold}
use Rattle.reuse_rows.specs.Rows.{put_at, placed}
use Rattle.summary_calls.specs.Calls.{refused}
use Rattle.summary_calls.proofs.Calls.{wrote-short, wrote-all}
use Rattle.session.specs.declared.Session.{Session}
use Rattle.session_calls.specs.declared.Answer.{Answer}
use Rattle.session.specs.Sessions.{fresh, Wide}
use Rattle.session.specs.Reads.{refused as read_refused, read_of}
use Rattle.session_summary.specs.Summaries.{summary_call, misses_call, share_call}
use Rattle.session_layout.specs.Layout.{session_length, session_in, kept_in, session_laid}
use Rattle.session_words.specs.Calls.{new_session, held_in, read_in, session_left, summary_in, misses_in, share_in}
use Rattle.session_layout.proofs.Laid.{fresh-wide, laid-length, laid-fits, laid-row, laid-read}

module _ (w : List ℕ) where
  -- no room for a new session
  pub new-short : length w < session_length → new_session w ≡ refused NoRoom w
  unfolding new_session
  new-short few = wrote-short (session_laid fresh) w (omega (arith, few, laid-length fresh fresh-wide))

  module _ (enough : session_length ≤ length w) where
    -- a new session is written
    pub new-all : new_session w ≡ record { answer = Ok session_length; buffer = placed w 0 (session_laid fresh) }
    unfolding new_session
    new-all =
        wrote-all (session_laid fresh) w session_length (laid-length fresh fresh-wide) enough
        ∙ ap (λ (b : List ℕ). record { answer = Ok session_length; buffer = b }) (sym (laid-fits fresh fresh-wide w enough))

    -- the session in the words reads
    read_all : (x : ℕ) → read_in w x ≡ read_of (session_in w) x
    unfolding read_in
    read_all x = simp (le-leb session_length (length w) enough)

-- the session kept in the words is the one held there
pub kept-held : (w : List ℕ) {s : Session} → kept_in w ≡ Some s → held_in w ≡ Ok s
unfolding kept_in held_in
kept-held w {s} e =
    by-test (leb session_length (length w))
    (λ t. let q : ◌≡◌ {A = Option Session} (Some (session_in w)) (Some s) = simp t at e in let is : session_in w ≡ s = cc in simp t (ap Ok is))
    (λ f. let q : ◌≡◌ {A = Option Session} None (Some s) = simp f at e in absurd (cc))

-- and where none is kept, none is held
pub unkept-held : (w : List ℕ) → kept_in w ≡ None → held_in w ≡ Err Unsound
unfolding kept_in held_in
unkept-held w e =
    by-test (leb session_length (length w))
    (λ t. let q : ◌≡◌ {A = Option Session} (Some (session_in w)) None = simp t at e in absurd (cc))
    (λ f. simp f)

-- no session in the words: what is refused, and why
module _ (w : List ℕ) {r : Refusal} (h : held_in w ≡ Err r) where
  none-held : (leb session_length (length w) ≡ false) × (r ≡ Unsound)
  unfolding held_in
  none-held = untold (leb session_length (length w)) (session_in w) Unsound r h

  pub read-unheld : (x : ℕ) → read_in w x ≡ read_refused (session_in w) r
  unfolding read_in
  read-unheld x = simp (none-held.0, none-held.1)

  pub summary-unheld : (buffer : List ℕ) → summary_in w buffer ≡ refused r buffer
  unfolding summary_in
  summary-unheld buffer = simp (none-held.0, none-held.1)

  pub misses-unheld : (c : ℕ) → misses_in w c ≡ Err r
  unfolding misses_in
  misses-unheld c = simp (none-held.0, none-held.1)

  pub share-unheld : (c : ℕ) → share_in w c ≡ Err r
  unfolding share_in
  share-unheld c = simp (none-held.0, none-held.1)

-- a session in the words: there are enough of them, and the call is the session's
module _ (w : List ℕ) {s : Session} (h : held_in w ≡ Ok s) where
  one-held : (leb session_length (length w) ≡ true) × (s ≡ session_in w)
  unfolding held_in
  one-held = told (leb session_length (length w)) (session_in w) s Unsound h

  pub held-enough : session_length ≤ length w
  held-enough = leb-true session_length (length w) one-held.0

  pub read-held : (x : ℕ) → read_of s x ≡ read_in w x
  unfolding read_in
  read-held x = simp (one-held.0, one-held.1)

  pub summary-held : (buffer : List ℕ) → summary_call s buffer ≡ summary_in w buffer
  unfolding summary_in
  summary-held buffer = simp (one-held.0, one-held.1)

  pub misses-held : (c : ℕ) → misses_call s c ≡ misses_in w c
  unfolding misses_in
  misses-held c = simp (one-held.0, one-held.1)

  pub share-held : (c : ℕ) → share_call s c ≡ share_in w c
  unfolding share_in
  share-held c = simp (one-held.0, one-held.1)

-- a session laid into words reads as it does by itself
pub read_kept : (s : Session) → Wide s → (w : List ℕ) → session_length ≤ length w → (x : ℕ)
    → read_in (put_at w 0 (session_laid s)) x ≡ read_of s x
read_kept s wide w l x =
    read_all (put_at w 0 (session_laid s)) (omega (arith, l, laid-row s wide w l)) x ∙ ap (λ (t : Session). read_of t x) (laid-read s wide w)

-- a read that is accepted puts the session's words
pub left-read : (a : Result Answer Refusal) (s : Session) (w : List ℕ) → is_ok a ≡ true → session_left a s w ≡ put_at w 0 (session_laid s)
left-read (Ok a) s w e = refl
left-read (Err r) s w e = absurd (false≢true e)

-- a refusal leaves the words
pub left-refused : (a : Result Answer Refusal) (s : Session) (w : List ℕ) → is_ok a ≡ false → session_left a s w ≡ w
left-refused (Ok a) s w e = absurd (true≢false e)
left-refused (Err r) s w e = refl
