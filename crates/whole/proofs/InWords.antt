-- Runs of calls with the present session in lent words are the runs by value.
use mathlib.Core.Path.{◌≡◌, refl, sym, ap, ◌∙◌}
use Prim.Native.Nat.{ℕ, ◌≤◌}
use mathlib.Core.List.{List, [], ◌∷◌}
use lib.ListN.{length}
use Rattle.reuse.specs.Lru.{cold, at}
use Rattle.reuse_rows.specs.Rows.{put_at}
use Rattle.session.specs.Sessions.{Wide, fresh}
use Rattle.session.specs.declared.Step.{Step}
use Rattle.session.specs.Reads.{read_of}
use Rattle.session_layout.specs.Layout.{session_length, session_laid}
use Rattle.session_layout.proofs.Laid.{fresh-wide, laid-fits, laid-over}
use Rattle.session_words.specs.Calls.{read_in, session_left}
use Rattle.session_words.proofs.Kept.{new-all, read_kept}
use Rattle.moments.specs.Names.{Named, name_call, return_call}
use Rattle.moments_words.specs.Calls.{Came, name_in, return_in}
use Rattle.moments_words.proofs.Kept.{name-kept, return_kept}
use Rattle.summary_calls.specs.Calls.{Wrote}
use Rattle.whole.specs.Runs.{gives, refused}
use Rattle.whole.specs.Owed.{Seen, read_owed}
use Rattle.whole.specs.Moments.{Call, read, name, return_to, reading, moment, State, told, left, state_after, told_by, begun, Unset}
use Rattle.whole.specs.Remembered.{Memory, nothing, then}
use Rattle.whole.specs.InWords.{Rows, told_in, left_in, rows_after, told_by_in, begun_in, InWords}
use Rattle.whole.proofs.Calls.{step_for, read_step}
use Rattle.whole.proofs.Moments.{Agrees, left-agrees, begun-agrees}

-- the rows that hold a state
abbrev held : List ℕ → State → Rows
held w s = record { words = put_at w 0 (session_laid s.session); names = s.names }

module _ (w : List ℕ) (l : session_length ≤ length w) where
  module _ (lent : ℕ) (s : State) (m : Memory) (a : Agrees lent s m) where
    -- the widths of the present session
    wide : Wide s.session
    wide = a.present.stands.wide

    -- the session after a read stands in the words
    read_left : (x : ℕ) → let r = read_of s.session x in
        session_left r.answer r.session (put_at w 0 (session_laid s.session)) ≡ put_at w 0 (session_laid r.session)
    read_left x = by (read_owed m.now x) (read_step s.session m.now a.present.stands x)
      where
        -- the read
        r : Step
        r = read_of s.session x

        -- words put over the session's
        put : put_at (put_at w 0 (session_laid s.session)) 0 (session_laid r.session) ≡ put_at w 0 (session_laid r.session)
        put = laid-over s.session r.session wide (left-agrees lent s m a (read x)).present.stands.wide w l

        -- by what is owed
        by : (o : Seen) → r ≡ step_for s.session x o
            → session_left r.answer r.session (put_at w 0 (session_laid s.session)) ≡ put_at w 0 (session_laid r.session)
        by (gives (cold n)) e = ap (λ (q : Step). session_left q.answer r.session (put_at w 0 (session_laid s.session))) e ∙ put
        by (gives (at d)) e = ap (λ (q : Step). session_left q.answer r.session (put_at w 0 (session_laid s.session))) e ∙ put
        by (refused n) e =
            ap (λ (q : Step). session_left q.answer r.session (put_at w 0 (session_laid s.session))) e
            ∙ sym (ap (λ (q : Step). put_at w 0 (session_laid q.session)) e)

    -- the read of the words is the session's
    reads : (x : ℕ) → read_in (put_at w 0 (session_laid s.session)) x ≡ read_of s.session x
    reads x = read_kept s.session wide w l x

    -- so is the naming
    names : (k : ℕ) → name_in (put_at w 0 (session_laid s.session)) s.names k ≡ name_call s.session s.names k
    names k = name-kept s.session wide w l s.names k

    -- and the return
    returns : (k : ℕ) → return_in (put_at w 0 (session_laid s.session)) s.names k
        ≡ record { answer = (return_call s.session s.names k).answer; words = put_at w 0 (session_laid (return_call s.session s.names k).session) }
    returns k = return_kept s.session wide w l s.names k (left-agrees lent s m a (return_to k)).present.stands.wide

    -- a call answers what it does by value
    told_in_lem : (c : Call) → told_in (held w s) c ≡ told s c
    told_in_lem (read x) = ap (λ (q : Step). reading q.answer) (reads x)
    told_in_lem (name k) = ap (λ (q : Named). moment q.answer) (names k)
    told_in_lem (return_to k) = ap (λ (q : Came). moment q.answer) (returns k)

    -- and leaves the words of what it leaves by value
    left_in_lem : (c : Call) → left_in (held w s) c ≡ held w (left s c)
    left_in_lem (read x) =
        ap (λ (q : Step). record { words = session_left q.answer q.session (put_at w 0 (session_laid s.session)); names = s.names }) (reads x)
        ∙ ap (λ (v : List ℕ). record { words = v; names = s.names }) (read_left x)
    left_in_lem (name k) = ap (λ (q : Named). record { words = put_at w 0 (session_laid s.session); names = q.names }) (names k)
    left_in_lem (return_to k) = ap (λ (q : Came). record { words = q.words; names = s.names }) (returns k)

  -- so does a list of calls
  told-by-in : (lent : ℕ) (calls : List Call) (s : State) (m : Memory) → Agrees lent s m → told_by_in (held w s) calls ≡ told_by s calls
  unfolding told_by_in told_by
  told-by-in lent [] s m a = refl
  told-by-in lent (c ∷ cs) s m a =
      rw (told_in_lem lent s m a c, left_in_lem lent s m a c, told-by-in lent cs (left s c) (then lent m c) (left-agrees lent s m a c))

  rows-after : (lent : ℕ) (calls : List Call) (s : State) (m : Memory) → Agrees lent s m → rows_after (held w s) calls ≡ held w (state_after s calls)
  unfolding rows_after state_after
  rows-after lent [] s m a = refl
  rows-after lent (c ∷ cs) s m a =
      rw (left_in_lem lent s m a c) (rows-after lent cs (left s c) (then lent m c) (left-agrees lent s m a c))

  -- at the beginning
  begun-in : (names : List ℕ) → begun_in w names ≡ held w (begun names)
  begun-in names =
      ap (λ (v : Wrote). record { words = v.buffer; names = names }) (new-all w l)
      ∙ ap (λ (v : List ℕ). record { words = v; names = names }) (laid-fits fresh fresh-wide w l)

  -- every run from a new session in words
  pub in_words : (names : List ℕ) → Unset names → (calls : List Call) → InWords w names calls
  in_words names unset calls =
      let a = begun-agrees names unset in
      let e : rows_after (begun_in w names) calls ≡ held w (state_after (begun names) calls) =
      rw (begun-in names) (rows-after (length names) calls (begun names) nothing a) in
      record {
        answers = rw (begun-in names) (told-by-in (length names) calls (begun names) nothing a);
        session = ap (λ (r : Rows). r.words) e;
        named = ap (λ (r : Rows). r.names) e;
      }
