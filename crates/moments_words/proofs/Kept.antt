-- Named moments of a session in lent words, case by case, and as by value.
use Rattle.std.specs.Prelude.{Result, Ok, Err}
use Rattle.reuse.specs.declared.refusals.Refusal.{Refusal}
use Rattle.reuse.specs.declared.refusals.Refusal.TheVariants.{OutOfRange, NoRoom, Unsound, NameNotSet}
use mathlib.Core.Path.{◌≡◌, refl, sym, ap, ◌∙◌}
use Prim.Native.Nat.{ℕ, ◌≤◌, ◌<◌}
use native.Mathlib.Omega.{arith}
use mathlib.Core.Bool.{Bool, true, false, cond}
use mathlib.Core.List.{List}
use lib.Dec.{leb}
use lib.ListN.{length}
use borrow.Author.Tests.{le-leb, lt-leb}
use Rattle.reuse_rows.specs.Rows.{put_at}
use Rattle.session.specs.Sessions.{Wide, sound}
use Rattle.session.specs.declared.Session.{Session}
use Rattle.session_layout.specs.Layout.{session_length, session_in, session_laid}
use Rattle.session_layout.proofs.Laid.{laid-row, laid-read, laid-over}
use Rattle.moments.specs.declared.Returned.{Returned}
use Rattle.moments.specs.Names.{is_name, is_set, session_under, not_named, name_call, return_call}
use Rattle.moments.proofs.Calls.{name-not}
use Rattle.moments.proofs.Refusals.{returned_by, returned-same}
use Rattle.moments_words.specs.Calls.{name_in, Came, not_came, return_in}

module _ (w names : List ℕ) (k : ℕ) where
  -- a number that is no name
  pub in-not : is_name k ≡ false → name_in w names k ≡ not_named OutOfRange names
  unfolding name_in
  in-not e = simp e

  module _ (is : is_name k ≡ true) where
    -- the session in the words is named
    pub in_all : session_length ≤ length w → name_in w names k ≡ name_call (session_in w) names k
    unfolding name_in
    in_all h = simp (is, le-leb session_length (length w) h)

-- the words after a return, by what it answers
abbrev came_by : Result Unit Refusal → Session → List ℕ → Came
came_by (Ok tt) s w = cond (leb session_length (length w)) (record { answer = Ok tt; words = put_at w 0 (session_laid s) }) (not_came NoRoom w)
came_by (Err n) s w = not_came n w

-- a return, whatever session is present
came : (w names : List ℕ) (k : ℕ) (s : Session) → return_in w names k ≡ came_by (return_call s names k).answer (return_call s names k).session w
unfolding return_in return_call
came w names k s = by (is_name k) (is_set names k) (sound (session_under names k))
  where
    -- by the three tests
    by : (a b c : Bool) → cond a (cond b (cond c (came_by (Ok tt) (session_under names k) w) (not_came Unsound w)) (not_came NameNotSet w)) (not_came OutOfRange w)
        ≡ came_by (returned_by s names k a b c).answer (returned_by s names k a b c).session w
    by true true true = refl
    by true true false = refl
    by true false c = refl
    by false b c = refl

module _ (w names : List ℕ) (k : ℕ) (s : Session) (r : Returned) (e : r ≡ return_call s names k) where
  -- by the session and the answer of the return
  from-value : return_in w names k ≡ came_by r.answer r.session w
  from-value = rw e (came w names k s)

  -- a refusal leaves the words
  pub came_refused : (n : Refusal) → r.answer ≡ Err n → return_in w names k ≡ not_came n w
  came_refused n h = let t = from-value in simp h at t

  module _ (h : r.answer ≡ Ok tt) where
    -- no room for the session
    pub came-short : length w < session_length → return_in w names k ≡ not_came NoRoom w
    came-short l = let t = from-value in simp (h, lt-leb session_length (length w) l) at t

    -- the session's words are put
    pub came-all : session_length ≤ length w → return_in w names k ≡ record { answer = Ok tt; words = put_at w 0 (session_laid r.session) }
    came-all l = let t = from-value in simp (h, le-leb session_length (length w) l) at t

-- a session laid into words
module _ (s : Session) (wide : Wide s) (w : List ℕ) (l : session_length ≤ length w) (names : List ℕ) (k : ℕ) where
  -- is named as it is by itself
  pub name-kept : name_in (put_at w 0 (session_laid s)) names k ≡ name_call s names k
  name-kept = by (is_name k) refl
    where
      by : (b : Bool) → is_name k ≡ b → name_in (put_at w 0 (session_laid s)) names k ≡ name_call s names k
      by true e =
          in_all (put_at w 0 (session_laid s)) names k e (omega (arith, l, laid-row s wide w l))
          ∙ ap (λ (t : Session). name_call t names k) (laid-read s wide w)
      by false e = in-not (put_at w 0 (session_laid s)) names k e ∙ sym (name-not s names k e)

  -- and returns as it does by itself
  pub return_kept : let t = (return_call s names k).session in Wide t
      → return_in (put_at w 0 (session_laid s)) names k
      ≡ record { answer = (return_call s names k).answer; words = put_at w 0 (session_laid (return_call s names k).session) }
  return_kept v = came (put_at w 0 (session_laid s)) names k s ∙ by (return_call s names k).answer refl
    where
      -- by the answer
      by : (a : Result Unit Refusal) → (return_call s names k).answer ≡ a
          → came_by a (return_call s names k).session (put_at w 0 (session_laid s)) ≡ record { answer = a; words = put_at w 0 (session_laid (return_call s names k).session) }
      by (Ok tt) e =
          simp (le-leb session_length (length (put_at w 0 (session_laid s))) (omega (arith, l, laid-row s wide w l)))
          (ap (λ (r : List ℕ). record { answer = Ok tt; words = r }) (laid-over s (return_call s names k).session wide v w l))
      by (Err n) e = ap (λ (t : Session). record { answer = Err n; words = put_at w 0 (session_laid t) }) (sym (returned-same s names k n e))
