-- When a naming and a return are refused: each number exactly under its condition, looked at after those before it.
use Rattle.reuse.specs.Refusals.{refusal_number}
use Rattle.std.specs.Prelude.{ℕ, ◌≡◌, ◌↔◌, ◌≢◌, true, false, List, length, Result, Ok, Err}
use Rattle.reuse.specs.declared.refusals.Refusal.{Refusal}
use Rattle.session.specs.declared.Session.{Session}
use Rattle.session.specs.Sessions.{sound}
use Rattle.moments.specs.Names.{is_name, lies, is_set, session_under, name_call, return_call}

-- the refusal's number, 0 where there is none
abbrev pub moment_refusal : Result Unit Refusal → ℕ
moment_refusal (Ok tt) = 0
moment_refusal (Err r) = refusal_number r

-- of every naming
pub record NamingRefusals (s : Session) (names : List ℕ) (k : ℕ) : Type 0 where
  -- 2: a number that is no name
  pub two : moment_refusal (name_call s names k).answer ≡ 2 ↔ is_name k ≡ false
  -- 7: after it, the present session is not sound
  pub seven : moment_refusal (name_call s names k).answer ≡ 7 ↔ ((is_name k ≡ true) × (sound s ≡ false))
  -- 6: last, the place does not lie within the words
  pub six : moment_refusal (name_call s names k).answer ≡ 6 ↔ ((is_name k ≡ true) × (sound s ≡ true) × (lies (length names) k ≡ false))
  -- a refusal leaves every lent word
  pub kept : moment_refusal (name_call s names k).answer ≢ 0 → (name_call s names k).names ≡ names

-- of every return
pub record ReturnRefusals (s : Session) (names : List ℕ) (k : ℕ) : Type 0 where
  -- 2: a number that is no name
  pub two : moment_refusal (return_call s names k).answer ≡ 2 ↔ is_name k ≡ false
  -- 11: after it, the name is not set in the words handed in
  pub eleven : moment_refusal (return_call s names k).answer ≡ 11 ↔ ((is_name k ≡ true) × (is_set names k ≡ false))
  -- 7: then, the session under the name, and it alone, is not sound
  pub seven : moment_refusal (return_call s names k).answer ≡ 7 ↔ ((is_set names k ≡ true) × (sound (session_under names k) ≡ false))
  -- a refusal hands the present session back
  pub kept : moment_refusal (return_call s names k).answer ≢ 0 → (return_call s names k).session ≡ s
