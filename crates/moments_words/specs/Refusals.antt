-- When a naming and a return are refused where the present session stands in lent words: each number exactly under its condition.
use Rattle.std.specs.Prelude.{ℕ, ◌<◌, ◌≡◌, ◌↔◌, ◌≢◌, Bool, true, false, ◌&&◌, List, leb, length}
use Rattle.session.specs.Sessions.{sound}
use Rattle.session_layout.specs.Layout.{session_length, session_in}
use Rattle.moments.specs.Names.{is_name, lies, is_set, session_under}
use Rattle.moments.specs.Refusals.{moment_refusal}
use Rattle.moments_words.specs.Calls.{name_in, return_in}

-- the words hold a sound session: there are enough of them, and the one in the first of them is sound
abbrev pub holds_sound : List ℕ → Bool
holds_sound w = leb session_length (length w) && sound (session_in w)

-- of every naming
pub record NamingInWords (w names : List ℕ) (k : ℕ) : Type 0 where
  -- 2: a number that is no name
  pub two : moment_refusal (name_in w names k).answer ≡ 2 ↔ is_name k ≡ false
  -- 7: after it, the words do not hold a sound session
  pub seven : moment_refusal (name_in w names k).answer ≡ 7 ↔ ((is_name k ≡ true) × (holds_sound w ≡ false))
  -- 6: last, the place does not lie within the words of the names
  pub six : moment_refusal (name_in w names k).answer ≡ 6 ↔ ((is_name k ≡ true) × (holds_sound w ≡ true) × (lies (length names) k ≡ false))
  -- a refusal leaves every lent word
  pub kept : moment_refusal (name_in w names k).answer ≢ 0 → (name_in w names k).names ≡ names

-- of every return
pub record ReturnInWords (w names : List ℕ) (k : ℕ) : Type 0 where
  -- 2: a number that is no name
  pub two : moment_refusal (return_in w names k).answer ≡ 2 ↔ is_name k ≡ false
  -- 11: after it, the name is not set in the words handed in
  pub eleven : moment_refusal (return_in w names k).answer ≡ 11 ↔ ((is_name k ≡ true) × (is_set names k ≡ false))
  -- 7: then, the session under the name, and it alone, is not sound
  pub seven : moment_refusal (return_in w names k).answer ≡ 7 ↔ ((is_set names k ≡ true) × (sound (session_under names k) ≡ false))
  -- 6: last, too few words for a session
  pub six : moment_refusal (return_in w names k).answer ≡ 6
      ↔ ((is_set names k ≡ true) × (sound (session_under names k) ≡ true) × (length w < session_length))
  -- a refusal leaves every lent word
  pub kept : moment_refusal (return_in w names k).answer ≢ 0 → (return_in w names k).words ≡ w
