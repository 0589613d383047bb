-- Words that hold a session: too few of them, or enough.
use Rattle.std.proofs.Common.{◌≡◌, ℕ, ◌≤◌, ◌<◌, List, length, Some, None}
use borrow.Author.Tests.{le-leb, lt-leb}
use Rattle.session_layout.specs.Layout.{session_length, session_in, kept_in}

module _ (w : List ℕ) where
  -- too few words: none
  pub kept-short : length w < session_length → kept_in w ≡ None
  unfolding kept_in
  kept-short l = simp (lt-leb session_length (length w) l)

  -- enough words: the session in them
  pub kept-all : session_length ≤ length w → kept_in w ≡ Some (session_in w)
  unfolding kept_in
  kept-all l = simp (le-leb session_length (length w) l)
