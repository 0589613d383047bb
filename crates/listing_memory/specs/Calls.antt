-- The listing of a text in memory: what the call answers and leaves.
use Rattle.std.specs.Prelude.{ℕ, List}
use Rattle.reuse.specs.Refusals.{refusal_with}
use Rattle.summary_calls.specs.Calls.{Wrote, wrote, refused}
use Rattle.texts.specs.Lines.{Read, got, refused as faulty}
use Rattle.texts.specs.Logs.{log_of}
use Rattle.listing_texts.specs.Listings.{sizes_of}

-- by a log text's answer: the listing's bytes at the front of the buffer, or the refusal
abbrev pub list_by : Read (List ℕ) → List ℕ → Wrote
list_by (got t) buffer = wrote (sizes_of t) buffer
list_by (faulty line n) buffer = refused (refusal_with n) buffer

-- the listing of a text: the text's refusal, then 6
unfoldable pub list_call : List ℕ → List ℕ → Wrote
list_call text buffer = list_by (log_of text) buffer
