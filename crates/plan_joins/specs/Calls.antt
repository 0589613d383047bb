-- What a level's join answers, and what it leaves in the two buffers lent to it.
use Rattle.std.specs.Prelude.{ℕ, List, Bool, cond, ◌&&◌, eqb, leb, length, take}
use Rattle.reuse_rows.specs.Rows.{put_at}
use Rattle.summary_calls.specs.Calls.{join_call}
use Rattle.plan_calls.specs.Calls.{summary_words, level_words, count_of}

-- how many words the summary in the output has, and both lent buffers
pub record Joined : Type 0 where
  pub words : ℕ
  pub work : List ℕ
  pub out : List ℕ

-- n words, with both buffers as they were
abbrev pub untouched : ℕ → List ℕ → List ℕ → Joined
untouched n work out = record { words = n; work = work; out = out }

-- the words are a level's, and each half has room for its summary
unfoldable pub holds : List ℕ → ℕ → List ℕ → ℕ → Bool
holds work held out words =
    leb level_words (length work) && (leb held summary_words && (leb words summary_words && leb words (length out)))

-- the summary held at the front of the level's words, then the one in the output, which is laid into the second half
unfoldable pub joined_held : List ℕ → ℕ → List ℕ → ℕ → Joined
joined_held work held out words = record {
  words = count_of (join_call (take held work) (take words out) out).answer;
  work = put_at work summary_words (take words out);
  out = (join_call (take held work) (take words out) out).buffer;
}

-- 0 where they do not fit; the summary in the output as it is where none is held; else both joined
unfoldable pub join_held : List ℕ → ℕ → List ℕ → ℕ → Joined
join_held work held out words =
    cond (holds work held out words)
    (cond (eqb held 0) (untouched words work out) (joined_held work held out words))
    (untouched 0 work out)
