-- Worked examples, computed from the definitions: the paper's texts read back, and one text for each way to be refused.
use mathlib.Core.Path.{◌≡◌, refl}
use Prim.Native.Nat.{ℕ, zero, suc, ◌≤◌, ◌<◌}
use native.Mathlib.Omega.{arith}
use mathlib.Core.List.{List, [], ◌∷◌, ◌++◌}
use mathlib.Core.Bool.{true, false}
use lib.ListN.{length}
use borrow.Author.Tests.{le-ltb, lt-leb}
use Rattle.reuse.specs.Limits.{max_reads, max_extents}
use Rattle.texts.specs.Limits.{max_extent}
use Rattle.texts.specs.Bytes.{bytes}
use Rattle.texts.specs.Digits.{decimal, decimal_by, number_from, number_of}
use Rattle.texts.specs.Words.{word_at, after, closes_of, ending_of}
use Rattle.texts.specs.Lines.{got, refused, unless, line_done, byte, feed_by, finish_by}
use Rattle.texts.specs.Plans.{Plan, seg, join, last, join_text, form_text, parts_text, text_of, depth, parts_depth, reads, parts_reads}
use Rattle.texts.specs.PlanTexts.{line_of, add_parts, put, line_by, plan_step, plan_feed, plan_lines, plan_of}
use Rattle.reuse.specs.Lists.{mem, remove, firsts}
use Rattle.texts.specs.Logs.{log_text, reads_text, row_of, over_read, row_by, head_by, step_by, log_feed, feed, finish, log_of}

-- the paper's plan
abbrev paper_plan : Plan
paper_plan = join (seg 4) (last (join (seg 1) (last (seg 2))))

-- its text
abbrev paper_text : List ℕ
paper_text = bytes "(join\n (seg 4)\n (join\n  (seg 1)\n  (seg 2)))\n"

-- it is printed so
pub paper-prints : text_of paper_plan ≡ paper_text
unfolding text_of form_text parts_text decimal decimal_by
paper-prints = refl

-- two joins are open together
pub paper-depth : depth paper_plan ≡ 2
unfolding depth parts_depth
paper-depth = refl

-- its segs cover seven reads
pub paper-reads : reads paper_plan ≡ 7
unfolding reads parts_reads
paper-reads = refl

-- n segs of one read, a line each, under one join
pub seg_lines : ℕ → List ℕ
seg_lines zero = []
seg_lines (suc n) = bytes " (seg 1)\n" ++ seg_lines n

-- n joins opened one in another, from under d brackets on
pub opened_lines : ℕ → ℕ → List ℕ
opened_lines d zero = []
opened_lines d (suc n) = join_text d ++ (10 ∷ opened_lines (suc d) n)

-- plan texts that are read
pub plans-read :
    -- the paper's plan
    (plan_of paper_text ≡ got paper_plan)
    -- a lone seg
    × (plan_of (bytes "(seg 7)\n") ≡ got (seg 7))
    -- the plan of an empty log
    × (plan_of (bytes "(seg 0)\n") ≡ got (seg 0))
    -- the longest seg
    × (plan_of (bytes "(seg 1048576)\n") ≡ got (seg 1_048_576))
unfolding plan_of plan_lines plan_feed plan_step line_by line_of put add_parts unless line_done byte feed_by finish_by after word_at closes_of ending_of number_of number_from
plans-read = (refl, refl, refl, refl)

-- plan texts that are refused with 1: a line with which no text goes on, or an early end
pub plans-refused-one :
    -- a leading zero
    (plan_of (bytes "(seg 07)\n") ≡ refused 1 1)
    -- eleven digits
    × (plan_of (bytes "(seg 10000000000)\n") ≡ refused 1 1)
    -- no digit
    × (plan_of (bytes "(seg )\n") ≡ refused 1 1)
    -- a byte between the form and byte 10
    × (plan_of (bytes "(seg 7)\r\n") ≡ refused 1 1)
    -- one leading space too many
    × (plan_of (bytes "(join\n  (seg 4)\n") ≡ refused 2 1)
    -- a join closed with no part
    × (plan_of (bytes "(join)\n") ≡ refused 1 1)
    -- a join closed after one part
    × (plan_of (bytes "(join\n (seg 4))\n") ≡ refused 2 1)
    -- one bracket too many
    × (plan_of (bytes "(join\n (seg 4)\n (seg 3)))\n") ≡ refused 3 1)
    -- one bracket too many on a seg too long: 1 before 2
    × (plan_of (bytes "(seg 1048577))\n") ≡ refused 1 1)
    -- a line after the end
    × (plan_of (bytes "(seg 7)\n(seg 0)\n") ≡ refused 2 1)
    -- a byte after the end
    × (plan_of (bytes "(seg 7)\n ") ≡ refused 2 1)
    -- a last line without byte 10
    × (plan_of (bytes "(seg 7)") ≡ refused 1 1)
    -- an early end after an ended line: the line after the last
    × (plan_of (bytes "(join\n (seg 4)\n (seg 3)\n") ≡ refused 4 1)
    -- no bytes
    × (plan_of [] ≡ refused 1 1)
    -- eight joins open, which may be, and an early end
    × (plan_of (opened_lines 0 8) ≡ refused 9 1)
unfolding plan_of plan_lines plan_feed plan_step line_by line_of put add_parts unless line_done byte feed_by finish_by after word_at closes_of ending_of number_of number_from opened_lines
plans-refused-one = (refl, refl, refl, refl, refl, refl, refl, refl, refl, refl, refl, refl, refl, refl, refl)

-- plan texts that are refused with 2
pub plans-refused-two :
    -- a seg above 1,048,576
    (plan_of (bytes "(seg 1048577)\n") ≡ refused 1 2)
    -- the largest number there is
    × (plan_of (bytes "(seg 9999999999)\n") ≡ refused 1 2)
    -- a seventeenth part, too long: 2 before 4
    × (plan_of (bytes "(join\n" ++ (seg_lines 16 ++ bytes " (seg 1048577)\n")) ≡ refused 18 2)
unfolding plan_of plan_lines plan_feed plan_step line_by line_of put add_parts unless line_done byte feed_by finish_by after word_at closes_of ending_of number_of number_from seg_lines
plans-refused-two = (refl, refl, refl)

-- plan texts that are refused with 4
pub plans-refused-four :
    -- a seventeenth part of one join
    (plan_of (bytes "(join\n" ++ seg_lines 17) ≡ refused 18 4)
    -- a join opened while eight are open
    × (plan_of (opened_lines 0 9) ≡ refused 9 4)
unfolding plan_of plan_lines plan_feed plan_step line_by line_of put add_parts unless line_done byte feed_by finish_by after word_at closes_of ending_of number_of number_from seg_lines opened_lines
plans-refused-four = (refl, refl)

-- a text of 65,536 bytes goes by its lines; a longer one is refused with 4 at no line
pub bytes-at-the-edge : (text : List ℕ) → (length text ≡ 65_536 → plan_of text ≡ plan_lines text) × (length text ≡ 65_537 → plan_of text ≡ refused 0 4)
unfolding plan_of
bytes-at-the-edge text = ((λ e. simp e), λ e. simp e)

-- the seven reads of the paper
abbrev seven : List ℕ
seven = 7 ∷ 3 ∷ 7 ∷ 9 ∷ 3 ∷ 3 ∷ 9 ∷ []

-- their text
abbrev seven_text : List ℕ
seven_text = bytes "(trace\n (read 7)\n (read 3)\n (read 7)\n (read 9)\n (read 3)\n (read 3)\n (read 9))\n"

-- it is printed so
pub seven-prints : log_text seven ≡ seven_text
unfolding log_text reads_text decimal decimal_by
seven-prints = refl

-- log texts that are read
pub logs-read :
    -- the seven reads
    (log_of seven_text ≡ got seven)
    -- the empty trace
    × (log_of (bytes "(trace)\n") ≡ got [])
    -- the largest extent
    × (log_of (bytes "(trace\n (read 4294967295))\n") ≡ got (4_294_967_295 ∷ []))
unfolding log_of finish feed log_feed step_by head_by row_by row_of mem remove firsts unless line_done byte feed_by finish_by after word_at closes_of ending_of number_of number_from
logs-read = (refl, refl, refl)

-- log texts that are refused
pub logs-refused :
    -- 2: an extent above 4,294,967,295
    (log_of (bytes "(trace\n (read 4294967296))\n") ≡ refused 2 2)
    -- 1: eleven digits
    × (log_of (bytes "(trace\n (read 10000000000))\n") ≡ refused 2 1)
    -- 1: a leading zero
    × (log_of (bytes "(trace\n (read 00))\n") ≡ refused 2 1)
    -- 1: a line after the end
    × (log_of (bytes "(trace)\n (read 7))\n") ≡ refused 2 1)
    -- 1: a last line without byte 10
    × (log_of (bytes "(trace)") ≡ refused 1 1)
    -- 1: an early end after an ended line: the line after the last
    × (log_of (bytes "(trace\n") ≡ refused 2 1)
    -- 1: a line longer than any may be, before it ends
    × (log_of (bytes "(trace\n (read 7                    ") ≡ refused 2 1)
unfolding log_of finish feed log_feed step_by head_by row_by row_of mem remove firsts unless line_done byte feed_by finish_by after word_at closes_of ending_of number_of number_from
logs-refused = (refl, refl, refl, refl, refl, refl, refl)

-- the limit of different extents that one read more breaks
pub extents-at-the-edge : (t : List ℕ) (x : ℕ) → x ≤ max_extent → length t < max_reads →
    -- the last extent that there may be
    (suc (length (firsts t)) ≡ max_extents → mem x t ≡ false → over_read t x ≡ 0)
    -- 9: one more
    × (length (firsts t) ≡ max_extents → mem x t ≡ false → over_read t x ≡ 9)
    -- a known extent after the last
    × (length (firsts t) ≡ max_extents → mem x t ≡ true → over_read t x ≡ 0)
extents-at-the-edge t x h l = (
  (λ e m. simp (le-ltb max_extent x h, lt-leb max_reads (length t) l, m, lt-leb max_extents (length (firsts t)) (omega arith))),
  (λ e m. simp (le-ltb max_extent x h, lt-leb max_reads (length t) l, m, e)),
  λ e m. simp (le-ltb max_extent x h, lt-leb max_reads (length t) l, m),
)

-- the last read that there may be, of a known extent, and 8 for the next, before 9
pub reads-at-the-edge : (t : List ℕ) (x : ℕ) → x ≤ max_extent
    → (suc (length t) ≡ max_reads → mem x t ≡ true → over_read t x ≡ 0) × (length t ≡ max_reads → over_read t x ≡ 8)
reads-at-the-edge t x h = (
  (λ e m. simp (le-ltb max_extent x h, lt-leb max_reads (length t) (omega arith), m)),
  λ e. simp (le-ltb max_extent x h, e),
)
